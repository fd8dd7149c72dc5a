use Rattle.std.proofs.Common.{subst}
use Rattle.mm_working_sets.specs.{WorkingSetOf, EachAtOnePlace}
use Rattle.mm_working_sets.proofs.sets.WorkingSet.every_page_has_one_place.Goals as goal

pub returns-clause-each : goal.returns-clause-each
returns-clause-each c =
    let each = c.self.invariant.each in
    subst (λ (s : WorkingSetOf). EachAtOnePlace s) c.self.view_is (record { aged = each.aged; placed = each.placed; once = each.once; young = each.young })
