use Rattle.std.proofs.Common.{◌<◌, ◌++◌, ◌∷◌, [], Bool, List, subst, sym}
use Rattle.mm_page_lists.specs.{ListsOf, list_at, with_list}
use Rattle.mm_replay.specs.{InFlightOf, AreLists, AreFlagged}
use Rattle.mm_replay.proofs.{flagged_begun}
use Rattle.mm_replay.proofs.in_flight.InFlight.begin.Goals as goal

pub invariant_of-self : goal.invariant_of-self
invariant_of-self c =
    let s = c.self.inside in
    let low : c.args.f < c.self.inside.list.numbers = subst (λ (v : InFlightOf). c.args.f < v.frames) (sym c.self.view_is) c.requires.low in
    subst (λ (v : ListsOf). AreFlagged v c.set_at.new.items.items) (sym c.push_back.ensures.pushed)
    (subst (λ (flags : List Bool). AreFlagged (with_list c.self.inside.list 0 (list_at c.self.inside.list.lists 0 ++ c.args.f ∷ [])) flags) (sym c.set_at.ensures)
    (flagged_begun s.list s.flags.items c.args.f c.self.invariant low (subst (AreLists 1) c.push_back.ensures.pushed c.push_back.ensures.kept)))
