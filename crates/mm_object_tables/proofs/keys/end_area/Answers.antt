use Rattle.std.proofs.Common.{◌≡◌, ◌-◌, arith, ap, sym, ◌∙◌, is_some}
use Rattle.mm_commit_charge.specs.{CommitOf}
use Rattle.mm_world.specs.{AreaOf, area_charge}
use Rattle.mm_object_tables.proofs.{no_charge}
use Rattle.mm_object_tables.proofs.keys.end_area.Goals as goal

pub returns-else-is_none-clause-refunded : goal.returns-else-is_none-clause-refunded
returns-else-is_none-clause-refunded g c =
    let commit : CommitOf = c.args.commit.now in
    let a : AreaOf (Unit {0}) = c.args.pages.now in
    let none = no_charge a (sym (ap is_some c.first_block.ensures) ∙ c.if-is_none.ensures) in
    let same : commit.charge ≡ commit.charge - area_charge a = omega (arith, none) in
    λ i. record { charge = same i; limit = commit.limit }
