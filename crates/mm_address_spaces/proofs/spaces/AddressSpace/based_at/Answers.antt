use Rattle.std.proofs.Common.{sym, subst}
use Rattle.std.specs.Prelude.{IfNone}
use Rattle.std.specs.Cmp.{unsigned_Decides}
use Rattle.std.proofs.lemmas.Bool.{ne_eqb}
use Rattle.mm_types.specs.{address_of}
use Rattle.mm_address_spaces.specs.{NoneBased}
use Rattle.mm_address_spaces.proofs.{based_some, based_other, based_none}
use Rattle.mm_address_spaces.proofs.spaces.AddressSpace.based_at.Goals as goal

pub returns-in_err-region-clause-none : goal.returns-in_err-region-clause-none
returns-in_err-region-clause-none c =
    let rs = c.args.self.now.regions in
    subst (λ o. IfNone o (NoneBased rs c.args.addr)) (sym c.from_residual.ensures)
    (based_none rs c.region_at.ensures.sound c.args.addr c.in_err-region.ensures.none)

pub returns-then-region-addr-clause-some : goal.returns-then-region-addr-clause-some
returns-then-region-addr-clause-some c =
    let region = c.in_ok-region.region.now in
    based_some c.args.self.now.regions c.region_at.ensures.sound c.args.addr region c.in_ok-region.ensures.some
    ((unsigned_Decides (address_of region.base.0) c.args.addr).1 c.if-region-addr.true)

pub returns-else-region-addr-clause-none : goal.returns-else-region-addr-clause-none
returns-else-region-addr-clause-none c =
    let region = c.in_ok-region.region.now in
    based_other c.args.self.now.regions c.region_at.ensures.sound c.args.addr region c.in_ok-region.ensures.some
    (ne_eqb (address_of region.base.0) c.args.addr c.if-region-addr.false)
