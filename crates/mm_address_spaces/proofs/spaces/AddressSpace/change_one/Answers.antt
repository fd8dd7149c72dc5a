use Rattle.std.proofs.Common.{◌≡◌, ◌-◌, ◌∙◌, is_some, sym, ap, arith, slice_set}
use Rattle.mm_world.specs.{RegionOf, row_at}
use Rattle.mm_address_spaces.specs.{changed_row}
use Rattle.mm_address_spaces.proofs.{one_around, one_changed}
use Rattle.mm_address_spaces.proofs.spaces.AddressSpace.change_one.Goals as goal

pub change-requires-clause-inside : goal.change-requires-clause-inside
change-requires-clause-inside c = sym (ap is_some (one_around c.args.self.now.regions c.args.page)) ∙ c.requires.there

pub change-requires-clause-can : goal.change-requires-clause-can
change-requires-clause-can c r e page row low high at =
    let same : c.args.page ≡ page = omega (arith, low, high) in
    c.requires.can r row (one_around c.args.self.now.regions c.args.page ∙ e) (ap (row_at r.thing) same ∙ at)

pub returns-clause-changed : goal.returns-clause-changed
returns-clause-changed c r row e at =
    c.change.ensures.changed r (sym (one_around c.args.self.now.regions c.args.page) ∙ e)
    ∙ ap (λ rows. slice_set c.args.self.now.regions r.place (let s : RegionOf (Unit {0}) = record r.thing { rows = rows } in s)) (one_changed (changed_row c.args.change r.thing.kind) (c.args.page - r.thing.base) r.thing.rows row at)
