use Rattle.std.proofs.Common.{sym, ap, ◌∙◌}
use Rattle.mm_types.specs.{address_of}
use Rattle.mm_types.specs.declared.views.Kind.TheVariants as kind
use Rattle.mm_world.specs.{type_of}
use Rattle.mm_address_spaces.proofs.{row_low, info_by, region_told, private_state, private_run}
use Rattle.mm_address_spaces.proofs.spaces.AddressSpace.region_info.Goals as goal

pub told_of_row-told-requires : goal.told_of_row-told-requires
told_of_row-told-requires c = row_low c.args.self.now.regions c.args.page _ c.args.region.now c.get-row.result c.requires.at c.get-row.ensures

pub returns : goal.returns
returns c = λ w r e.
    let rs = c.args.self.now.regions in
    let page = c.args.page in
    let g = c.args.region.now in
    let at = c.requires.at in
    let run = c.run_from.ensures.run ∙ sym (private_run rs page g at c.requires.private w) in
    ap (λ s. info_by rs page g at (address_of c.run_from.result) s 0x20000) (c.told_of_row-told.ensures kind.Private)
    ∙ region_told rs page g at w r _ c.run_from.result 0x20000 e (private_state rs page g at c.requires.private w c.get-row.result c.get-row.ensures) run
    (sym (ap type_of c.requires.private))
