use Rattle.std.proofs.Common.{not, option_map, sym, ap, ◌∙◌}
use Rattle.mm_world.specs.{is_private}
use Rattle.mm_address_spaces.specs.{found_info}
use Rattle.mm_address_spaces.proofs.{view_around_told}
use Rattle.mm_address_spaces.proofs.spaces.AddressSpace.view_around.Goals as goal

pub returns-in_err-around-clause-found : goal.returns-in_err-around-clause-found
returns-in_err-around-clause-found c =
    c.from_residual.ensures ∙ sym (ap (option_map found_info) (c.in_err-around.ensures.none.only (λ r. not (is_private r.kind))))

pub returns-clause-found : goal.returns-clause-found
returns-clause-found c = c.info_of_view.ensures ∙ sym (view_around_told c.args.self.now.regions c.args.range c.in_ok-around.field-0.now c.in_ok-around.ensures.some)
