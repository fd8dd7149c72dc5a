use Rattle.std.proofs.Common.{not, option_map, sym, ap, ◌∙◌}
use Rattle.mm_world.specs.{is_private}
use Rattle.mm_address_spaces.specs.{found_info}
use Rattle.mm_address_spaces.proofs.{view_at_told}
use Rattle.mm_address_spaces.proofs.spaces.AddressSpace.view_at.Goals as goal

pub returns-in_err-based_at-clause-found : goal.returns-in_err-based_at-clause-found
returns-in_err-based_at-clause-found c =
    c.from_residual.ensures ∙ sym (ap (option_map found_info) (c.in_err-based_at.ensures.none.only (λ r. not (is_private r.kind))))

pub returns-clause-found : goal.returns-clause-found
returns-clause-found c = c.info_of_view.ensures ∙ sym (view_at_told c.args.self.now.regions c.args.addr c.in_ok-based_at.field-0.now c.in_ok-based_at.ensures.some)
