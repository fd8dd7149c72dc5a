use Rattle.std.proofs.Common.{◌∙◌, ap, is_some}
use Rattle.std.specs.Prelude.{◌==◌}
use Rattle.mm_types.specs.{Range}
use Rattle.mm_address_spaces.specs.{passes}
use Rattle.mm_address_spaces.proofs.{counted_in}
use Rattle.mm_address_spaces.proofs.spaces.AddressSpace.do_all_pass.Goals as goal

pub returns : goal.returns
returns c r e =
    (λ i. c.count_in.ensures r e i == ap (λ (x : Range). x.count) c.range.view_is i)
    ∙ counted_in (passes c.args.test r.thing.kind) c.args.self.now.regions c.args.range (ap is_some e)
