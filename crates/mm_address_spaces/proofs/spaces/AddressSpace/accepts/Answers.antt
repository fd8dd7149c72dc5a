use Rattle.std.proofs.Common.{sym, ◌∙◌}
use Rattle.mm_address_spaces.specs.{passes}
use Rattle.mm_address_spaces.specs.declared.rows.RowTest.TheVariants as test
use Rattle.mm_address_spaces.proofs.{every_row}
use Rattle.mm_address_spaces.proofs.spaces.AddressSpace.accepts.Goals as goal

pub returns : goal.returns
returns c = λ r e. (c.do_all_pass.ensures r e ∙ sym (every_row (passes (test.Accepts c.args.prot) r.thing.kind) c.args.self.now.regions c.args.range r e))
