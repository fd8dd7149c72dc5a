use Rattle.std.proofs.Common.{arith, ap, length, length-append}
use Rattle.mm_types.specs.{decimal}
use Rattle.mm_text.proofs.{length-decimal-32}
use Rattle.mm_run.proofs.top.put_number.Goals as goal

pub put_decimal-requires : goal.put_decimal-requires
put_decimal-requires c = omega (arith, length-decimal-32 c.args.n c.ranges.n.fits, c.requires)

pub returns-clause-few : goal.returns-clause-few
returns-clause-few c = omega (arith, ap length c.put_decimal.ensures, length-append c.args.out.now (decimal c.args.n), length-decimal-32 c.args.n c.ranges.n.fits)
