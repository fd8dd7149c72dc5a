use Rattle.std.proofs.Common.{ap, arith}
use Rattle.std.specs.Prelude.{length}
use Rattle.mm_log_writer.proofs.Counted.{spelled, tailed}
use Rattle.mm_log_writer.proofs.at_lines.AtLine.spell.Goals as goal

pub invariant_of-self : goal.invariant_of-self
invariant_of-self c = tailed c.renumber-self-inside.new.room c.put_tail-self-inside.new.out _ c.renumber-self-inside.result c.put_tail-self-inside.result c.args.n (omega arith) c.put_tail-self-inside.ensures.few c.put_tail-self-inside.ensures.text c.renumber-self-inside.ensures

pub returns-clause-line : goal.returns-clause-line
returns-clause-line c = spelled c.renumber-self-inside.new.room c.put_tail-self-inside.new.out c.args.kind c.renumber-self-inside.result c.put_tail-self-inside.result c.args.n c.put_tail-self-inside.ensures.text c.renumber-self-inside.ensures

pub returns-clause-some : goal.returns-clause-some
returns-clause-some c = omega (arith, ap length (returns-clause-line c))
