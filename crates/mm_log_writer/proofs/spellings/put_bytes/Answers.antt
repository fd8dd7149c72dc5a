use Rattle.std.proofs.Common.{◌+◌, ◌++◌, ℕ, ap, ◌∙◌, arith, take}
use Rattle.mm_types.specs.{Text}
use Rattle.mm_log_writer.proofs.Fronts.{byte_more, bytes_all}
use Rattle.mm_log_writer.proofs.spellings.put_bytes.Goals as goal

pub loop-i-preserved : goal.loop-i-preserved
loop-i-preserved c = byte_more c.args.out.now c.loop-i.out c.args.bytes.now c.args.at c.loop-i.i 0 (omega arith) (omega arith) c.loop-i.invariant

pub returns-clause-text : goal.returns-clause-text
returns-clause-text c =
    ap (λ (k : ℕ). take (c.args.at + k) c.loop-i.out) (omega arith)
    ∙ c.loop-i.invariant
    ∙ ap (λ (t : Text). take c.args.at c.args.out.now ++ t) (bytes_all c.args.bytes.now c.loop-i.i (omega arith))
