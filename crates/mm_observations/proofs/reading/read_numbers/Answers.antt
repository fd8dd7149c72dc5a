use Rattle.std.proofs.Common.{ℕ, ap, ◌∙◌, arith, length-set}
use Rattle.mm_observations.specs.{row_numbers}
use Rattle.mm_observations.proofs.{numbers_more}
use Rattle.mm_observations.proofs.reading.read_numbers.Goals as goal

pub loop-i-preserved : goal.loop-i-preserved
loop-i-preserved c =
    let l = c.loop-i in
    record {
      line = c.in-Some.ensures.line ∙ l.invariant.line;
      read = ap (λ (k : ℕ). row_numbers k c.args.words.now.left) (length-set l.numbers l.i c.in-Some.n) ∙ l.invariant.read ∙ numbers_more l.numbers l.i (omega arith) c.in-Some.n l.words.left c.next_number.new.words.left c.in-Some.ensures.number;
    }
