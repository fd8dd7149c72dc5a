use Rattle.std.proofs.Common.{List, ℕ, subst, length, refl, ap, arith, rules}
use Rattle.mm_run.specs.{log_of, InputEndsAt, fault_counts_with}
use Rattle.mm_run.proofs.{went_filled, came_end, came_long, came_read, blamed_end}
use Rattle.mm_run.proofs.decisions.next_line.Goals as goal

pub returns-in-Ok-Line-clause-finds : goal.returns-in-Ok-Line-clause-finds
returns-in-Ok-Line-clause-finds g c = λ out kept z. record {
  went = went_filled _ _ out.took kept _ _ c.args.n z c.next.ensures.filled;
  faults = ap (λ k. fault_counts_with k out.faults (log_of z).faults) c.in-Ok-Line.ensures.cause.same;
  idle = let i = rw c.in-Ok-Line.field-0-is at c.in-Ok-Line.ensures.idle in omega arith;
}

pub returns-in-Ok-Long-clause-finds : goal.returns-in-Ok-Long-clause-finds
returns-in-Ok-Long-clause-finds g c = λ out kept z.
    let found = rw c.in-Ok-Long.field-0-is at c.in-Ok-Long.ensures.finds in
    record {
      came = came_long _ _ out.took kept _ _ c.args.n z c.next.ensures.filled c.requires.few found.0 found.1;
      faults = ap (λ k. fault_counts_with k out.faults (log_of z).faults) c.in-Ok-Long.ensures.cause.same;
      idle = omega arith;
      form = λ q. cc;
    }

pub returns-in-Ok-End-clause-finds : goal.returns-in-Ok-End-clause-finds
returns-in-Ok-End-clause-finds g c = λ out kept z.
    let found = rw c.in-Ok-End.field-0-is at c.in-Ok-End.ensures.finds in
    record {
      came = came_end _ _ out.took kept _ _ c.args.n z c.next.ensures.filled _ c.requires.few found.0 found.1
          (subst (λ (xs : List ℕ). InputEndsAt c.args.n (length xs) c.at_end.result) c.bytes.ensures c.at_end.ensures);
      faults = blamed_end _ _ c.at_end.result _ _ _ c.at_end.ensures (ap (λ k. fault_counts_with k out.faults (log_of z).faults) c.in-Ok-End.ensures.cause.same);
      idle = omega arith;
      form = search rules;
    }

pub returns-in-Err-clause-finds : goal.returns-in-Err-clause-finds
returns-in-Err-clause-finds g c = λ out kept z. record {
  came = came_read _ _ out.took kept _ _ c.args.n z c.next.ensures.filled (omega arith) c.in-Err.ensures.finds;
  faults = (c.in-Err.ensures.cause.failed, refl);
  idle = omega arith;
  form = λ q. cc;
}
