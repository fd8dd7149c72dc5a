use Rattle.std.proofs.Common.{refl, ap, lit≤, arith}
use Rattle.mm_run.specs.{fault_counts_with, Running}
use Rattle.mm_run.proofs.{came_done, came_line, came_read, line_of_none}
use Rattle.mm_run.proofs.decisions.behind_last.Goals as goal

pub returns-in-Ok-true : goal.returns-in-Ok-true
returns-in-Ok-true g c =
    let found = rw c.in-Ok-true.field-0-test at c.in-Ok-true.ensures.finds in
    record {
      ends = λ out kept z. record {
        came = came_line _ _ out.took kept _ _ _ (Running z) c.has_more.ensures.filled refl found.0 found.1;
        faults = ap (λ k. fault_counts_with k out.faults z.behind.log.faults) c.in-Ok-true.ensures.cause.same;
        idle = omega arith;
        form = λ q. cc;
      };
    }

pub returns-in-Ok-false : goal.returns-in-Ok-false
returns-in-Ok-false g c =
    let found = rw c.in-Ok-false.field-0-test at c.in-Ok-false.ensures.finds in
    record {
      ends = λ out kept z. record {
        came = came_done _ _ out.took kept _ _ _ (Running z) c.has_more.ensures.filled refl found.0 found.1;
        faults = ap (λ k. fault_counts_with k out.faults z.behind.log.faults) c.in-Ok-false.ensures.cause.same;
        idle = omega arith;
        form = λ q. cc;
      };
    }

pub returns-in-Err : goal.returns-in-Err
returns-in-Err g c = record {
  ends = λ out kept z. record {
    came = came_read _ _ out.took kept _ _ _ (Running z) c.has_more.ensures.filled (lit≤ tt) (line_of_none _ c.in-Err.ensures.finds);
    faults = (c.in-Err.ensures.cause.failed, refl);
    idle = omega arith;
    form = λ q. cc;
  };
}
