use Rattle.std.proofs.Common.{sym, subst, arith, ◌∙◌}
use Rattle.mm_io.specs.{FitsLine, HasLine}
use Rattle.mm_io.proofs.{recent_line, filled_still, filled_then, recent_after}
use Rattle.mm_io.proofs.buffers.InputBuffer.next.Goals as goal

pub returns-in-Line-clause-finds : goal.returns-in-Line-clause-finds
returns-in-Line-clause-finds g c =
    let line : HasLine c.loop-n.self c.in-Line.n = c.in-Line.ensures in
    (line, recent_line _ _ c.loop-n.invariant.recent line)

pub returns-in-Line-clause-cause : goal.returns-in-Line-clause-cause
returns-in-Line-clause-cause g c =
    let i = c.loop-n.invariant in
    record { later = omega (arith, i.faults); failed = tt; same = i.faults }

pub returns-in-Long-clause-finds : goal.returns-in-Long-clause-finds
returns-in-Long-clause-finds g c =
    let r = c.loop-n.invariant.recent in
    (c.in-Long.ensures, omega (arith, r.few, r.short))

pub returns-in-Long-clause-cause : goal.returns-in-Long-clause-cause
returns-in-Long-clause-cause g c =
    let i = c.loop-n.invariant in
    record { later = omega (arith, i.faults); failed = tt; same = i.faults }

pub returns-in-Ok-eq0-clause-filled : goal.returns-in-Ok-eq0-clause-filled
returns-in-Ok-eq0-clause-filled g c = filled_then _ _ _ _ _ _ c.loop-n.invariant.filled c.read_more.ensures.filled

pub returns-in-Ok-eq0-clause-finds : goal.returns-in-Ok-eq0-clause-finds
returns-in-Ok-eq0-clause-finds g c =
    let opened : FitsLine c.loop-n.self = c.in-Open.ensures in
    let read = c.in-Ok-eq0.ensures in
    (subst FitsLine (sym (filled_still _ _ _ _ _ c.in-Ok-eq0.field-0-test read.filled read.read)) opened, read.read.end c.in-Ok-eq0.field-0-test)

pub returns-in-Ok-eq0-clause-cause : goal.returns-in-Ok-eq0-clause-cause
returns-in-Ok-eq0-clause-cause g c =
    let i = c.loop-n.invariant in
    let cause = c.in-Ok-eq0.ensures.cause in
    record { later = omega (arith, cause.later, i.faults); failed = tt; same = cause.same ∙ i.faults }

pub returns-in-Err-clause-filled : goal.returns-in-Err-clause-filled
returns-in-Err-clause-filled g c = filled_then _ _ _ _ _ _ c.loop-n.invariant.filled c.read_more.ensures.filled

pub returns-in-Err-clause-finds : goal.returns-in-Err-clause-finds
returns-in-Err-clause-finds g c =
    let opened : FitsLine c.loop-n.self = c.in-Open.ensures in
    subst FitsLine (sym c.in-Err.ensures.read) opened

pub returns-in-Err-clause-cause : goal.returns-in-Err-clause-cause
returns-in-Err-clause-cause g c =
    let i = c.loop-n.invariant in
    let cause = c.in-Err.ensures.cause in
    record { later = omega (arith, cause.later, i.faults); failed = omega (arith, cause.failed, i.faults); same = tt }

pub loop-n-preserved : goal.loop-n-preserved
loop-n-preserved g c =
    let i = c.loop-n.invariant in
    let opened : FitsLine c.loop-n.self = c.in-Open.ensures in
    let read = c.in-Ok.ensures in
    record {
      filled = filled_then _ _ _ _ _ _ i.filled read.filled;
      recent = recent_after _ _ _ _ _ opened read.filled read.read;
      faults = read.cause.same ∙ i.faults;
      idle = omega (arith, i.idle, read.idle);
      loans = read.loans ∙ i.loans;
    }
