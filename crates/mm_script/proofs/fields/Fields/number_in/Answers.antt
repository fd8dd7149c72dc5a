use Rattle.std.proofs.Common.{arith}
use Rattle.mm_script.proofs.{number_low, number_high}
use Rattle.mm_script.proofs.fields.Fields.number_in.Goals as goal
use Rattle.mm_script.proofs.fields.Fields.number_in.Goals.{else-least-value-via-then-least-value+else-value-most, else-least-value-via-else-least-value}

pub returns-else-least-value-clause-value : goal.returns-else-least-value-clause-value
returns-else-least-value-clause-value c =
    let least = c.args.least in
    let most = c.args.most in
    let old = c.args.self.now in
    let new = c.number.new.self in
    let v = c.in_ok-value.value in
    elim c.else-least-value.branch [
      | else-least-value-via-then-least-value+else-value-most w ↦ number_high least most old new v c.fault.result c.in_ok-value.ensures.value (omega (arith, w.if-value-most)) c.fault.ensures
      | else-least-value-via-else-least-value w ↦ number_low least most old new v c.fault.result c.in_ok-value.ensures.value (omega (arith, w.if-least-value)) c.fault.ensures
    ]
