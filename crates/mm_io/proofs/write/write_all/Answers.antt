use Rattle.std.proofs.Common.{◌++◌, length, take, sym, ◌∙◌, arith}
use Rattle.std.proofs.lemmas.Bool.{eqb-false, eqb-true}
use Rattle.mm_types.proofs.{appended_then}
use Rattle.mm_io.proofs.{rest_more, gives_then, is_cut, wrote_all}
use Rattle.mm_io.proofs.write.write_all.Goals as goal

pub loop-rest-preserved : goal.loop-rest-preserved
loop-rest-preserved g c =
    let taken = g.O.Sink.taken in
    let i = c.loop-rest.invariant in
    record {
      done = (
        i.done.0 ++ take c.in-Ok.n c.loop-rest.rest.now,
        rest_more i.done.0 c.loop-rest.rest.now c.args.text.now c.in-Ok.n i.done.1,
        appended_then (taken c.args.out.now) (taken c.loop-rest.out) (taken c.write.new.self) _ _ i.done.2 c.in-Ok.ensures.bytes.bytes,
      );
      given = gives_then _ _ _ _ _ _ i.given c.write.ensures.given;
      faults = c.in-Ok.ensures.cause.same ∙ i.faults;
      loans = c.write.ensures.loans ∙ i.loans;
    }

pub returns-in-Err-clause-wrote : goal.returns-in-Err-clause-wrote
returns-in-Err-clause-wrote g c =
    let i = c.loop-rest.invariant in
    record { front = i.done.0; rest = c.loop-rest.rest.now; whole = sym i.done.1; written = rw c.in-Err.ensures.bytes i.done.2; all = λ h. cc }

pub returns-in-Err-clause-cut : goal.returns-in-Err-clause-cut
returns-in-Err-clause-cut g c =
    let i = c.loop-rest.invariant in
    let some = eqb-false (length c.loop-rest.rest.now) 0 (sym c.is_empty.ensures ∙ c.loop-rest-test.true) in
    is_cut _ _ i.done.0 c.loop-rest.rest.now c.args.text.now i.done.1 (omega (arith, some)) (rw c.in-Err.ensures.bytes i.done.2)

pub returns-in-Err-clause-given : goal.returns-in-Err-clause-given
returns-in-Err-clause-given g c = gives_then _ _ _ _ _ _ c.loop-rest.invariant.given c.write.ensures.given

pub returns-in-Err-clause-cause : goal.returns-in-Err-clause-cause
returns-in-Err-clause-cause g c =
    let i = c.loop-rest.invariant in
    let cause = c.in-Err.ensures.cause in
    record { later = omega (arith, cause.later, i.faults); failed = omega (arith, cause.failed, i.faults); same = tt }

pub returns-clause-wrote : goal.returns-clause-wrote
returns-clause-wrote g c =
    let i = c.loop-rest.invariant in
    let none = eqb-true (length c.loop-rest.rest.now) 0 (sym c.is_empty.ensures ∙ c.loop-rest-test.false) in
    wrote_all _ _ i.done.0 c.loop-rest.rest.now c.args.text.now i.done.1 none i.done.2

pub returns-clause-cause : goal.returns-clause-cause
returns-clause-cause g c =
    let i = c.loop-rest.invariant in
    record { later = omega (arith, i.faults); failed = tt; same = i.faults }
