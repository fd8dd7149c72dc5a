use Rattle.std.proofs.Common.{◌<◌, length, sym, ap, ◌∙◌, arith}
use Rattle.std.proofs.lemmas.List.Sums.{prefix_len-drop_no, prefix_len-drop_all}
use Rattle.mm_vad.specs.{are_alike}
use Rattle.mm_vad.proofs.{are_alike_itself, run_from_is, prefix_run, first_of_run}
use Rattle.mm_vad.proofs.pages.Rows.run_from.Goals as goal

pub loop-end-init : goal.loop-end-init
loop-end-init c =
    let rows = c.args.self.now in
    let found = c.equal_from-equal.result in
    let run = prefix_run (are_alike found.0) rows c.args.i found.1 found.0 (are_alike_itself found.0) c.equal_from-equal.ensures.equal in
    (omega (arith, c.equal_from-equal.ensures.some), omega (arith, c.equal_from-equal.ensures.within), omega (arith, run))

pub loop-end-preserved : goal.loop-end-preserved
loop-end-preserved c =
    let rows = c.args.self.now in
    let first = c.equal_from-equal.result.0 in
    let found = c.equal_from-equal-in-loop-end.result in
    let alike = sym c.is_like.ensures ∙ c.if-not-is_like.false in
    let run = prefix_run (are_alike first) rows c.loop-end.end found.1 found.0 alike c.equal_from-equal-in-loop-end.ensures.equal in (
      omega (arith, c.loop-end.invariant.0),
      omega (arith, c.equal_from-equal-in-loop-end.ensures.within),
      omega (arith, run, c.loop-end.invariant.0, c.loop-end.invariant.2),
    )

pub returns-then-not-is_like-clause-run : goal.returns-then-not-is_like-clause-run
returns-then-not-is_like-clause-run c =
    let rows = c.args.self.now in
    let first = c.equal_from-equal.result in
    let found = c.equal_from-equal-in-loop-end.result in
    let here = first_of_run rows c.args.i first.1 first.0 first.0 c.equal_from-equal.ensures.some c.equal_from-equal.ensures.equal in
    let there = first_of_run rows c.loop-end.end found.1 found.0 first.0 c.equal_from-equal-in-loop-end.ensures.some c.equal_from-equal-in-loop-end.ensures.equal in
    let inside : c.loop-end.end < length rows = omega (arith, c.loop-end-test.true, c.len-len.ensures) in
    let run = run_from_is rows c.args.i first.0 c.requires here in
    let left = prefix_len-drop_no (are_alike first.0) rows c.loop-end.end first.0 inside (ap (are_alike first.0) there ∙ sym c.is_like.ensures ∙ c.if-not-is_like.true) in
    omega (arith, run, left, c.loop-end.invariant.2)

pub returns-clause-run : goal.returns-clause-run
returns-clause-run c =
    let rows = c.args.self.now in
    let first = c.equal_from-equal.result in
    let here = first_of_run rows c.args.i first.1 first.0 first.0 c.equal_from-equal.ensures.some c.equal_from-equal.ensures.equal in
    let run = run_from_is rows c.args.i first.0 c.requires here in
    let left = prefix_len-drop_all (are_alike first.0) rows c.loop-end.end (omega (arith, c.loop-end-test.false, c.len-len.ensures)) in
    omega (arith, run, left, c.loop-end.invariant.2)
