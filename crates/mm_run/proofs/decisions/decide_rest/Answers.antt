use Rattle.std.proofs.Common.{◌≡◌, ℕ, Some, ap, subst, refl, ◌∙◌, arith}
use Rattle.mm_dispatch.specs.{scene}
use Rattle.mm_run.specs.{EndsRun, moment, Running, input_seen, output_seen}
use Rattle.mm_run.proofs.{goes_here, goes_then, goes_ends}
use Rattle.mm_run.proofs.decisions.decide_rest.Goals as goal

pub loop-n-init : goal.loop-n-init
loop-n-init g c = record {
  goes = goes_here _ _ _;
  between = c.requires.between;
  same = refl;
}

pub loop-n-preserved : goal.loop-n-preserved
loop-n-preserved g c =
    let i = c.loop-n.invariant in
    let more = c.in-None.ensures in
    record {
      goes = goes_then i.goes more.steps;
      between = more.between;
      same = more.loans ∙ i.same;
    }

pub returns-in-Some-clause-ends : goal.returns-in-Some-clause-ends
returns-in-Some-clause-ends g c = goes_ends c.loop-n.invariant.goes c.in-Some.ending c.in-Some.ensures.steps

pub returns-in-Some-flush-clause-ends : goal.returns-in-Some-flush-clause-ends
returns-in-Some-flush-clause-ends g c =
    let l = c.loop-n in
    let full : l.n ≡ 1000000 = omega arith in
    goes_ends l.invariant.goes c.in-Some-flush.ending
    (c.in-Some-flush.ensures.steps (input_seen g.S.Source l.source) l.held l.n (omega (arith, full)) l.invariant.between.few)

pub returns-in-None-flush-clause-ends : goal.returns-in-None-flush-clause-ends
returns-in-None-flush-clause-ends g c =
    let l = c.loop-n in
    let f = c.flush in
    let b = c.behind_last in
    let out = output_seen g.O.Sink f.new.out in
    let here = scene f.new.world in
    let full : 1000000 ≡ l.n = omega arith in
    goes_ends (goes_then l.invariant.goes (c.in-None-flush.ensures.steps (input_seen g.S.Source l.source) l.held l.n (omega (arith, full)) l.invariant.between.few)) b.result
    (subst (λ (k : ℕ). EndsRun l.held k (moment (input_seen g.S.Source l.source) out f.new.kept (Running here)) (moment (input_seen g.S.Source b.new.source) out f.new.kept (Running here)) b.result) full
    (b.ensures.ends out f.new.kept here))

pub returns-in-Some-clause-still : goal.returns-in-Some-clause-still
returns-in-Some-clause-still g c = λ q. c.in-Some.ensures.still (ap Some q)

pub returns-in-Some-flush-clause-still : goal.returns-in-Some-flush-clause-still
returns-in-Some-flush-clause-still g c = λ q. absurd (c.in-Some-flush.ensures.unread (ap Some q))

pub returns-in-None-flush-clause-still : goal.returns-in-None-flush-clause-still
returns-in-None-flush-clause-still g c = λ q. c.in-None-flush.ensures.still
