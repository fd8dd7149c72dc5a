use Rattle.std.proofs.Common.{◌≡◌, ◌<◌, ap, sym, ◌∙◌, length, arith}
use Rattle.std.specs.Prelude.{slice_set}
use Rattle.std.proofs.lemmas.List.Edits.{map_over_more}
use Rattle.mm_requests.specs.{ended}
use Rattle.mm_requests.proofs.{all_ended, covered, none_asked, none_left}
use Rattle.mm_requests.proofs.flights.end_waits.Goals as goal
use Rattle.mm_requests.proofs.flights.end_waits.Goals.{then-is_for, else-is_for}

pub loop-t-preserved : goal.loop-t-preserved
loop-t-preserved c =
    let f = c.args.f.0 in
    let ws = c.args.waits.now.items in
    let vs = c.loop-t.waits.items in
    let t = c.loop-t.t in
    let x = c.after_end-after.result in
    let below : t < length ws = omega (arith, c.requires.within, c.loop-t-test.true) in
    let long : length vs ≡ length ws = ap length c.loop-t.invariant.ended ∙ covered (ended f c.args.ok) t ws in
    let inside : t < length vs = omega (arith, below, long) in
    let one = ap (λ w. slice_set vs t w) c.after_end-after.ensures ∙ map_over_more (ended f c.args.ok) ws vs t c.index.result.now below c.loop-t.invariant.ended c.index.ensures in
    elim c.if-is_for.branch [
      | then-is_for w ↦ record {
        ended = one;
        within = omega (arith, w.from-is);
        idle = λ k v le lt e. absurd (omega (arith, w.from-is, le, lt));
      }
      | else-is_for w ↦ record {
        ended = one;
        within = omega (arith, w.from-is, c.loop-t.invariant.within);
        idle = λ k v le lt e. none_asked c.loop-t.from t vs x inside (sym c.is_for.ensures ∙ w.if-is_for.false) c.loop-t.invariant.idle k v (omega (arith, w.from-is, le)) lt e;
      }
    ]

pub returns-clause-waits : goal.returns-clause-waits
returns-clause-waits c =
    c.loop-t.invariant.ended ∙ all_ended c.args.f.0 c.args.ok c.loop-t.t c.args.waits.now.items (λ t w le e. c.requires.idle t w (omega (arith, c.loop-t-test.false, le)) e)

pub returns-clause-idle : goal.returns-clause-idle
returns-clause-idle c =
    none_left c.args.f.0 c.args.ok c.loop-t.from c.args.upto c.args.waits.now.items c.loop-t.waits.items c.requires.idle (returns-clause-waits c)
    (λ t w le lt e. c.loop-t.invariant.idle t w le (omega (arith, c.loop-t-test.false, lt)) e)
