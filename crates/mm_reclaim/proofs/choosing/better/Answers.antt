use Rattle.std.proofs.Common.{refl, sym, ap}
use Rattle.mm_types.specs.{Pid}
use Rattle.mm_reclaim.proofs.{closed_same, none_same, best_stays, best_taken}
use Rattle.mm_reclaim.proofs.choosing.better.Goals as goal

pub returns-then-not-is_open-clause-below : goal.returns-then-not-is_open-clause-below
returns-then-not-is_open-clause-below g c = closed_same (g.T.StateCalls.shown c.args.state.now) (g.met.T.StateCalls.holds c.args.state.now) c.args.pinned c.args.pid.0 c.args.best (sym c.if-not-is_open.ensures) c.requires.below

pub returns-then-not-takes_over-clause-below : goal.returns-then-not-takes_over-clause-below
returns-then-not-takes_over-clause-below g c =
    let s = g.T.StateCalls.shown c.args.state.now in
    best_stays s.life s.ages c.args.pinned c.args.pid.0 c.args.best c.requires.below (sym c.if-not-takes_over.ensures)

pub returns-in-None-clause-below : goal.returns-in-None-clause-below
returns-in-None-clause-below g c = none_same (g.T.StateCalls.shown c.args.state.now) c.args.pinned c.args.pid.0 c.args.best c.in-None.ensures.oldest c.requires.below

pub returns-in-Some-clause-below : goal.returns-in-Some-clause-below
returns-in-Some-clause-below g c =
    let s = g.T.StateCalls.shown c.args.state.now in
    best_taken s.life s.ages c.args.pinned c.args.pid.0 c.args.best c.in-Some.place c.requires.below (ap (λ (p : Pid). p.0) (c.in-Some.ensures.of c.in-Some.place refl)) c.in-Some.ensures.oldest (sym c.if-not-takes_over.ensures)
