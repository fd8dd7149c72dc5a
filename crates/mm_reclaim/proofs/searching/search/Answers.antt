use Rattle.std.proofs.Common.{sym, ◌∙◌, arith}
use Rattle.mm_reclaim.proofs.{found_at_once, turn_fewer, turn_on, turn_found, search_starves}
use Rattle.mm_reclaim.proofs.searching.search.Goals as goal

pub returns-then-not-is_starved-clause-searched : goal.returns-then-not-is_starved-clause-searched
returns-then-not-is_starved-clause-searched g c = found_at_once c.args.pinned (g.T.StateCalls.shown c.args.state.now) (sym c.is_starved.ensures ∙ c.if-not-is_starved.true)

pub returns-in-None-clause-searched : goal.returns-in-None-clause-searched
returns-in-None-clause-searched g c = search_starves c.args.pinned (g.T.StateCalls.shown c.args.state.now) (g.T.StateCalls.shown c.turns.state) (g.met.T.StateCalls.holds c.args.state.now) c.turns.invariant.seeking c.in-None.ensures

pub returns-then-turn-clause-searched : goal.returns-then-turn-clause-searched
returns-then-turn-clause-searched g c =
    turn_found c.args.pinned (g.T.StateCalls.shown c.args.state.now) (g.T.StateCalls.shown c.turns.state) (g.T.StateCalls.shown c.turn.new.state) c.in-Some.place c.frame_of-f.result
    (g.met.T.StateCalls.holds c.args.state.now) (g.met.T.StateCalls.holds c.turns.state) c.turns.invariant.seeking c.in-Some.ensures c.frame_of-f.ensures c.if-turn.ensures.turned

pub turns-smaller : goal.turns-smaller
turns-smaller g c =
    let fewer = turn_fewer (g.T.StateCalls.shown c.turns.state) (g.T.StateCalls.shown c.turn.new.state) c.in-Some.place c.frame_of-f.result (g.met.T.StateCalls.holds c.turns.state) c.frame_of-f.ensures c.if-turn.ensures.turned in
    omega (arith, fewer)

pub turns-preserved : goal.turns-preserved
turns-preserved g c = record {
  seeking = turn_on c.args.pinned (g.T.StateCalls.shown c.args.state.now) (g.T.StateCalls.shown c.turns.state) (g.T.StateCalls.shown c.turn.new.state) c.in-Some.place c.frame_of-f.result
      (g.met.T.StateCalls.holds c.args.state.now) (g.met.T.StateCalls.holds c.turns.state) c.turns.invariant.seeking c.in-Some.ensures c.frame_of-f.ensures c.if-turn.ensures.turned;
  loans = c.turn.ensures.loans ∙ c.turns.invariant.loans;
}
