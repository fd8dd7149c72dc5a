use Rattle.std.proofs.Common.{refl, ◌-◌}
use Rattle.mm_pager.proofs.{flight_request, flight_low, nth_found, nth_none}
use Rattle.mm_pager.proofs.completing.complete_request.Goals as goal

pub end_request-requires-clause-request : goal.end_request-requires-clause-request
end_request-requires-clause-request g c = flight_request (g.T.StateCalls.shown c.args.state.now) (c.args.i - 1) c.in-Some.f.0 (g.met.T.StateCalls.holds c.args.state.now) (nth_found c.args.i (g.T.StateCalls.shown c.args.state.now).life.flight c.nth.result c.in-Some.f c.requires.some c.nth.ensures c.in-Some.is)

pub end_request-requires-clause-low : goal.end_request-requires-clause-low
end_request-requires-clause-low g c = flight_low (g.T.StateCalls.shown c.args.state.now) c.in-Some.f.0 (g.met.T.StateCalls.holds c.args.state.now) (flight_request (g.T.StateCalls.shown c.args.state.now) (c.args.i - 1) c.in-Some.f.0 (g.met.T.StateCalls.holds c.args.state.now) (nth_found c.args.i (g.T.StateCalls.shown c.args.state.now).life.flight c.nth.result c.in-Some.f c.requires.some c.nth.ensures c.in-Some.is))

pub returns-in-None-clause-ends : goal.returns-in-None-clause-ends
returns-in-None-clause-ends g c = (nth_none c.args.i (g.T.StateCalls.shown c.args.state.now).life.flight c.nth.result c.requires.some c.nth.ensures c.in-None.is, refl)
