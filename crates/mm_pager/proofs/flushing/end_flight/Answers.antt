use Rattle.std.proofs.Common.{◌≡◌, true, false}
use Rattle.mm_move_rules.specs.{record_at, is_write}
use Rattle.mm_pager.proofs.{flight_none, flight_ended}
use Rattle.mm_pager.proofs.flushing.end_flight.Goals as goal

pub returns-then-not-is_writing-clause-ended : goal.returns-then-not-is_writing-clause-ended
returns-then-not-is_writing-clause-ended g c b e =
    let still : is_write (record_at (g.T.StateCalls.shown c.args.state.now).life.frames c.args.f.0).request ≡ false = cc in
    flight_none b c.args.f (g.T.StateCalls.shown c.args.state.now) e still

pub returns-clause-ended : goal.returns-clause-ended
returns-clause-ended g c b e =
    let writing : is_write (record_at (g.T.StateCalls.shown c.args.state.now).life.frames c.args.f.0).request ≡ true = cc in
    flight_ended b c.args.f c.end_write.result (g.T.StateCalls.shown c.args.state.now) (g.T.StateCalls.shown c.end_write.new.self) (g.met.T.StateCalls.holds c.args.state.now) (g.met.T.StateCalls.holds c.end_write.new.self) c.requires.filed e c.requires.own writing c.end_write.ensures.made c.end_write.ensures.rest c.end_write.ensures.wrote
