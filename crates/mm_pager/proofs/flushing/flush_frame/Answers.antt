use Rattle.std.proofs.Common.{refl, ap, ◌∙◌}
use Rattle.mm_state_calls.specs.{StateOf}
use Rattle.mm_pager.proofs.{frame_lost, frame_flushed, filed_after}
use Rattle.mm_pager.proofs.flushing.flush_frame.Goals as goal

pub returns-then-not-end_flight-clause-flushed : goal.returns-then-not-end_flight-clause-flushed
returns-then-not-end_flight-clause-flushed g c b e = frame_lost b c.args.f (g.T.StateCalls.shown c.args.state.now) (g.T.StateCalls.shown c.end_flight.new.state) (c.if-not-end_flight.ensures.ended b e)

pub write_changed-requires-clause-kind : goal.write_changed-requires-clause-kind
write_changed-requires-clause-kind g c = (c.end_flight.ensures.ended c.requires.filed.block c.requires.filed.backed).writes.life.kind ∙ c.requires.kind

pub write_changed-requires-clause-filed : goal.write_changed-requires-clause-filed
write_changed-requires-clause-filed g c = filed_after c.requires.filed.block c.args.f c.end_flight.result (g.T.StateCalls.shown c.args.state.now) (g.T.StateCalls.shown c.end_flight.new.state) (c.end_flight.ensures.ended c.requires.filed.block c.requires.filed.backed) c.requires.filed

pub write_changed-requires-clause-still : goal.write_changed-requires-clause-still
write_changed-requires-clause-still g c = (c.if-not-end_flight.ensures.ended c.requires.filed.block c.requires.filed.backed).still refl

pub write_changed-requires-clause-own : goal.write_changed-requires-clause-own
write_changed-requires-clause-own g c = ap (λ (x : StateOf). x.own) (c.end_flight.ensures.ended c.requires.filed.block c.requires.filed.backed).writes.same ∙ c.requires.own

pub returns-then-not-write_changed-clause-flushed : goal.returns-then-not-write_changed-clause-flushed
returns-then-not-write_changed-clause-flushed g c b e =
    let first = c.if-not-end_flight.ensures.ended b e in
    frame_flushed b c.args.f _ (g.T.StateCalls.shown c.args.state.now) (g.T.StateCalls.shown c.end_flight.new.state) (g.T.StateCalls.shown c.write_changed.new.state) first (c.if-not-write_changed.ensures.wrote b first.backed)

pub returns-clause-flushed : goal.returns-clause-flushed
returns-clause-flushed g c b e =
    let first = c.if-not-end_flight.ensures.ended b e in
    frame_flushed b c.args.f _ (g.T.StateCalls.shown c.args.state.now) (g.T.StateCalls.shown c.end_flight.new.state) (g.T.StateCalls.shown c.write_changed.new.state) first (c.if-not-write_changed.ensures.wrote b first.backed)
