use Rattle.std.proofs.Common.{◌∙◌}
use Rattle.mm_reasons.proofs.{said_event, torn_event}
use Rattle.mm_reasons.proofs.talks.say.Goals as goal

pub returns-in-Ok-write_flushed-clause-said : goal.returns-in-Ok-write_flushed-clause-said
returns-in-Ok-write_flushed-clause-said g c =
    let taken = g.O.Sink.taken in
    said_event (taken c.args.out.now) (taken c.write_flushed.new.out) c.as_slice.result.now c.args.event.now c.requires
    (c.as_slice.ensures.value ∙ c.in-Ok.ensures) c.in-Ok-write_flushed.ensures.wrote

pub returns-clause-said : goal.returns-clause-said
returns-clause-said g c =
    let taken = g.O.Sink.taken in
    torn_event (taken c.args.out.now) (taken c.write_flushed.new.out) c.as_slice.result.now c.args.event.now
    (c.as_slice.ensures.value ∙ c.in-Ok.ensures) c.in-Err-write_flushed.ensures.wrote
