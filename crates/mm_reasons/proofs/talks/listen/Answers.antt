use Rattle.std.proofs.Common.{rules, ◌∙◌, take, arith}
use Rattle.mm_types.proofs.{rose_later}
use Rattle.mm_reasons.proofs.{blamed_write, listens_none, listens_on, listens_then, stops_long, stops_reading, stops_then, well_then}
use Rattle.mm_reasons.proofs.talks.listen.Goals as goal

pub loop-turn-init : goal.loop-turn-init
loop-turn-init g c =
    record {
      listens = listens_none _ _ _ _ c.requires;
      source_later = omega arith;
      later = omega arith;
      err_later = omega arith;
      source_same = search rules;
      out_well = search rules;
      err_well = search rules;
    }

pub returns-in-Err-clause-said : goal.returns-in-Err-clause-said
returns-in-Err-clause-said g c = stops_reading (listens_on (g.S.Source.left c.read.new.self) c.loop-turn.invariant.listens c.in-Err.ensures.bytes)

pub returns-in-Err-clause-blame : goal.returns-in-Err-clause-blame
returns-in-Err-clause-blame g c =
    let faults = g.S.Source.faults in
    rose_later (faults c.args.source.now) (faults c.loop-turn.source) (faults c.read.new.self)
    c.loop-turn.invariant.source_later c.in-Err.ensures.cause.failed

pub returns-clause-said : goal.returns-clause-said
returns-clause-said g c = stops_long c.loop-turn.invariant.listens

pub returns-in-Err-take_bytes-clause-said : goal.returns-in-Err-take_bytes-clause-said
returns-in-Err-take_bytes-clause-said g c =
    stops_then c.in-Err-take_bytes.ending (g.S.Source.left c.read.new.self) (take c.in-Ok.count c.read.new.buf) (g.O.Sink.taken c.take_bytes.new.out)
    c.loop-turn.invariant.listens c.in-Ok.ensures.bytes.bytes c.in-Err-take_bytes.ensures.said

pub returns-in-Err-take_bytes-clause-blame : goal.returns-in-Err-take_bytes-clause-blame
returns-in-Err-take_bytes-clause-blame g c =
    let out = g.O.Sink.faults in
    let err = g.E.Sink.faults in
    blamed_write c.in-Err-take_bytes.ending (g.S.Source.faults c.args.source.now) (g.S.Source.faults c.read.new.self)
    (out c.args.out.now) (out c.loop-turn.out) (out c.take_bytes.new.out)
    (err c.args.err.now) (err c.loop-turn.err) (err c.take_bytes.new.err)
    c.loop-turn.invariant.later c.loop-turn.invariant.err_later c.in-Err-take_bytes.ensures.blame

pub loop-turn-preserved : goal.loop-turn-preserved
loop-turn-preserved g c =
    let i = c.loop-turn.invariant in
    record {
      listens = listens_then (g.S.Source.left c.read.new.self) (take c.in-Ok.count c.read.new.buf) i.listens c.in-Ok.ensures.bytes.bytes
          c.in-Ok-take_bytes.ensures.said;
      source_later = omega (arith, c.read.ensures.cause.later, i.source_later);
      later = omega (arith, c.take_bytes.ensures.later, i.later);
      err_later = omega (arith, c.take_bytes.ensures.err_later, i.err_later);
      source_same = c.in-Ok.ensures.cause.same ∙ i.source_same;
      out_well = well_then _ _ _ i.out_well (c.in-Ok-take_bytes.ensures.out_well (λ e. cc));
      err_well = well_then _ _ _ i.err_well (c.in-Ok-take_bytes.ensures.err_well (λ e. cc));
    }

pub returns-in-Err-take_bytes-clause-out_well : goal.returns-in-Err-take_bytes-clause-out_well
returns-in-Err-take_bytes-clause-out_well g c = λ n. well_then _ _ _ c.loop-turn.invariant.out_well (c.in-Err-take_bytes.ensures.out_well n)

pub returns-in-Err-take_bytes-clause-err_well : goal.returns-in-Err-take_bytes-clause-err_well
returns-in-Err-take_bytes-clause-err_well g c = λ n. well_then _ _ _ c.loop-turn.invariant.err_well (c.in-Err-take_bytes.ensures.err_well n)
