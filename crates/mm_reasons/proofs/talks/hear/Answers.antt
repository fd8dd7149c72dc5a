use Rattle.mm_reasons.proofs.{hear_last, hear_stops, blamed_result, well_then}
use Rattle.mm_reasons.proofs.talks.hear.Goals as goal

pub returns-in-Ok-clause-said : goal.returns-in-Ok-clause-said
returns-in-Ok-clause-said g c =
    let taken = g.O.Sink.taken in
    hear_last c.take_byte.result c.listen.new.explainer c.take_byte.new.explainer c.listen.new.line.items c.take_byte.new.line.items
    c.new-explainer.result c.new-line.result.items (g.S.Source.left c.args.source.now) (g.S.Source.left c.listen.new.source)
    (taken c.args.out.now) (taken c.listen.new.out) (taken c.take_byte.new.out)
    c.new-explainer.ensures c.new-line.ensures.items c.in-Ok.ensures.said c.take_byte.ensures.said

pub returns-clause-said : goal.returns-clause-said
returns-clause-said g c =
    hear_stops c.in-Err.ending c.new-explainer.result c.new-line.result.items (g.S.Source.left c.args.source.now) (g.S.Source.left c.listen.new.source)
    (g.O.Sink.taken c.args.out.now) (g.O.Sink.taken c.listen.new.out) c.new-explainer.ensures c.new-line.ensures.items c.in-Err.ensures.said

pub returns-in-Ok-clause-blame : goal.returns-in-Ok-clause-blame
returns-in-Ok-clause-blame g c =
    let out = g.O.Sink.faults in
    let err = g.E.Sink.faults in
    blamed_result c.take_byte.result (g.S.Source.faults c.args.source.now) (g.S.Source.faults c.listen.new.source)
    (out c.args.out.now) (out c.listen.new.out) (out c.take_byte.new.out)
    (err c.args.err.now) (err c.listen.new.err) (err c.take_byte.new.err)
    c.listen.ensures.later c.listen.ensures.err_later c.take_byte.ensures.blame

pub returns-in-Ok-clause-out_well : goal.returns-in-Ok-clause-out_well
returns-in-Ok-clause-out_well g c = λ n. well_then _ _ _ (c.in-Ok.ensures.out_well (λ e. cc)) (c.take_byte.ensures.out_well n)

pub returns-in-Ok-clause-err_well : goal.returns-in-Ok-clause-err_well
returns-in-Ok-clause-err_well g c = λ n. well_then _ _ _ (c.in-Ok.ensures.err_well (λ e. cc)) (c.take_byte.ensures.err_well n)
