use Rattle.std.proofs.Common.{sym, subst, List}
use Rattle.mm_types.specs.{Event}
use Rattle.mm_reasons.specs.{HaltsAmid}
use Rattle.mm_reasons.proofs.{heard_meant, said_explained, same_said}
use Rattle.mm_reasons.proofs.talks.take_line.Goals as goal

pub returns-in-Ok-say_meaning-clause-said : goal.returns-in-Ok-say_meaning-clause-said
returns-in-Ok-say_meaning-clause-said g c =
    let taken = g.O.Sink.taken in
    said_explained c.explain.result (taken c.args.out.now) (taken c.say_meaning.new.out) _ _
    (same_said c.args.explainer.now c.args.line.now c.names.result.now c.begun-begun.result c.in-Ok.meaning c.names.ensures c.begun-begun.ensures c.in-Ok.ensures.value)
    c.in-Ok-say_meaning.ensures.said c.explain.ensures.halts

pub returns-in-Ok-say_meaning-clause-heard : goal.returns-in-Ok-say_meaning-clause-heard
returns-in-Ok-say_meaning-clause-heard g c =
    heard_meant c.explain.result c.args.explainer.now c.explain.new.explainer c.args.line.now c.names.result.now c.in-Ok.meaning c.names.ensures
    c.in-Ok.ensures.value c.explain.ensures.heard

pub returns-in-Err-say_meaning-clause-said : goal.returns-in-Err-say_meaning-clause-said
returns-in-Err-say_meaning-clause-said g c =
    let taken = g.O.Sink.taken in
    subst (λ (es : List Event). HaltsAmid c.in-Err-say_meaning.ending (taken c.args.out.now) (taken c.say_meaning.new.out) es)
    (same_said c.args.explainer.now c.args.line.now c.names.result.now c.begun-begun.result c.in-Ok.meaning c.names.ensures c.begun-begun.ensures c.in-Ok.ensures.value)
    c.in-Err-say_meaning.ensures.said
