use Rattle.std.proofs.Common.{◌∙◌, sym, ap, is_some}
use Rattle.mm_types.proofs.{some_found, differ}
use Rattle.mm_world.specs.{process_of}
use Rattle.mm_calls.proofs.{called_beside, reset_done, reset_refused}
use Rattle.mm_calls.proofs.queries.reset_watch.Goals as goal

pub returns-in-Some-clause-called : goal.returns-in-Some-clause-called
returns-in-Some-clause-called c contents s f =
    let p = some_found (process_of c.args.t.now c.args.pid.0) (sym c.has.ensures ∙ c.if-not-has.false) in
    called_beside _ c.args.t.now c.reset_written.new.self contents s _
    (reset_done c.args.t.now c.args.pid.0 c.args.addr c.args.size p.0 p.1 (differ c.args.size 0 c.if-size-eq0.false) c.of.result c.of.ensures c.reset_written.new.self
    (sym (c.reset_written.ensures.found p.0 p.1) ∙ ap (λ o. is_some o) c.in-Some.is) (λ r found. c.reset_written.ensures.reset p.0 r p.1 found)) f (c.reset_written.ensures.fits contents s f)

pub returns-in-None-clause-called : goal.returns-in-None-clause-called
returns-in-None-clause-called c contents s f =
    let p = some_found (process_of c.args.t.now c.args.pid.0) (sym c.has.ensures ∙ c.if-not-has.false) in
    called_beside _ c.args.t.now c.reset_written.new.self contents s _
    (reset_refused c.args.t.now c.args.pid.0 c.args.addr c.args.size p.0 p.1 (differ c.args.size 0 c.if-size-eq0.false) c.of.result c.of.ensures c.reset_written.new.self
    (sym (c.reset_written.ensures.found p.0 p.1) ∙ ap (λ o. is_some o) c.in-None.is) (λ none. c.reset_written.ensures.none p.0 p.1 none)) f (c.reset_written.ensures.fits contents s f)
