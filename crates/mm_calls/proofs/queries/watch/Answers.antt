use Rattle.std.proofs.Common.{◌∙◌, sym}
use Rattle.mm_types.proofs.{some_found, differ}
use Rattle.mm_world.specs.{process_of}
use Rattle.mm_calls.proofs.{called_beside, watch_gives, watch_refused}
use Rattle.mm_calls.proofs.queries.watch.Goals as goal

pub returns-in-Some-clause-called : goal.returns-in-Some-clause-called
returns-in-Some-clause-called c contents s f =
    let p = some_found (process_of c.args.t.now c.args.pid.0) (sym c.has.ensures ∙ c.if-not-has.false) in
    called_beside _ c.args.t.now c.written_pages.new.t contents s _
    (watch_gives c.args.t.now c.args.pid.0 c.args.addr c.args.size p.0 p.1 (differ c.args.size 0 c.if-size-eq0.false) c.of.result c.of.ensures c.args.unwrites c.args.count c.written_pages.new.t c.in-Some.pages
    (sym c.in-Some.is ∙ c.written_pages.ensures.found p.0 p.1) (λ r found. c.written_pages.ensures.after p.0 r p.1 found)) f (c.written_pages.ensures.fits contents s f)

pub returns-in-None-clause-called : goal.returns-in-None-clause-called
returns-in-None-clause-called c contents s f =
    let p = some_found (process_of c.args.t.now c.args.pid.0) (sym c.has.ensures ∙ c.if-not-has.false) in
    called_beside _ c.args.t.now c.written_pages.new.t contents s _
    (watch_refused c.args.t.now c.args.pid.0 c.args.addr c.args.size p.0 p.1 (differ c.args.size 0 c.if-size-eq0.false) c.of.result c.of.ensures c.args.unwrites c.args.count c.written_pages.new.t
    (sym c.in-None.is ∙ c.written_pages.ensures.found p.0 p.1) (λ none. c.written_pages.ensures.none p.0 p.1 none)) f (c.written_pages.ensures.fits contents s f)
