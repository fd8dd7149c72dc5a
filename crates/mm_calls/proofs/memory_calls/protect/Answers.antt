use Rattle.std.proofs.Common.{◌≡◌, ◌<◌, true, Some, sym, ◌∙◌, subst}
use Rattle.mm_types.specs.{Range}
use Rattle.mm_types.proofs.{some_found}
use Rattle.mm_world.specs.{ProcessOf, charge, process_of, are_protect_parameters}
use Rattle.mm_calls.specs.{protect_pages}
use Rattle.mm_calls.proofs.{marks_there, ok_unless, stays_idle}
use Rattle.mm_calls.proofs.memory_calls.protect.Goals as goal

pub returns-clause-no_memory : goal.returns-clause-no_memory
returns-clause-no_memory g c none =
    let t = c.args.t.now in
    let p = some_found (process_of t c.args.pid.0) (sym c.has.ensures ∙ c.if-not-has.false) in
    let right : are_protect_parameters c.args.size c.args.prot ≡ true = sym c.are_protect_parameters.ensures ∙ c.if-not-are_protect_parameters.false in
    ok_unless c.protect_range.result c.protect_range.ensures.marks
    (λ (more : (q : ProcessOf (Unit {0})) → process_of t c.args.pid.0 ≡ Some q → charge t < charge (protect_pages t c.args.pid.0 q c.of.result c.args.prot).world).
    absurd (marks_there t c.args.pid.0 c.args.addr c.args.size c.args.prot p.0 p.1 right
    (subst (λ (range : Range). charge t < charge (protect_pages t c.args.pid.0 p.0 range c.args.prot).world) c.of.ensures (more p.0 p.1)) none))

pub returns-then-not-has-clause-idles : goal.returns-then-not-has-clause-idles
returns-then-not-has-clause-idles g c = stays_idle g.G.PageStore c.args.g.now

pub returns-then-not-are_protect_parameters-clause-idles : goal.returns-then-not-are_protect_parameters-clause-idles
returns-then-not-are_protect_parameters-clause-idles g c = stays_idle g.G.PageStore c.args.g.now
