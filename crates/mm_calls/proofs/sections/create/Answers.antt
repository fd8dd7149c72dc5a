use Rattle.std.proofs.Common.{◌∙◌, sym}
use Rattle.mm_world.specs.{process_of}
use Rattle.mm_calls.proofs.Named.{maybe_lives, maybe_told, created_existing}
use Rattle.mm_calls.proofs.{answers-if, makes_none}
use Rattle.mm_calls.proofs.sections.create.Goals as goal
use Rattle.mm_types.proofs.{some_found}

pub add_existing-requires-clause-section : goal.add_existing-requires-clause-section
add_existing-requires-clause-section g c = maybe_lives c.args.t.now c.args.name c.in-Some.id (sym c.section_with.ensures ∙ c.in-Some.is)

pub returns-in-Some-clause-makes : goal.returns-in-Some-clause-makes
returns-in-Some-clause-makes g c = makes_none g.G.PageStore _ c.args.g.now

pub returns-in-Some-clause-done : goal.returns-in-Some-clause-done
returns-in-Some-clause-done g c =
    let t = c.args.t.now in
    let old = g.G.PageStore.contents c.args.g.now in
    let s = g.G.PageStore.store c.args.g.now in
    let p = some_found (process_of t c.args.pid.0) (sym c.has.ensures ∙ c.if-not-has.false) in
    let settled = c.add_existing.ensures.settled old s c.requires.begins.fits in
    answers-if g.G.PageStore _ t c.args.g.now c.requires.begins.fits c.add_existing.result c.add_existing.new.t c.args.g.now settled
    (created_existing t c.add_existing.new.t old s c.args.pid.0 c.args.size c.args.flags c.in-Some.id.0 c.args.name p.0 c.add_existing.result p.1
    (sym c.are_section_parameters.ensures ∙ c.if-not-are_section_parameters.false) (maybe_told t c.args.name c.in-Some.id (sym c.section_with.ensures ∙ c.in-Some.is))
    c.add_existing.ensures.ok c.requires.begins.fits settled)

pub returns-then-not-has-clause-makes : goal.returns-then-not-has-clause-makes
returns-then-not-has-clause-makes g c = makes_none g.G.PageStore _ c.args.g.now

pub returns-then-not-are_section_parameters-clause-makes : goal.returns-then-not-are_section_parameters-clause-makes
returns-then-not-are_section_parameters-clause-makes g c = makes_none g.G.PageStore _ c.args.g.now
