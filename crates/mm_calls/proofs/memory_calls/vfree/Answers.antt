use Rattle.std.proofs.Common.{◌∙◌, sym, ap, is_some}
use Rattle.mm_types.specs.declared.answers.Answer.TheVariants as answer
use Rattle.mm_types.proofs.{same_found}
use Rattle.mm_world.specs.{RegionOf, Found, Tables, is_private, are_free_parameters, done}
use Rattle.mm_object_tables.proofs.{settled_same}
use Rattle.mm_calls.proofs.{IsRight, is_right, answers, frees_none, releases, releases_there, decommits}
use Rattle.mm_calls.proofs.memory_calls.vfree.Given as given
use Rattle.mm_calls.proofs.memory_calls.vfree.Goals as goal
use Rattle.mm_calls.proofs.memory_calls.vfree.Goals.{After-freed_pages}

asked : (g : given.Over) (c : After-freed_pages g) → IsRight c.args.t.now c.args.pid.0 (are_free_parameters c.args.size c.args.kind)
asked g c = is_right c.has.ensures c.if-not-has.false c.are_free_parameters.ensures c.if-not-are_free_parameters.false

pub returns-in-None-clause-done : goal.returns-in-None-clause-done
returns-in-None-clause-done g c =
    let t = c.args.t.now in
    let a = asked g (goal.at.returns-in-None-clause-done g c).After-freed_pages in
    answers g.G.PageStore _ t c.args.g.now c.requires.begins.fits _ t c.args.g.now (settled_same t _ _ c.requires.begins.fits)
    (frees_none t c.args.pid.0 c.args.addr c.args.size c.args.kind a.process a.lives a.parameters (sym (c.freed_pages.ensures a.process a.lives) ∙ c.in-None.is))

pub release-requires-clause-there : goal.release-requires-clause-there
release-requires-clause-there g c p lives =
    let a = asked g (goal.at.release-requires-clause-there g c).After-freed_pages in
    releases_there c.args.t.now c.args.pid.0 c.args.addr c.args.size c.args.kind p lives a.parameters c.in-Some.range (sym (c.freed_pages.ensures p lives) ∙ c.in-Some.is) c.if-kind.true

pub returns-then-kind-clause-done : goal.returns-then-kind-clause-done
returns-then-kind-clause-done g c =
    let t = c.args.t.now in
    let a = asked g (goal.at.returns-then-kind-clause-done g c).After-freed_pages in
    answers g.G.PageStore _ t c.args.g.now c.requires.begins.fits _ c.release.new.self c.release.new.g c.release.ensures.frees.settled
    (releases t c.args.pid.0 c.args.addr c.args.size c.args.kind a.process a.lives a.parameters c.in-Some.range (sym (c.freed_pages.ensures a.process a.lives) ∙ c.in-Some.is) c.if-kind.true c.release.new.self
    (λ r at. c.release.ensures.changed a.process r a.lives at))

pub decommit-requires-clause-inside : goal.decommit-requires-clause-inside
decommit-requires-clause-inside g c p lives =
    let a = asked g (goal.at.decommit-requires-clause-inside g c).After-freed_pages in
    ap is_some (decommits c.args.t.now c.args.pid.0 c.args.addr c.args.size c.args.kind p lives a.parameters c.in-Some.range (sym (c.freed_pages.ensures p lives) ∙ c.in-Some.is) c.if-kind.false c.sound.ensures.sound).around

pub decommit-requires-clause-private : goal.decommit-requires-clause-private
decommit-requires-clause-private g c p q lives found =
    let a = asked g (goal.at.decommit-requires-clause-private g c).After-freed_pages in
    let d = decommits c.args.t.now c.args.pid.0 c.args.addr c.args.size c.args.kind p lives a.parameters c.in-Some.range (sym (c.freed_pages.ensures p lives) ∙ c.in-Some.is) c.if-kind.false c.sound.ensures.sound in
    ap (λ (r : Found (RegionOf (Unit {0}))). is_private r.thing.kind) (same_found _ q d.region found d.around) ∙ d.private

pub returns-clause-done : goal.returns-clause-done
returns-clause-done g c =
    let t = c.args.t.now in
    let a = asked g (goal.at.returns-clause-done g c).After-freed_pages in
    let d = decommits t c.args.pid.0 c.args.addr c.args.size c.args.kind a.process a.lives a.parameters c.in-Some.range (sym (c.freed_pages.ensures a.process a.lives) ∙ c.in-Some.is) c.if-kind.false c.sound.ensures.sound in
    answers g.G.PageStore _ t c.args.g.now c.requires.begins.fits _ c.decommit.new.self c.decommit.new.g c.decommit.ensures.frees.settled
    (d.is ∙ ap (λ (w : Tables). done answer.Ok w) (sym (c.decommit.ensures.changed a.process d.region a.lives d.around)))
