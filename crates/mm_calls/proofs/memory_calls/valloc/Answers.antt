use Rattle.std.proofs.Common.{◌≡◌, ◌<◌, true, Some, sym, ap, ◌∙◌, subst}
use Rattle.mm_types.specs.{Range}
use Rattle.mm_world.specs.{ProcessOf, charge, process_of, reserve, are_alloc_parameters, blank, is_success}
use Rattle.mm_world.specs.Alloc.{commit_pages}
use Rattle.mm_calls.proofs.{IsRight, is_right, alloc_reserves, alloc_commits, reserves_anew, commits_anew, answers-by, ok_unless, makes_none}
use Rattle.mm_calls.proofs.memory_calls.valloc.Given as given
use Rattle.mm_calls.proofs.memory_calls.valloc.Goals as goal
use Rattle.mm_calls.proofs.memory_calls.valloc.Goals.{After-is_reserving}

asked : (g : given.Over) (c : After-is_reserving g) → IsRight c.args.t.now c.args.pid.0 (are_alloc_parameters c.args.size c.plain_type-plain.result c.args.prot)
asked g c = is_right c.has.ensures c.if-not-has.false c.are_alloc_parameters.ensures c.if-not-are_alloc_parameters.false

pub returns-then-is_reserving-clause-done : goal.returns-then-is_reserving-clause-done
returns-then-is_reserving-clause-done g c =
    let a = asked g (goal.at.returns-then-is_reserving-clause-done g c).After-is_reserving in
    answers-by g.G.PageStore _ c.args.t.now c.args.g.now c.requires.begins.fits c.args.pid a.process _ a.lives
    (alloc_reserves c.args.t.now c.args.pid.0 c.args.addr c.args.size c.args.kind c.args.prot a.process c.plain_type-plain.result a.lives c.plain_type-plain.ensures a.parameters
    c.is_watched_type-watched.result c.is_watched_type-watched.ensures (sym c.is_reserving.ensures ∙ c.if-is_reserving.true))
    c.reserve.result c.reserve.new.t c.reserve.new.g c.reserve.ensures.made.done

pub returns-else-is_reserving-clause-done : goal.returns-else-is_reserving-clause-done
returns-else-is_reserving-clause-done g c =
    let a = asked g (goal.at.returns-else-is_reserving-clause-done g c).After-is_reserving in
    answers-by g.G.PageStore _ c.args.t.now c.args.g.now c.requires.begins.fits c.args.pid a.process _ a.lives
    (alloc_commits c.args.t.now c.args.pid.0 c.args.addr c.args.size c.args.kind c.args.prot a.process c.plain_type-plain.result a.lives c.plain_type-plain.ensures a.parameters (sym c.is_reserving.ensures ∙ c.if-is_reserving.false)
    ∙ ap (λ (range : Range). commit_pages blank c.args.t.now c.args.pid.0 a.process range c.args.prot) (sym c.of.ensures))
    c.commit.result c.commit.new.t c.commit.new.g c.commit.ensures.done

pub returns-then-is_reserving-clause-no_memory : goal.returns-then-is_reserving-clause-no_memory
returns-then-is_reserving-clause-no_memory g c none =
    let a = asked g (goal.at.returns-then-is_reserving-clause-no_memory g c).After-is_reserving in
    ok_unless c.reserve.result c.reserve.ensures.made.succeeds
    (λ (succeeds : (q : ProcessOf (Unit {0})) → process_of c.args.t.now c.args.pid.0 ≡ Some q → is_success (reserve blank c.args.t.now c.args.pid.0 q c.args.addr c.args.size c.is_watched_type-watched.result c.plain_type-plain.result c.args.prot).answer ≡ true).
    sym none
    ∙ reserves_anew c.args.t.now c.args.pid.0 c.args.addr c.args.size c.args.kind c.args.prot a.process c.plain_type-plain.result a.lives c.plain_type-plain.ensures a.parameters
    c.is_watched_type-watched.result c.is_watched_type-watched.ensures (sym c.is_reserving.ensures ∙ c.if-is_reserving.true) (succeeds a.process a.lives))

pub returns-else-is_reserving-clause-no_memory : goal.returns-else-is_reserving-clause-no_memory
returns-else-is_reserving-clause-no_memory g c none =
    let t = c.args.t.now in
    let a = asked g (goal.at.returns-else-is_reserving-clause-no_memory g c).After-is_reserving in
    ok_unless c.commit.result c.commit.ensures.charges
    (λ (more : (q : ProcessOf (Unit {0})) → process_of t c.args.pid.0 ≡ Some q → charge t < charge (commit_pages blank t c.args.pid.0 q c.of.result c.args.prot).world).
    absurd (commits_anew t c.args.pid.0 c.args.addr c.args.size c.args.kind c.args.prot a.process c.plain_type-plain.result a.lives c.plain_type-plain.ensures a.parameters (sym c.is_reserving.ensures ∙ c.if-is_reserving.false)
    (subst (λ (range : Range). charge t < charge (commit_pages blank t c.args.pid.0 a.process range c.args.prot).world) c.of.ensures (more a.process a.lives)) none))

pub returns-then-not-has-clause-makes : goal.returns-then-not-has-clause-makes
returns-then-not-has-clause-makes g c = makes_none g.G.PageStore _ c.args.g.now

pub returns-then-not-are_alloc_parameters-clause-makes : goal.returns-then-not-are_alloc_parameters-clause-makes
returns-then-not-are_alloc_parameters-clause-makes g c = makes_none g.G.PageStore _ c.args.g.now
