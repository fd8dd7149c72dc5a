use Rattle.std.proofs.Common.{◌≡◌, ℕ, ◌+◌, ◌-◌, ◌∙◌, Some, subst, true, false, sym, ap, is_some}
use Rattle.mm_types.specs.{Range, address_of}
use Rattle.mm_types.specs.declared.answers.Answer.TheVariants as answer
use Rattle.mm_types.proofs.{some_found}
use Rattle.mm_world.proofs.{page_of-address_of}
use Rattle.mm_world.specs.{ProcessOf, Tables, process_of, stack_by, blank, stack, set_stack, set_regions, add_region, stack_region}
use Rattle.mm_store.specs.{Turns, MakesStack, guard_told, PassesIn}
use Rattle.mm_object_tables.proofs.{settled_same}
use Rattle.mm_calls.proofs.{ChangesWithin, past_limit, then_made, then_succeeds, stack_within, settled_then, answers}
use Rattle.mm_calls.proofs.stacks.stack.Given as given
use Rattle.mm_calls.proofs.stacks.stack.Goals as goal
use Rattle.mm_calls.proofs.stacks.stack.Goals.{After-can_charge}

within : (g : given.Over) (c : After-can_charge g) (p : ProcessOf (Unit {0})) → process_of c.args.t.now c.args.pid.0 ≡ Some p
    → (let range : Range = c.in-Some.range in let guard = range.first + range.count - (c.commit_pages-top.result + 1) in
    ChangesWithin (stack blank c.args.t.now c.args.tid.0 c.args.pid.0 c.args.reserve c.args.commit) c.args.t.now (c.commit_pages-top.result + 1) (answer.Stack (address_of range.first) (address_of range.count) (address_of guard))
    (set_stack (set_regions c.args.t.now c.args.pid.0 p (add_region (stack_region blank range.first range.count c.commit_pages-top.result) p.regions)) c.args.tid.0 (record { pid = c.args.pid.0; base = range.first; guard_page = guard })))
within g c p lives =
    let free : is_some (stack_by c.args.t.now c.args.tid.0) ≡ false = ap (λ o. is_some o) (sym c.stack_of.ensures) ∙ sym c.is_some.ensures ∙ c.if-is_some.false in
    stack_within c.args.t.now c.args.tid.0 c.args.pid.0 c.args.reserve c.args.commit p lives free c.reserve_pages-pages.result c.commit_pages-top.result c.reserve_pages-pages.ensures.pages c.commit_pages-top.ensures.pages c.if-top-pages.false
    c.space.result.now.regions (c.space.ensures p lives) c.in-Some.range (sym c.gap_for_view.ensures.found ∙ c.in-Some.is)

pub returns-then-not-can_charge-clause-done : goal.returns-then-not-can_charge-clause-done
returns-then-not-can_charge-clause-done g c =
    let t = c.args.t.now in
    let p = some_found (process_of t c.args.pid.0) (sym c.has.ensures ∙ c.if-not-has.false) in
    answers g.G.PageStore _ t c.args.g.now c.requires.begins.fits _ t c.args.g.now (settled_same t _ _ c.requires.begins.fits)
    (past_limit (within g (goal.at.returns-then-not-can_charge-clause-done g c).After-can_charge p.0 p.1) c.can_charge.ensures c.if-not-can_charge.true)

pub returns-clause-done : goal.returns-clause-done
returns-clause-done g c =
    let t = c.args.t.now in
    let range : Range = c.in-Some.range in
    let p = some_found (process_of t c.args.pid.0) (sym c.has.ensures ∙ c.if-not-has.false) in
    answers g.G.PageStore _ t c.args.g.now c.requires.begins.fits _ c.begin.new.t c.make_region.new.g (settled_then _ _ _ _ _ _ c.begin.ensures.fits c.make_region.ensures.settles.settled)
    (then_made (within g (goal.at.returns-clause-done g c).After-can_charge p.0 p.1) c.can_charge.ensures c.if-not-can_charge.false c.begin.ensures.answer
    (c.begin.ensures.begun
    ∙ ap (λ (u : Tables). set_stack u c.args.tid.0 (record { pid = c.args.pid.0; base = range.first; guard_page = range.first + range.count - (c.commit_pages-top.result + 1) })) (c.in_ok-make_region.ensures.ok p.0 p.1)))

pub returns-clause-passes : goal.returns-clause-passes
returns-clause-passes g c =
    let range : Range = c.in-Some.range in
    let guard = range.first + range.count - (c.commit_pages-top.result + 1) in
    let told : guard_told c.begin.result ≡ guard = ap guard_told c.begin.ensures.answer ∙ page_of-address_of guard in
    subst (λ (n : ℕ). PassesIn g.G.PageStore.unpaged (Turns (MakesStack n)) (g.G.PageStore.store c.args.g.now) (g.G.PageStore.store c.make_region.new.g) (g.G.PageStore.behind c.args.g.now) (g.G.PageStore.behind c.make_region.new.g))
    (sym told) c.make_region.ensures.makes.passes

pub returns-in_err-make_region-clause-no_memory : goal.returns-in_err-make_region-clause-no_memory
returns-in_err-make_region-clause-no_memory g c refused =
    let p = some_found (process_of c.args.t.now c.args.pid.0) (sym c.has.ensures ∙ c.if-not-has.false) in
    let bad : true ≡ false = sym (then_succeeds (within g (goal.at.returns-in_err-make_region-clause-no_memory g c).After-can_charge p.0 p.1) c.can_charge.ensures c.if-not-can_charge.false) ∙ refused in
    cc
