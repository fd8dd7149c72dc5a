use Rattle.std.proofs.Common.{◌≡◌, ◌≤◌, ◌+◌, true, false, refl, sym, ◌∙◌, ap, arith, is_some}
use Rattle.mm_types.specs.{page_of}
use Rattle.mm_world.specs.{StackOf, process_of}
use Rattle.mm_object_tables.specs.{committed_row}
use Rattle.mm_calls.proofs.{not_next, MeetsGuard, settled_then, takes_off, of_other, of_overflow, of_growth, grows_here, answers, makes_as}
use Rattle.mm_calls.proofs.{makes_none}
use Rattle.mm_object_tables.proofs.{settled_same}
use Rattle.mm_calls.proofs.probes.probe.Given as given
use Rattle.mm_calls.proofs.probes.probe.Goals as goal
use Rattle.mm_calls.proofs.probes.probe.Goals.{After-is_overflow}
use Rattle.mm_types.proofs.{some_found, on_err, not_false}

record Meets (g : given.Over) (c : After-is_overflow g) : Type 0 where
  guard : MeetsGuard c.args.t.now c.args.tid.0 c.args.addr c.in-Some.stack c.in-Some-committed_row.row
  here : page_of c.args.addr ≡ c.in-Some.stack.guard_page
  above : c.in-Some.stack.base + 1 ≤ c.in-Some.stack.guard_page

meets : (g : given.Over) (c : After-is_overflow g) → Meets g c
meets g c = record {
  guard = record {
    has = sym c.stack_of.ensures ∙ c.in-Some.is;
    at = ap (λ (s : StackOf). committed_row c.args.t.now s.pid (page_of c.args.addr)) (sym c.stack.view_is) ∙ sym c.committed_row.ensures ∙ c.in-Some-committed_row.is;
    on = not_false c.in-Some-committed_row.row.guard c.if-not-row.false;
  };
  here = c.if-page-stack.false ∙ ap (λ (s : StackOf). s.guard_page) c.stack.view_is;
  above = omega (arith, c.stack.invariant.0, ap (λ (s : StackOf). s.base) c.stack.view_is, ap (λ (s : StackOf). s.guard_page) c.stack.view_is);
}

pub returns-then-page-stack-clause-done : goal.returns-then-page-stack-clause-done
returns-then-page-stack-clause-done g c =
    let t = c.args.t.now in
    let s = c.in-Some.stack in
    let page = page_of c.args.addr in
    let guard : MeetsGuard t c.args.tid.0 c.args.addr s c.in-Some-committed_row.row = record {
      has = sym c.stack_of.ensures ∙ c.in-Some.is;
      at = ap (λ (s : StackOf). committed_row t s.pid page) (sym c.stack.view_is) ∙ sym c.committed_row.ensures ∙ c.in-Some-committed_row.is;
      on = not_false c.in-Some-committed_row.row.guard c.if-not-row.false;
    } in
    let v = c.take_guard_off.new.self in
    answers g.G.PageStore _ t c.args.g.now c.requires.begins.fits _ v c.args.g.now (settled_same v _ _ (c.take_guard_off.ensures.fits _ _ c.requires.begins.fits))
    (of_other t c.args.tid.0 c.args.addr s _ guard (λ e. c.if-page-stack.true (e ∙ sym (ap (λ (s : StackOf). s.guard_page) c.stack.view_is))) v
    (takes_off t s.pid c.stack.inside.pid.0 page page v (ap (λ (s : StackOf). s.pid) c.stack.view_is) refl c.take_guard_off.ensures.off))

pub returns-then-is_overflow-clause-done : goal.returns-then-is_overflow-clause-done
returns-then-is_overflow-clause-done g c =
    let t = c.args.t.now in
    let s = c.in-Some.stack in
    let m = meets g (goal.at.returns-then-is_overflow-clause-done g c).After-is_overflow in
    let v = c.take_guard_off-then-is_overflow.new.self in
    answers g.G.PageStore _ t c.args.g.now c.requires.begins.fits _ v c.args.g.now (settled_same v _ _ (c.take_guard_off-then-is_overflow.ensures.fits _ _ c.requires.begins.fits))
    (of_overflow t c.args.tid.0 c.args.addr s _ m.guard m.here (λ p lives. sym (c.is_overflow.ensures p lives) ∙ c.if-is_overflow.true) v
    (takes_off t s.pid c.stack.inside.pid.0 s.guard_page c.stack.inside.guard_page v (ap (λ (s : StackOf). s.pid) c.stack.view_is) (ap (λ (s : StackOf). s.guard_page) c.stack.view_is) c.take_guard_off-then-is_overflow.ensures.off))

pub lower-requires : goal.lower-requires
lower-requires g c =
    let t = c.args.t.now in
    let s = c.in-Some.stack in
    let m = meets g (goal.at.lower-requires g c).After-is_overflow in
    let p = some_found (process_of t s.pid) (ap (λ (s : StackOf). is_some (process_of t s.pid)) (sym c.stack.view_is) ∙ sym c.has.ensures ∙ c.if-not-has.false) in
    record { above = not_next t p.0 s (sym (c.is_overflow.ensures p.0 p.1) ∙ c.if-is_overflow.false) (omega (arith, m.above)) }

pub returns-in_err-grow-clause-no_memory : goal.returns-in_err-grow-clause-no_memory
returns-in_err-grow-clause-no_memory g c same =
    let m = meets g (goal.at.returns-in_err-grow-clause-no_memory g c).After-is_overflow in
    let bad : true ≡ false = sym (grows_here c.args.t.now c.args.tid.0 c.args.addr c.in-Some.stack _ m.guard m.here (omega (arith, m.above)) (λ p lives. sym (c.is_overflow.ensures p lives) ∙ c.if-is_overflow.false)) ∙ same in
    cc

pub returns-clause-done : goal.returns-clause-done
returns-clause-done g c =
    let m = meets g (goal.at.returns-clause-done g c).After-is_overflow in
    answers g.G.PageStore _ c.args.t.now c.args.g.now c.requires.begins.fits _ c.lower.new.t c.grow.new.g (settled_then _ _ _ _ _ _ c.lower.ensures.fits c.grow.ensures.settles.settled)
    (of_growth c.args.t.now c.args.tid.0 c.args.addr c.in-Some.stack _ m.guard m.here (λ p lives. sym (c.is_overflow.ensures p lives) ∙ c.if-is_overflow.false)
    c.grow.new.t c.lower.new.t c.in_ok-grow.ensures.ok c.lower.ensures.lowered c.lower.result c.lower.ensures.answer)

pub returns-in_err-grow-clause-makes : goal.returns-in_err-grow-clause-makes
returns-in_err-grow-clause-makes g c = makes_as g.G.PageStore _ c.grow.ensures.makes (on_err c.from_residual.result c.in_err-grow.ensures.makes.idle)

pub returns-clause-makes : goal.returns-clause-makes
returns-clause-makes g c = makes_as g.G.PageStore _ c.grow.ensures.makes tt

pub returns-in-None-clause-makes : goal.returns-in-None-clause-makes
returns-in-None-clause-makes g c = makes_none g.G.PageStore _ c.args.g.now

pub returns-then-not-has-clause-makes : goal.returns-then-not-has-clause-makes
returns-then-not-has-clause-makes g c = makes_none g.G.PageStore _ c.args.g.now

pub returns-in-None-committed_row-clause-makes : goal.returns-in-None-committed_row-clause-makes
returns-in-None-committed_row-clause-makes g c = makes_none g.G.PageStore _ c.args.g.now

pub returns-then-not-permits-clause-makes : goal.returns-then-not-permits-clause-makes
returns-then-not-permits-clause-makes g c = makes_none g.G.PageStore _ c.args.g.now

pub returns-then-not-row-clause-makes : goal.returns-then-not-row-clause-makes
returns-then-not-row-clause-makes g c = makes_none g.G.PageStore _ c.args.g.now

pub returns-then-page-stack-clause-makes : goal.returns-then-page-stack-clause-makes
returns-then-page-stack-clause-makes g c = makes_none g.G.PageStore _ c.args.g.now

pub returns-then-is_overflow-clause-makes : goal.returns-then-is_overflow-clause-makes
returns-then-is_overflow-clause-makes g c = makes_none g.G.PageStore _ c.args.g.now
