use Rattle.std.proofs.Common.{ℕ, ◌≡◌, ◌≤◌, ◌<◌, refl, sym, ap, ◌∙◌, subst, inl, arith}
use Rattle.mm_types.specs.declared.events.Event.TheVariants as line
use Rattle.mm_state.specs.{shown_state}
use Rattle.mm_run.specs.declared.endings.Ending.TheVariants as ending
use Rattle.mm_run.specs.{Comes, IsBlamed, IsStill, NotBegun, StartsFrom, fault_counts_with, left_seen, outset, outside_seen, stand}
use Rattle.mm_run.proofs.{lent, starts_over, three_names, comes_here, follows_here, grows_here, came_memory}
use Rattle.mm_run.proofs.machines.run_machine.Goals as goal
use Rattle.mm_run.proofs.machines.run_machine.Goals.{In-Ok, After-moves-2-1}
use Rattle.mm_run.proofs.machines.run_machine.Given as given

-- the state over the devices is one with which a run starts
starts : (g : given.Over) (c : In-Ok g) (p f : ℕ) → p ≤ g.P.BlockDevice.faults c.args.paging.now → f ≤ g.F.BlockDevice.faults c.args.files.now
    → StartsFrom c.args.machine (outset p f (g.M.Sink.taken c.args.moves.now) (g.M.Sink.given c.args.moves.now) (g.M.Sink.faults c.args.moves.now)) (shown_state c.in-Ok.state)
starts g c = starts_over g.P.BlockDevice g.F.BlockDevice g.M.Sink c.args.machine _ c.requires.opened c.new.ensures.device c.new-2.ensures.device c.new-3.ensures.sink c.new.ensures.named c.new-2.ensures.named c.new-3.ensures.fresh c.in-Ok.ensures.starts

-- the point at which it is made, from the end
abbrev at_made : (g : given.Over) (c : After-moves-2-1 g) → In-Ok g
at_made g c = c.before.before.before.before.before.before.before.before.before.before.before.before

-- what is left of the devices and of the moves is what the state left
left : (g : given.Over) (c : After-moves-2-1 g)
    → (c.answer_over-ending.result.1.paging.device.now ≡ c.paging-2-1.given.0) × (c.answer_over-ending.result.1.files.device.now ≡ c.files-2-1.given.0) × (c.answer_over-ending.result.1.moves.sink.now ≡ c.moves-2-1.given.0)
left g c =
    let last = c.answer_over-ending.result.1 in
    let names = three_names last.paging.device.ghost_name last.files.device.ghost_name last.moves.sink.ghost_name c.new.result.device.ghost_name c.new-2.result.device.ghost_name c.new-3.result.sink.ghost_name (c.answer_over-ending.ensures.loans ∙ c.in-Ok.ensures.loans) in
    let was = c.finish-paging.ensures in (
      lent c.paging-2-1.given.1 c.new.ensures.same_reference names.0 (c.finish-2.ensures.same_reference ∙ ap (λ x. x.0.device.ghost_name) was) (c.finish-2.ensures.device ∙ ap (λ x. x.0.device.now) was),
      lent c.files-2-1.given.1 c.new-2.ensures.same_reference names.1 (c.finish-3.ensures.same_reference ∙ ap (λ x. x.1.device.ghost_name) was) (c.finish-3.ensures.device ∙ ap (λ x. x.1.device.now) was),
      lent c.moves-2-1.given.1 c.new-3.ensures.same_reference names.2 (c.finish-4.ensures.same_reference ∙ ap (λ x. x.2.sink.ghost_name) was) (c.finish-4.ensures.sink ∙ ap (λ x. x.2.sink.now) was),
    )

pub returns-in-Err-clause-came : goal.returns-in-Err-clause-came
returns-in-Err-clause-came g c = λ p f later later'.
    let small : 0 < 1000000 = omega arith in
    let o = outset p f (g.M.Sink.taken c.args.moves.now) (g.M.Sink.given c.args.moves.now) (g.M.Sink.faults c.args.moves.now) in
    let err = c.in-Err.ensures.err in
    let sink = sym (lent c.moves-1.given.1 c.new-3.ensures.same_reference refl (c.finish-in-Err-2.ensures.same_reference ∙ ap (λ x. x.2.sink.ghost_name) err) (c.finish-in-Err-2.ensures.sink ∙ ap (λ x. x.2.sink.now) err ∙ c.new-3.ensures.sink)) in
    comes_here _ _ _ _ o _ (sym (ap g.M.Sink.taken sink)) (sym (ap g.M.Sink.given sink)) (sym (ap g.M.Sink.faults sink))
    (came_memory c.args.held.now c.args.len 0 c.requires.line.line small c.requires.line.behind _ _ c.args.kept.now (NotBegun o) (NotBegun o) (line.Machine c.args.machine) c.requires.line.says c.requires.line.grammar (inl (refl, follows_here (NotBegun o))) (grows_here (NotBegun o)))

pub returns-in-Err-clause-faults : goal.returns-in-Err-clause-faults
returns-in-Err-clause-faults g c =
    let err = c.in-Err.ensures.err in
    let sink = sym (lent c.moves-1.given.1 c.new-3.ensures.same_reference refl (c.finish-in-Err-2.ensures.same_reference ∙ ap (λ x. x.2.sink.ghost_name) err) (c.finish-in-Err-2.ensures.sink ∙ ap (λ x. x.2.sink.now) err ∙ c.new-3.ensures.sink)) in
    (let same = ap g.M.Sink.faults sink in omega (arith, same), refl)

-- a run starts with the state over them
pub answer_over-ending-requires-clause-starts : goal.answer_over-ending-requires-clause-starts
answer_over-ending-requires-clause-starts g c = record { outset = _; starts = starts g (goal.at.answer_over-ending-requires-clause-starts g c).In-Ok 0 0 (omega arith) (omega arith) }

pub returns-clause-came : goal.returns-clause-came
returns-clause-came g c = λ p f later later'.
    let at = (goal.at.returns-clause-came g c).After-moves-2-1 in
    let as_left = left g at in
    subst (λ x. Comes (outside_seen g.S.Source g.O.Sink c.args.source.now c.args.out.now c.args.kept.now) (outside_seen g.S.Source g.O.Sink c.answer_over-ending.new.source c.answer_over-ending.new.out c.answer_over-ending.new.kept) (stand c.args.held.now 0 (NotBegun (outset p f (g.M.Sink.taken c.args.moves.now) (g.M.Sink.given c.args.moves.now) (g.M.Sink.faults c.args.moves.now)))) c.answer_over-ending.result.0 x)
    (λ i. left_seen g.M.Sink g.P.BlockDevice g.F.BlockDevice (as_left.2 i) (as_left.0 i) (as_left.1 i))
    (c.answer_over-ending.ensures.came _ (starts g (at_made g at) p f later later'))

pub returns-clause-faults : goal.returns-clause-faults
returns-clause-faults g c =
    let at = (goal.at.returns-clause-faults g c).After-moves-2-1 in
    subst (λ d. IsBlamed c.answer_over-ending.result.0 ⊥ (fault_counts_with (g.S.Source.faults c.args.source.now) (g.O.Sink.faults c.args.out.now) (g.M.Sink.faults c.args.moves.now)) (fault_counts_with (g.S.Source.faults c.answer_over-ending.new.source) (g.O.Sink.faults c.answer_over-ending.new.out) (g.M.Sink.faults d))) (left g at).2
    (c.answer_over-ending.ensures.faults _ (starts g (at_made g at) 0 0 (omega arith) (omega arith)))

pub returns-clause-still : goal.returns-clause-still
returns-clause-still g c =
    let at = (goal.at.returns-clause-still g c).After-moves-2-1 in
    subst (λ d. c.answer_over-ending.result.0 ≡ ending.ReadFault → IsStill c.answer_over-ending.new.kept (g.O.Sink.given c.answer_over-ending.new.out) (g.O.Sink.taken c.answer_over-ending.new.out) (g.M.Sink.given d) (g.M.Sink.taken d)) (left g at).2
    c.answer_over-ending.ensures.still
