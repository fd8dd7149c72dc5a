use Rattle.std.proofs.Common.{ℕ, ◌∷◌, ◌≡◌, ◌≤◌, refl, sym, ap, ◌∙◌, subst, inl, arith}
use Rattle.mm_types.specs.declared.events.Event.TheVariants as line
use Rattle.mm_state.specs.{shown_state}
use Rattle.mm_run.specs.declared.endings.Ending.TheVariants as ending
use Rattle.mm_run.specs.{AccountsMoves, BatchRan, NotBegun, StartsFrom, left_seen, outset}
use Rattle.mm_run.proofs.{lent, starts_over, three_names, stopped_here, log_left_at}
use Rattle.mm_run.proofs.bulk.run_events.Goals as goal
use Rattle.mm_run.proofs.bulk.run_events.Goals.{In-Ok, After-moves-2-1}
use Rattle.mm_run.proofs.bulk.run_events.Given as given

-- the state over the devices is one with which a run starts
starts : (g : given.Over) (c : In-Ok g) (p f : ℕ) → p ≤ g.P.BlockDevice.faults c.args.paging.now → f ≤ g.F.BlockDevice.faults c.args.files.now
    → StartsFrom c.args.machine (outset p f (g.M.Sink.taken c.args.moves.now) (g.M.Sink.given c.args.moves.now) (g.M.Sink.faults c.args.moves.now)) (shown_state c.in-Ok.state)
starts g c = starts_over g.P.BlockDevice g.F.BlockDevice g.M.Sink c.args.machine _ c.requires.opened c.new.ensures.device c.new-2.ensures.device c.new-3.ensures.sink c.new.ensures.named c.new-2.ensures.named c.new-3.ensures.fresh c.in-Ok.ensures.starts

-- the point at which it is made, from the end
abbrev at_made : (g : given.Over) (c : After-moves-2-1 g) → In-Ok g
at_made g c = c.before.before.before.before.before.before.before.before

-- what is left of the devices and of the moves is what the state left
left : (g : given.Over) (c : After-moves-2-1 g)
    → (c.decide_over-decided.result.1.paging.device.now ≡ c.paging-2-1.given.0) × (c.decide_over-decided.result.1.files.device.now ≡ c.files-2-1.given.0) × (c.decide_over-decided.result.1.moves.sink.now ≡ c.moves-2-1.given.0)
left g c =
    let last = c.decide_over-decided.result.1 in
    let names = three_names last.paging.device.ghost_name last.files.device.ghost_name last.moves.sink.ghost_name c.new.result.device.ghost_name c.new-2.result.device.ghost_name c.new-3.result.sink.ghost_name (c.decide_over-decided.ensures.loans ∙ c.in-Ok.ensures.loans) in
    let was = c.finish-paging.ensures in (
      lent c.paging-2-1.given.1 c.new.ensures.same_reference names.0 (c.finish-2.ensures.same_reference ∙ ap (λ x. x.0.device.ghost_name) was) (c.finish-2.ensures.device ∙ ap (λ x. x.0.device.now) was),
      lent c.files-2-1.given.1 c.new-2.ensures.same_reference names.1 (c.finish-3.ensures.same_reference ∙ ap (λ x. x.1.device.ghost_name) was) (c.finish-3.ensures.device ∙ ap (λ x. x.1.device.now) was),
      lent c.moves-2-1.given.1 c.new-3.ensures.same_reference names.2 (c.finish-4.ensures.same_reference ∙ ap (λ x. x.2.sink.ghost_name) was) (c.finish-4.ensures.sink ∙ ap (λ x. x.2.sink.now) was),
    )

pub returns-in-Err-clause-came : goal.returns-in-Err-clause-came
returns-in-Err-clause-came g c = λ p f later later'.
    let o = outset p f (g.M.Sink.taken c.args.moves.now) (g.M.Sink.given c.args.moves.now) (g.M.Sink.faults c.args.moves.now) in
    let err = c.in-Err.ensures.err in
    let sink = sym (lent c.moves-1.given.1 c.new-3.ensures.same_reference refl (c.finish-in-Err-2.ensures.same_reference ∙ ap (λ x. x.2.sink.ghost_name) err) (c.finish-in-Err-2.ensures.sink ∙ ap (λ x. x.2.sink.now) err ∙ c.new-3.ensures.sink)) in
    record {
      end = NotBegun o;
      finished = stopped_here o (line.Machine c.args.machine ∷ c.args.events.now) ending.NoMemory (inl refl) (omega arith);
      leaves = log_left_at o.log _ (sym (ap g.M.Sink.taken sink)) (sym (ap g.M.Sink.given sink)) (sym (ap g.M.Sink.faults sink));
    }

pub returns-in-Err-clause-faults : goal.returns-in-Err-clause-faults
returns-in-Err-clause-faults g c = λ s k.
    let err = c.in-Err.ensures.err in
    let sink = sym (lent c.moves-1.given.1 c.new-3.ensures.same_reference refl (c.finish-in-Err-2.ensures.same_reference ∙ ap (λ x. x.2.sink.ghost_name) err) (c.finish-in-Err-2.ensures.sink ∙ ap (λ x. x.2.sink.now) err ∙ c.new-3.ensures.sink)) in
    (let same = ap g.M.Sink.faults sink in omega (arith, same), refl)

-- a run starts with the state over them
pub decide_over-decided-requires-clause-starts : goal.decide_over-decided-requires-clause-starts
decide_over-decided-requires-clause-starts g c = record { outset = _; starts = starts g (goal.at.decide_over-decided-requires-clause-starts g c).In-Ok 0 0 (omega arith) (omega arith) }

pub returns-clause-came : goal.returns-clause-came
returns-clause-came g c = λ p f later later'.
    let at = (goal.at.returns-clause-came g c).After-moves-2-1 in
    let as_left = left g at in
    subst (λ x. BatchRan (NotBegun (outset p f (g.M.Sink.taken c.args.moves.now) (g.M.Sink.given c.args.moves.now) (g.M.Sink.faults c.args.moves.now))) (line.Machine c.args.machine ∷ c.args.events.now) c.decide_over-decided.result.0 x)
    (λ i. left_seen g.M.Sink g.P.BlockDevice g.F.BlockDevice (as_left.2 i) (as_left.0 i) (as_left.1 i))
    (c.decide_over-decided.ensures.came _ (starts g (at_made g at) p f later later'))

pub returns-clause-faults : goal.returns-clause-faults
returns-clause-faults g c =
    let at = (goal.at.returns-clause-faults g c).After-moves-2-1 in
    subst (λ d. AccountsMoves c.decide_over-decided.result.0 ⊥ (g.M.Sink.faults c.args.moves.now) (g.M.Sink.faults d)) (left g at).2
    (c.decide_over-decided.ensures.faults _ (starts g (at_made g at) 0 0 (omega arith) (omega arith)))
