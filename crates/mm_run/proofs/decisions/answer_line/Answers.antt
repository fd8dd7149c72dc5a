use Rattle.std.proofs.Common.{◌≡◌, ◌<◌, take, sym, refl, ap, ◌∙◌, subst, length, List, ℕ, arith}
use Rattle.mm_script.specs.{IsLine as IsLineFor}
use Rattle.std.specs.Prelude.{Ok, Err}
use Rattle.mm_run.specs.{reading_of}
use Rattle.mm_dispatch.specs.{scene}
use Rattle.mm_run.proofs.{later_reading, later_misplaced, came_bad, came_unanswered, told_went, few}
use Rattle.mm_run.proofs.decisions.answer_line.Goals as goal
use Rattle.mm_run.proofs.decisions.answer_line.Goals.{In-Ok}
use Rattle.mm_run.proofs.decisions.answer_line.Given as given

says : (g : given.Over) (c : In-Ok g) → reading_of c.args.n (take c.args.len c.args.held.now) ≡ Ok c.later_event.new.event
says g c = later_reading c.args.n (take c.args.len c.args.held.now) c.requires.some ∙ ap (λ xs. reading_of 1 (take c.args.len xs)) (sym c.bytes.ensures) ∙ c.in-Ok.ensures.reads

grammar : (g : given.Over) (c : In-Ok g) → IsLineFor (take c.args.len c.args.held.now) c.later_event.new.event
grammar g c = subst (λ (xs : List ℕ). IsLineFor (take c.args.len xs) c.later_event.new.event) c.bytes.ensures c.in-Ok.ensures.grammar

pub returns-in-Err-clause-steps : goal.returns-in-Err-clause-steps
returns-in-Err-clause-steps g c = λ input out.
    let line = c.requires.line in
    let bad : reading_of c.args.n (take c.args.len c.args.held.now) ≡ Err c.in-Err.column =
    later_reading c.args.n _ c.requires.some ∙ ap (λ xs. reading_of 1 (take c.args.len xs)) (sym c.bytes.ensures) ∙ c.in-Err.ensures.reads in
    record {
      came = came_bad _ _ _ line.line c.requires.few line.behind _ _ _ _ _ bad
          (λ e s. later_misplaced c.args.n e c.requires.some
          (c.in-Err.ensures.refused e (subst (λ (xs : List ℕ). IsLineFor (take c.args.len xs) e) (sym c.bytes.ensures) s)));
      faults = refl;
      idle = omega arith;
      form = λ q. cc;
    }

pub returns-in-Ok-decide-clause-steps : goal.returns-in-Ok-decide-clause-steps
returns-in-Ok-decide-clause-steps g c = λ input out.
    let at = (goal.at.returns-in-Ok-decide-clause-steps g c).In-Ok in
    let line = c.requires.line in
    let moved = c.in-Ok-decide.ensures.came in
    record {
      went = told_went c.args.held.now c.args.len c.args.n line.line c.requires.few line.behind _ _ _ _ _ c.later_event.new.event c.decide.new.answer moved.moves
          (says g at) (grammar g at) moved.decided c.in-Ok-decide.ensures.ready.noted c.tell.new.kept c.tell.new.held c.tell.ensures.held c.tell.ensures.kept;
      faults = c.in-Ok-decide.ensures.faults input.faults out.faults;
      idle = omega arith;
    }

pub returns-in-Ok-decide-clause-between : goal.returns-in-Ok-decide-clause-between
returns-in-Ok-decide-clause-between g c =
    let line = c.requires.line in
    record {
      few = subst (λ (xs : List ℕ). length xs < 4096) (sym c.tell.ensures.held) (few c.args.held.now c.args.len c.args.n line.line c.requires.few line.behind);
      ready = c.in-Ok-decide.ensures.ready;
    }

pub returns-in-Err-decide-clause-steps : goal.returns-in-Err-decide-clause-steps
returns-in-Err-decide-clause-steps g c = λ input out.
    let at = (goal.at.returns-in-Err-decide-clause-steps g c).In-Ok in
    let came = came_unanswered c.args.held.now c.args.len c.args.n c.requires.line c.requires.few input.left out.took c.args.kept.now (scene c.args.world.now) (scene c.decide.new.world) c.later_event.new.event c.in-Err-decide.ending (says g at) (grammar g at) c.in-Err-decide.ensures.came in
    record {
      came = came.0;
      faults = c.in-Err-decide.ensures.faults input.faults out.faults;
      idle = omega arith;
      form = came.1;
    }
