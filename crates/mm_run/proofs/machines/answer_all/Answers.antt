use Rattle.std.proofs.Common.{◌≡◌, ◌<◌, ◌∙◌, [], ◌∷◌, sym, refl, ap, inl, inr, arith, true, false}
use Rattle.mm_types.specs.declared.answers.Answer.TheVariants as answer
use Rattle.mm_types.specs.declared.events.Event.TheVariants as line
use Rattle.mm_types.specs.{limit_of}
use Rattle.mm_line_moves.specs.{first_move}
use Rattle.mm_dispatch.specs.{scene}
use Rattle.mm_run.specs.{NotBegun, Running, fault_counts_with}
use Rattle.mm_run.proofs.{first_answered, told_went, told_muted, blamed_then, went_came}
use Rattle.mm_run.proofs.machines.answer_all.Goals as goal

pub returns-then-moves_failed-clause-came : goal.returns-then-moves_failed-clause-came
returns-then-moves_failed-clause-came g c = λ o made.
    let small : 0 < 1000000 = omega arith in
    let here = scene c.args.world.now in
    told_muted c.args.held.now c.args.len 0 c.requires.line.line small c.requires.line.behind _ _ c.args.kept.now (NotBegun o) (Running here) (line.Machine c.args.machine) (answer.Limit (limit_of c.args.machine)) (first_move c.args.machine ∷ [])
    c.requires.line.says c.requires.line.grammar (first_answered c.args.machine o here made (limit_of c.args.machine) refl) (sym c.if-moves_failed.ensures)

pub returns-then-moves_failed-clause-faults : goal.returns-then-moves_failed-clause-faults
returns-then-moves_failed-clause-faults g c = λ o made fresh. (
  elim (made.notes.grew.cause (sym c.if-moves_failed.ensures)) [
    | inl was ↦ (let clash : true ≡ false = sym was ∙ fresh in cc)
    | inr rose ↦ rose
  ],
  refl,
)

pub returns-clause-came : goal.returns-clause-came
returns-clause-came g c = λ o made.
    let small : 0 < 1000000 = omega arith in
    let here = scene c.args.world.now in
    went_came _ _ _ _ _ (Running (scene c.decide_rest.new.world)) c.decide_rest.result
    (told_went c.args.held.now c.args.len 0 c.requires.line.line small c.requires.line.behind _ _ c.args.kept.now (NotBegun o) (Running here) (line.Machine c.args.machine) (answer.Limit c.limit.result) (first_move c.args.machine ∷ [])
    c.requires.line.says c.requires.line.grammar (first_answered c.args.machine o here made c.limit.result c.limit.ensures) (sym c.if-moves_failed.ensures) c.tell.new.kept c.tell.new.held c.tell.ensures.held c.tell.ensures.kept)
    c.decide_rest.ensures.ends.came

pub returns-clause-faults : goal.returns-clause-faults
returns-clause-faults g c = λ o made fresh.
    blamed_then c.decide_rest.result _ _ _ _ (ap (λ k. fault_counts_with (g.S.Source.faults c.args.source.now) (g.O.Sink.faults c.args.out.now) k) (made.notes.grew.same (sym c.if-moves_failed.ensures))) c.decide_rest.ensures.ends.faults
