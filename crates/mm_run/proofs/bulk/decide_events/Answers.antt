use Rattle.std.proofs.Common.{◌≡◌, ◌∙◌, List, refl, sym, ap, subst, cond, inl, inr, true, false, arith}
use Rattle.std.proofs.lemmas.List.{take_all}
use Rattle.mm_types.specs.{Event}
use Rattle.mm_dispatch.specs.{scene}
use Rattle.mm_run.specs.{Running, FaultCounts, Handled, fault_counts_with}
use Rattle.mm_run.proofs.{blamed_then, first_handled, first_stopped, first_muted, handled_none, handled_on, stopped_on}
use Rattle.mm_run.proofs.bulk.decide_events.Goals as goal

pub loop-event-init : goal.loop-event-init
loop-event-init g c = record {
  handled = handled_none (Running (scene c.args.world.now));
  next = refl;
  ok_few = omega arith;
  none_few = omega arith;
  ready = record { begun = c.requires.begun; noted = sym c.if-moves_failed.ensures };
  same = refl;
  faults = refl;
}

pub loop-event-preserved : goal.loop-event-preserved
loop-event-preserved g c =
    let l = c.loop-event in
    let i = l.invariant in
    let d = c.in-Ok.ensures in
    record {
      handled = handled_on (Running (scene c.args.world.now)) (Running (scene l.world)) (Running (scene c.decide.new.world)) c.args.events.now l.event-index l.ok l.none c.one_if-ok.result c.one_if-none.result c.event-item.result c.decide.new.answer (omega arith) c.event-item.is i.handled d.came d.ready.noted
          (c.one_if-ok.ensures.value ∙ ap (λ b. cond b 1 0) c.begins_ok.ensures) (c.one_if-none.ensures.value ∙ ap (λ b. cond b 1 0) c.is_no_answer.ensures);
      next = omega (arith, i.next);
      ok_few = omega (arith, i.ok_few, c.one_if-ok.ensures.most);
      none_few = omega (arith, i.none_few, c.one_if-none.ensures.most);
      ready = d.ready;
      same = c.decide.ensures.loans ∙ i.same;
      faults = ap (λ (k : FaultCounts). k.moves) (d.faults 0 0) ∙ i.faults;
    }

-- the moves of the first event were not all written

pub returns-then-moves_failed-clause-came : goal.returns-then-moves_failed-clause-came
returns-then-moves_failed-clause-came g c = λ o made. first_muted c.args.machine o (scene c.args.world.now) made c.args.events.now (sym c.if-moves_failed.ensures)

pub returns-then-moves_failed-clause-faults : goal.returns-then-moves_failed-clause-faults
returns-then-moves_failed-clause-faults g c = λ o made fresh s k. (
  elim (made.notes.grew.cause (sym c.if-moves_failed.ensures)) [
    | inl was ↦ (let clash : true ≡ false = sym was ∙ fresh in cc)
    | inr rose ↦ rose
  ],
  refl,
)

-- an event was not decided, or not noted

pub returns-in-Err-clause-came : goal.returns-in-Err-clause-came
returns-in-Err-clause-came g c = λ o made.
    let l = c.loop-event in
    first_stopped c.args.machine o (scene c.args.world.now) made (sym c.if-moves_failed.ensures) c.args.events.now (Running (scene c.decide.new.world)) c.in-Err.ending
    (stopped_on (Running (scene c.args.world.now)) (scene l.world) (scene c.decide.new.world) c.args.events.now l.event-index l.ok l.none c.event-item.result c.in-Err.ending (omega arith) c.event-item.is l.invariant.handled c.in-Err.ensures.came)

pub returns-in-Err-clause-faults : goal.returns-in-Err-clause-faults
returns-in-Err-clause-faults g c = λ o made fresh s k.
    blamed_then c.in-Err.ending _ _ _ _ (ap (λ n. fault_counts_with s k n) (c.loop-event.invariant.faults ∙ made.notes.grew.same (sym c.if-moves_failed.ensures))) (c.in-Err.ensures.faults s k)

-- all were

pub returns-clause-came : goal.returns-clause-came
returns-clause-came g c = λ o made.
    let l = c.loop-event in
    let here = scene c.args.world.now in
    let events = c.args.events.now in
    record {
      handled = first_handled c.args.machine o here made (sym c.if-moves_failed.ensures) events (Running (scene l.world)) l.ok l.none
          (subst (λ (es : List Event). Handled (Running here) es l.ok l.none (Running (scene l.world))) (take_all l.event-index events (omega arith)) l.invariant.handled);
      lines = omega (arith, l.invariant.next);
      charge = c.charge-charge.ensures.charge;
      limit = c.charge-charge.ensures.limit;
    }

pub returns-clause-faults : goal.returns-clause-faults
returns-clause-faults g c = λ o made fresh s k. ap (λ n. fault_counts_with s k n) (c.loop-event.invariant.faults ∙ made.notes.grew.same (sym c.if-moves_failed.ensures))
