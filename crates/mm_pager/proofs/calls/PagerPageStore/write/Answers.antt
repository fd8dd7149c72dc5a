use Rattle.std.proofs.Common.{rules, inl, inr, refl, ap, sym, ◌∙◌, subst, length, true, Option}
use Rattle.mm_types.specs.{Key, Place}
use Rattle.mm_state_calls.specs.{StateOf}
use Rattle.mm_store.specs.{Served, StoreOf}
use Rattle.mm_store.proofs.{served_nothing}
use Rattle.mm_pager.specs.{store, own_in, paged_state}
use Rattle.mm_pager.proofs.{brought_soiled, brought_written, wrote_eases, wrote_passes, wrote_ends, written_in, soils_names, named_here, wrote_named, went_passes}
use Rattle.mm_pager.proofs.{stuck_passes, of_wrote, of_stuck, served_in, ok_store, err_store, ok_served, stored_same, kept_in, some_is, not_here}
use Rattle.mm_pager.proofs.{faulted_ends, named_then, faulted_kept}
use Rattle.mm_pager.proofs.calls.PagerPageStore.write.Goals as goal

pub returns-in-Some-clause-written : goal.returns-in-Some-clause-written
returns-in-Some-clause-written g c = written_in c.args.key c.in-Some.f c.args.off c.args.bytes.now _ _ _ _ _ c.set_dirty.ensures.soils c.write.ensures.rest
    (c.write.ensures.bytes c.args.key (ap (λ (n : Place → Option Key). n c.args.place) (soils_names c.in-Some.f _ _ c.set_dirty.ensures.soils) ∙ named_here c.args.key c.in-Some.f c.args.place _ (g.met.T.StateCalls.holds c.args.self.now.state) (sym c.valid.ensures ∙ c.in-Some.is) c.requires.may.at.named))

pub returns-in-Some-clause-done : goal.returns-in-Some-clause-done
returns-in-Some-clause-done g c = record {
  ok = let valid = sym c.valid.ensures ∙ c.in-Some.is in
      wrote_named c.args.key c.args.place (store c.args.self.now) _ (wrote_eases c.in-Some.f _ _ _ (own_in c.args.self.now) _ _ c.set_dirty.ensures.soils ((g.met.T.StateCalls.holds c.args.self.now.state).unread c.args.place c.in-Some.f valid) c.write.ensures.rest)
      (named_here c.args.key c.in-Some.f c.args.place (paged_state c.args.self.now) (g.met.T.StateCalls.holds c.args.self.now.state) valid c.requires.may.at.named);
  err = tt;
  answered = record {
    served = let eases = wrote_eases c.in-Some.f _ _ _ (own_in c.args.self.now) _ _ c.set_dirty.ensures.soils ((g.met.T.StateCalls.holds c.args.self.now.state).unread c.args.place c.in-Some.f (sym c.valid.ensures ∙ c.in-Some.is)) c.write.ensures.rest in
        subst (λ (x : StoreOf). Served (store c.args.self.now) x) (sym eases) (served_nothing (store c.args.self.now) _ refl refl refl refl refl refl);
    stored = search rules;
    fault = λ b. wrote_ends c.args.key c.in-Some.f c.args.place _ _ _ (own_in c.args.self.now) _ _ (g.met.T.StateCalls.holds c.args.self.now.state) (sym c.valid.ensures ∙ c.in-Some.is) c.requires.may.at.named c.set_dirty.ensures.soils c.write.ensures.rest b;
    causes = search rules;
    blamed = tt;
    was_ready = λ r. refl;
    unpaged = λ u. refl;
  };
  eased = λ r. ap (λ (x : StoreOf). x.report) (wrote_eases c.in-Some.f _ _ _ (own_in c.args.self.now) _ _ c.set_dirty.ensures.soils ((g.met.T.StateCalls.holds c.args.self.now.state).unread c.args.place c.in-Some.f (sym c.valid.ensures ∙ c.in-Some.is)) c.write.ensures.rest);
  passes = wrote_passes c.args.key c.in-Some.f c.args.place _ _ _ (own_in c.args.self.now) _ (sym c.valid.ensures ∙ c.in-Some.is)
      ((g.met.T.StateCalls.holds c.args.self.now.state).named c.args.place c.in-Some.f (sym c.valid.ensures ∙ c.in-Some.is) ∙ named_here c.args.key c.in-Some.f c.args.place (paged_state c.args.self.now) (g.met.T.StateCalls.holds c.args.self.now.state) (sym c.valid.ensures ∙ c.in-Some.is) c.requires.may.at.named)
      c.set_dirty.ensures.soils c.set_dirty.ensures.soiled c.write.ensures.rest;
}

-- the page is brought

pub returns-in_default-clause-done : goal.returns-in_default-clause-done
returns-in_default-clause-done g c = record {
  ok = ok_store true c.args.key c.args.place (paged_state c.args.self.now) (g.T.StateCalls.shown c.fault_to_write-done.new.state) (own_in c.args.self.now) _ (of_wrote c.args.key c.args.place (paged_state c.args.self.now) (g.T.StateCalls.shown c.fault_to_write-done.new.state) (sym c.valid.ensures ∙ c.in-None.is) c.in_default.ensures.ok.went c.in_default.ensures.ok.same) _ _ (g.met.T.StateCalls.holds c.args.self.now.state) (g.met.T.StateCalls.holds c.fault_to_write-done.new.state) c.in_default.ensures.ok.names c.write-in-None.ensures.rest refl refl;
  err = tt;
  answered = record {
    served = ok_served true c.args.key c.args.place (paged_state c.args.self.now) (g.T.StateCalls.shown c.fault_to_write-done.new.state) (own_in c.args.self.now) _ (of_wrote c.args.key c.args.place (paged_state c.args.self.now) (g.T.StateCalls.shown c.fault_to_write-done.new.state) (sym c.valid.ensures ∙ c.in-None.is) c.in_default.ensures.ok.went c.in_default.ensures.ok.same) _ _ c.write-in-None.ensures.rest;
    stored = ap (λ (s : StateOf). length s.blocks) c.write-in-None.ensures.rest ∙ stored_same (paged_state c.args.self.now) (g.T.StateCalls.shown c.fault_to_write-done.new.state) (kept_in true c.args.key c.args.place (paged_state c.args.self.now) (g.T.StateCalls.shown c.fault_to_write-done.new.state) (own_in c.args.self.now) (own_in c.args.self.now) (of_wrote c.args.key c.args.place (paged_state c.args.self.now) (g.T.StateCalls.shown c.fault_to_write-done.new.state) (sym c.valid.ensures ∙ c.in-None.is) c.in_default.ensures.ok.went c.in_default.ensures.ok.same)) (g.met.T.StateCalls.holds c.args.self.now.state) (g.met.T.StateCalls.holds c.fault_to_write-done.new.state);
    fault = λ b. faulted_ends c.args.key (paged_state c.args.self.now) (g.T.StateCalls.shown c.fault_to_write-done.new.state) _ (own_in c.args.self.now) _ _ _ c.write-in-None.ensures.rest c.in_default.ensures.ok.calm.read c.in_default.ensures.ok.framed b;
    causes = search rules;
    blamed = tt;
    was_ready = λ r. refl;
    unpaged = λ u. refl;
  };
  eased = λ r. absurd (not_here _ (sym c.valid.ensures ∙ c.in-None.is) (c.args.self.now.kept.ready _ r));
  passes = went_passes true c.args.key c.args.place (paged_state c.args.self.now) (g.T.StateCalls.shown c.fault_to_write-done.new.state) _ (own_in c.args.self.now) _ _ _ (sym c.valid.ensures ∙ c.in-None.is) (λ r. c.args.self.now.kept.ready _ r) (of_wrote c.args.key c.args.place (paged_state c.args.self.now) (g.T.StateCalls.shown c.fault_to_write-done.new.state) (sym c.valid.ensures ∙ c.in-None.is) c.in_default.ensures.ok.went c.in_default.ensures.ok.same) (some_is _ c.in_default.ensures.ok.valid)
      (brought_soiled c.args.key c.args.place (paged_state c.args.self.now) (g.T.StateCalls.shown c.fault_to_write-done.new.state) (g.met.T.StateCalls.holds c.fault_to_write-done.new.state) c.in_default.ensures.ok.names c.in_default.ensures.ok.soiled) c.write-in-None.ensures.rest;
}

pub returns-in_default-clause-written : goal.returns-in_default-clause-written
returns-in_default-clause-written g c = brought_written c.args.key c.args.off c.args.bytes.now (paged_state c.args.self.now) (g.T.StateCalls.shown c.fault_to_write-done.new.state) _ _ _ c.in_default.ensures.ok.same c.write-in-None.ensures.rest (c.write-in-None.ensures.bytes c.args.key (named_then c.args.key c.args.place _ _ c.in_default.ensures.ok.names))

pub returns-in-Err-clause-done : goal.returns-in-Err-clause-done
returns-in-Err-clause-done g c = record {
  ok = tt;
  err = err_store true c.args.key c.args.place (paged_state c.args.self.now) (g.T.StateCalls.shown c.fault_to_write-done.new.state) (own_in c.args.self.now) _ (of_stuck true c.in-Err.why c.args.key c.args.place (paged_state c.args.self.now) (g.T.StateCalls.shown c.fault_to_write-done.new.state) (sym c.valid.ensures ∙ c.in-None.is) c.in-Err.ensures.err) (g.met.T.StateCalls.holds c.args.self.now.state) (g.met.T.StateCalls.holds c.fault_to_write-done.new.state) (ap (λ (x : StateOf). x.names) c.in-Err.ensures.err.fails.same) refl refl;
  answered = record {
    served = served_in true c.args.key c.args.place (paged_state c.args.self.now) (g.T.StateCalls.shown c.fault_to_write-done.new.state) (own_in c.args.self.now) _ (of_stuck true c.in-Err.why c.args.key c.args.place (paged_state c.args.self.now) (g.T.StateCalls.shown c.fault_to_write-done.new.state) (sym c.valid.ensures ∙ c.in-None.is) c.in-Err.ensures.err);
    stored = stored_same (paged_state c.args.self.now) (g.T.StateCalls.shown c.fault_to_write-done.new.state) (kept_in true c.args.key c.args.place (paged_state c.args.self.now) (g.T.StateCalls.shown c.fault_to_write-done.new.state) (own_in c.args.self.now) (own_in c.args.self.now) (of_stuck true c.in-Err.why c.args.key c.args.place (paged_state c.args.self.now) (g.T.StateCalls.shown c.fault_to_write-done.new.state) (sym c.valid.ensures ∙ c.in-None.is) c.in-Err.ensures.err)) (g.met.T.StateCalls.holds c.args.self.now.state) (g.met.T.StateCalls.holds c.fault_to_write-done.new.state);
    fault = search rules;
    causes = search rules;
    blamed = search rules;
    was_ready = λ r. absurd (not_here _ (sym c.valid.ensures ∙ c.in-None.is) (c.args.self.now.kept.ready _ r));
    unpaged = λ u. cc;
  };
  eased = λ r. absurd (not_here _ (sym c.valid.ensures ∙ c.in-None.is) (c.args.self.now.kept.ready _ r));
  passes = stuck_passes true c.in-Err.why c.args.key c.args.place (paged_state c.args.self.now) (g.T.StateCalls.shown c.fault_to_write-done.new.state) (own_in c.args.self.now) _ _ (sym c.valid.ensures ∙ c.in-None.is) (λ r. c.args.self.now.kept.ready _ r) c.in-Err.ensures.err;
}

pub invariant_of-self-in-Err-1 : goal.invariant_of-self-in-Err-1
invariant_of-self-in-Err-1 g c = record { kept = faulted_kept true c.args.key c.args.place (paged_state c.args.self.now) (g.T.StateCalls.shown c.fault_to_write-done.new.state) (own_in c.args.self.now) _ (of_stuck true c.in-Err.why c.args.key c.args.place (paged_state c.args.self.now) (g.T.StateCalls.shown c.fault_to_write-done.new.state) (sym c.valid.ensures ∙ c.in-None.is) c.in-Err.ensures.err) (g.T.StateCalls.shown c.fault_to_write-done.new.state) c.args.self.now.kept refl refl refl refl refl refl }

pub invariant_of-self-in-None : goal.invariant_of-self-in-None
invariant_of-self-in-None g c = record { kept = faulted_kept true c.args.key c.args.place (paged_state c.args.self.now) (g.T.StateCalls.shown c.fault_to_write-done.new.state) (own_in c.args.self.now) _ (of_wrote c.args.key c.args.place (paged_state c.args.self.now) (g.T.StateCalls.shown c.fault_to_write-done.new.state) (sym c.valid.ensures ∙ c.in-None.is) c.in_default.ensures.ok.went c.in_default.ensures.ok.same) _ c.args.self.now.kept (ap (λ (s : StateOf). s.life) c.write-in-None.ensures.rest) (ap (λ (s : StateOf). s.own) c.write-in-None.ensures.rest) (ap (λ (s : StateOf). s.aside) c.write-in-None.ensures.rest) (ap (λ (s : StateOf). s.told) c.write-in-None.ensures.rest) refl refl }

pub fault_to_write-done-requires : goal.fault_to_write-done-requires
fault_to_write-done-requires g c = record {
  may = record {
    access = elim c.requires.may.kind [
      | inl e ↦ e
      | inr h ↦ absurd (not_here _ (sym c.valid.ensures ∙ c.in-None.is) (c.args.self.now.kept.ready _ h.1))
    ];
    live = search rules;
    usable = record { bound = search rules; fits = search rules; alone = search rules; aside = search rules };
    free = (sym c.valid.ensures ∙ c.in-None.is);
    own = search rules;
  };
}
