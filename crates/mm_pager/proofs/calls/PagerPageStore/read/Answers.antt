use Rattle.std.proofs.Common.{rules, ◌≡◌, inl, inr, refl, ap, sym, ◌∙◌, subst, length, false}
use Rattle.std.specs.Prelude.{is_some}
use Rattle.mm_state_calls.specs.{StateOf}
use Rattle.mm_store.specs.{Served, StoreOf, eased}
use Rattle.mm_store.proofs.{served_nothing}
use Rattle.mm_pager.specs.{store_of, store, own_in, paged_state}
use Rattle.mm_pager.proofs.{valid_ends, valid_passes, went_passes, stuck_passes, named_here, read_named, of_went, of_stuck, served_in, ok_store}
use Rattle.mm_pager.proofs.{err_store, ok_served, stored_same, kept_in, not_here, faulted_kept}
use Rattle.mm_pager.proofs.calls.PagerPageStore.read.Goals as goal

pub returns-in-Some-clause-done : goal.returns-in-Some-clause-done
returns-in-Some-clause-done g c = record {
  ok = read_named c.args.key c.args.place (store c.args.self.now) _ (ap (λ (x : StateOf). store_of x (own_in c.args.self.now)) c.read.ensures.rest)
      (named_here c.args.key c.in-Some._frame c.args.place (paged_state c.args.self.now) (g.met.T.StateCalls.holds c.args.self.now.state) (sym c.valid.ensures ∙ c.in-Some.is) c.requires.may.at.named);
  err = tt;
  answered = record {
    served = subst (λ (x : StoreOf). Served (store c.args.self.now) x) (sym (ap (λ (x : StateOf). store_of x (own_in c.args.self.now)) c.read.ensures.rest)) (served_nothing (store c.args.self.now) (store c.args.self.now) refl refl refl refl refl refl);
    stored = ap (λ (x : StateOf). length x.blocks) c.read.ensures.rest;
    fault = λ b. valid_ends c.args.key c.args.place _ _ (own_in c.args.self.now) (g.met.T.StateCalls.holds c.args.self.now.state) (ap is_some (sym c.valid.ensures ∙ c.in-Some.is)) c.requires.may.at.named c.read.ensures.rest b;
    causes = search rules;
    blamed = tt;
    was_ready = λ r. refl;
    unpaged = λ u. refl;
  };
  eased = λ r. subst (λ (x : StoreOf). x.report ≡ eased (store c.args.self.now).report x.report) (sym (ap (λ (x : StateOf). store_of x (own_in c.args.self.now)) c.read.ensures.rest)) refl;
  passes = valid_passes false c.args.key c.args.place (paged_state c.args.self.now) _ (own_in c.args.self.now) _ (ap is_some (sym c.valid.ensures ∙ c.in-Some.is)) (λ w. cc) c.read.ensures.rest;
}

-- the page is brought

pub returns-in_default-clause-done : goal.returns-in_default-clause-done
returns-in_default-clause-done g c = record {
  ok = ok_store false c.args.key c.args.place (paged_state c.args.self.now) (g.T.StateCalls.shown c.fault-done.new.state) (own_in c.args.self.now) _ (of_went false c.args.key c.args.place (paged_state c.args.self.now) (g.T.StateCalls.shown c.fault-done.new.state) (sym c.valid.ensures ∙ c.in-None.is) (λ a p q b. c.in_default.ensures.ok.went a p b) c.in_default.ensures.ok.placed.same) _ _ (g.met.T.StateCalls.holds c.args.self.now.state) (g.met.T.StateCalls.holds c.fault-done.new.state) c.in_default.ensures.ok.placed.names c.read-in-None.ensures.rest refl refl;
  err = tt;
  answered = record {
    served = ok_served false c.args.key c.args.place (paged_state c.args.self.now) (g.T.StateCalls.shown c.fault-done.new.state) (own_in c.args.self.now) _ (of_went false c.args.key c.args.place (paged_state c.args.self.now) (g.T.StateCalls.shown c.fault-done.new.state) (sym c.valid.ensures ∙ c.in-None.is) (λ a p q b. c.in_default.ensures.ok.went a p b) c.in_default.ensures.ok.placed.same) _ _ c.read-in-None.ensures.rest;
    stored = ap (λ (s : StateOf). length s.blocks) c.read-in-None.ensures.rest ∙ stored_same (paged_state c.args.self.now) (g.T.StateCalls.shown c.fault-done.new.state) (kept_in false c.args.key c.args.place (paged_state c.args.self.now) (g.T.StateCalls.shown c.fault-done.new.state) (own_in c.args.self.now) (own_in c.args.self.now) (of_went false c.args.key c.args.place (paged_state c.args.self.now) (g.T.StateCalls.shown c.fault-done.new.state) (sym c.valid.ensures ∙ c.in-None.is) (λ a p q b. c.in_default.ensures.ok.went a p b) c.in_default.ensures.ok.placed.same)) (g.met.T.StateCalls.holds c.args.self.now.state) (g.met.T.StateCalls.holds c.fault-done.new.state);
    fault = search rules;
    causes = search rules;
    blamed = tt;
    was_ready = λ r. refl;
    unpaged = λ u. refl;
  };
  eased = λ r. absurd (not_here _ (sym c.valid.ensures ∙ c.in-None.is) (c.args.self.now.kept.ready _ r));
  passes = went_passes false c.args.key c.args.place (paged_state c.args.self.now) (g.T.StateCalls.shown c.fault-done.new.state) _ (own_in c.args.self.now) _ _ _ (sym c.valid.ensures ∙ c.in-None.is) (λ r. c.args.self.now.kept.ready _ r) (of_went false c.args.key c.args.place (paged_state c.args.self.now) (g.T.StateCalls.shown c.fault-done.new.state) (sym c.valid.ensures ∙ c.in-None.is) (λ a p q b. c.in_default.ensures.ok.went a p b) c.in_default.ensures.ok.placed.same) (ap is_some c.in_default.ensures.ok.placed.valid) (λ w. cc) c.read-in-None.ensures.rest;
}

pub returns-in-Err-clause-done : goal.returns-in-Err-clause-done
returns-in-Err-clause-done g c = record {
  ok = tt;
  err = err_store false c.args.key c.args.place (paged_state c.args.self.now) (g.T.StateCalls.shown c.fault-done.new.state) (own_in c.args.self.now) _ (of_stuck false c.in-Err.why c.args.key c.args.place (paged_state c.args.self.now) (g.T.StateCalls.shown c.fault-done.new.state) (sym c.valid.ensures ∙ c.in-None.is) c.in-Err.ensures.err) (g.met.T.StateCalls.holds c.args.self.now.state) (g.met.T.StateCalls.holds c.fault-done.new.state) (ap (λ (x : StateOf). x.names) c.in-Err.ensures.err.fails.same) refl refl;
  answered = record {
    served = served_in false c.args.key c.args.place (paged_state c.args.self.now) (g.T.StateCalls.shown c.fault-done.new.state) (own_in c.args.self.now) _ (of_stuck false c.in-Err.why c.args.key c.args.place (paged_state c.args.self.now) (g.T.StateCalls.shown c.fault-done.new.state) (sym c.valid.ensures ∙ c.in-None.is) c.in-Err.ensures.err);
    stored = stored_same (paged_state c.args.self.now) (g.T.StateCalls.shown c.fault-done.new.state) (kept_in false c.args.key c.args.place (paged_state c.args.self.now) (g.T.StateCalls.shown c.fault-done.new.state) (own_in c.args.self.now) (own_in c.args.self.now) (of_stuck false c.in-Err.why c.args.key c.args.place (paged_state c.args.self.now) (g.T.StateCalls.shown c.fault-done.new.state) (sym c.valid.ensures ∙ c.in-None.is) c.in-Err.ensures.err)) (g.met.T.StateCalls.holds c.args.self.now.state) (g.met.T.StateCalls.holds c.fault-done.new.state);
    fault = search rules;
    causes = search rules;
    blamed = search rules;
    was_ready = λ r. absurd (not_here _ (sym c.valid.ensures ∙ c.in-None.is) (c.args.self.now.kept.ready _ r));
    unpaged = λ u. cc;
  };
  eased = λ r. absurd (not_here _ (sym c.valid.ensures ∙ c.in-None.is) (c.args.self.now.kept.ready _ r));
  passes = stuck_passes false c.in-Err.why c.args.key c.args.place (paged_state c.args.self.now) (g.T.StateCalls.shown c.fault-done.new.state) (own_in c.args.self.now) _ _ (sym c.valid.ensures ∙ c.in-None.is) (λ r. c.args.self.now.kept.ready _ r) c.in-Err.ensures.err;
}

pub invariant_of-self-in-Err-1 : goal.invariant_of-self-in-Err-1
invariant_of-self-in-Err-1 g c = record { kept = faulted_kept false c.args.key c.args.place (paged_state c.args.self.now) (g.T.StateCalls.shown c.fault-done.new.state) (own_in c.args.self.now) _ (of_stuck false c.in-Err.why c.args.key c.args.place (paged_state c.args.self.now) (g.T.StateCalls.shown c.fault-done.new.state) (sym c.valid.ensures ∙ c.in-None.is) c.in-Err.ensures.err) (g.T.StateCalls.shown c.fault-done.new.state) c.args.self.now.kept refl refl refl refl refl refl }

pub invariant_of-self-in-None : goal.invariant_of-self-in-None
invariant_of-self-in-None g c = record { kept = faulted_kept false c.args.key c.args.place (paged_state c.args.self.now) (g.T.StateCalls.shown c.fault-done.new.state) (own_in c.args.self.now) _ (of_went false c.args.key c.args.place (paged_state c.args.self.now) (g.T.StateCalls.shown c.fault-done.new.state) (sym c.valid.ensures ∙ c.in-None.is) (λ a p q b. c.in_default.ensures.ok.went a p b) c.in_default.ensures.ok.placed.same) _ c.args.self.now.kept (ap (λ (s : StateOf). s.life) c.read-in-None.ensures.rest) (ap (λ (s : StateOf). s.own) c.read-in-None.ensures.rest) (ap (λ (s : StateOf). s.aside) c.read-in-None.ensures.rest) (ap (λ (s : StateOf). s.told) c.read-in-None.ensures.rest) refl refl }

pub fault-done-requires : goal.fault-done-requires
fault-done-requires g c = record {
  may = record {
    access = elim c.requires.may.kind [
      | inl e ↦ e
      | inr h ↦ absurd (not_here _ (sym c.valid.ensures ∙ c.in-None.is) (c.args.self.now.kept.ready _ h.1))
    ];
    live = search rules;
    usable = record { bound = search rules; fits = search rules; alone = search rules; aside = search rules };
    free = (sym c.valid.ensures ∙ c.in-None.is);
    own = search rules;
  };
}
