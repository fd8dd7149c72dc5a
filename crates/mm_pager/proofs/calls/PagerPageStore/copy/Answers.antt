use Rattle.std.proofs.Common.{rules, refl, sym, ap, ◌∙◌}
use Rattle.mm_pager.specs.{own_in, paged_state}
use Rattle.mm_pager.proofs.{plain_where_free, plain_where_short, never_unready, piece_served, copy_aim, aims, copy_passes, failed_passes}
use Rattle.mm_pager.proofs.{copied_store, failed_store, failed_dead, copied_ends, failed_causes_copy, failed_ends_copy, some_is, copied_kept}
use Rattle.mm_pager.proofs.{failed_kept}
use Rattle.mm_pager.proofs.calls.PagerPageStore.copy.Goals as goal

pub copy_page-done-requires-clause-needs : goal.copy_page-done-requires-clause-needs
copy_page-done-requires-clause-needs g c = record {
  access = plain_where_free c.args.place c.args.from (paged_state c.args.self.now) (own_in c.args.self.now) c.args.self.now.kept c.requires.may.kind;
  frame = plain_where_short c.args.place c.args.from (paged_state c.args.self.now) (own_in c.args.self.now) c.args.self.now.kept c.requires.may.kind;
}

pub returns-in-Err-clause-done : goal.returns-in-Err-clause-done
returns-in-Err-clause-done g c = record {
  ok = tt;
  err = failed_store _ c.args.from c.args.place (paged_state c.args.self.now) (g.T.StateCalls.shown c.copy_page-done.new.state) (own_in c.args.self.now) _ (g.met.T.StateCalls.holds c.args.self.now.state) (g.met.T.StateCalls.holds c.copy_page-done.new.state) c.in-Err.ensures.err refl refl;
  names = search rules;
  answered = record {
    served = piece_served (copy_aim c.args.from c.args.place (paged_state c.args.self.now)) _ 1 (paged_state c.args.self.now) (g.T.StateCalls.shown c.copy_page-done.new.state) (own_in c.args.self.now) _ (c.in-Err.ensures.err.stuck (copy_aim c.args.from c.args.place (paged_state c.args.self.now)) (aims c.args.from c.args.place (paged_state c.args.self.now)));
    stored = search rules;
    fault = λ b. failed_ends_copy _ c.args.from c.args.place (paged_state c.args.self.now) (g.T.StateCalls.shown c.copy_page-done.new.state) (own_in c.args.self.now) _ (g.met.T.StateCalls.holds c.copy_page-done.new.state) (failed_dead (paged_state c.args.self.now) (g.T.StateCalls.shown c.copy_page-done.new.state) c.args.place c.in-Err.ensures.err.same (ap (paged_state c.args.self.now).contents (sym c.requires.own) ∙ c.requires.dead)) c.in-Err.ensures.err.causes b;
    causes = failed_causes_copy _ c.args.from c.args.place (paged_state c.args.self.now) (g.T.StateCalls.shown c.copy_page-done.new.state) _ (g.met.T.StateCalls.holds c.copy_page-done.new.state) (failed_dead (paged_state c.args.self.now) (g.T.StateCalls.shown c.copy_page-done.new.state) c.args.place c.in-Err.ensures.err.same (ap (paged_state c.args.self.now).contents (sym c.requires.own) ∙ c.requires.dead)) c.in-Err.ensures.err.causes;
    blamed = search rules;
    was_ready = λ r. absurd (never_unready c.args.place c.args.from (paged_state c.args.self.now) (own_in c.args.self.now) c.args.self.now.kept r c.in-Err.ensures.err.unready);
    unpaged = λ u. cc;
  };
  ready = tt;
  passes = failed_passes _ c.args.from c.args.place (paged_state c.args.self.now) (g.T.StateCalls.shown c.copy_page-done.new.state) (own_in c.args.self.now) _ c.args.self.now.kept c.in-Err.ensures.err;
}

pub returns-clause-done : goal.returns-clause-done
returns-clause-done g c = record {
  ok = copied_store _ c.args.from c.args.place c.args.to (paged_state c.args.self.now) _ (own_in c.args.self.now) _ c.requires.own (g.met.T.StateCalls.holds c.args.self.now.state) (g.met.T.StateCalls.holds c.copy_page-done.new.state) (ap (paged_state c.args.self.now).contents (sym c.requires.own) ∙ c.requires.dead) c.in_default.ensures.ok.went c.in_default.ensures.ok.copied refl refl;
  err = tt;
  names = tt;
  answered = record {
    served = piece_served (copy_aim c.args.from c.args.place (paged_state c.args.self.now)) _ _ (paged_state c.args.self.now) (g.T.StateCalls.shown c.copy_page-done.new.state) (own_in c.args.self.now) _ (c.in_default.ensures.ok.went (copy_aim c.args.from c.args.place (paged_state c.args.self.now)) (aims c.args.from c.args.place (paged_state c.args.self.now)));
    stored = search rules;
    fault = λ b. copied_ends c.args.from c.args.place (paged_state c.args.self.now) (g.T.StateCalls.shown c.copy_page-done.new.state) (own_in c.args.self.now) _ (g.met.T.StateCalls.holds c.copy_page-done.new.state) c.in_default.ensures.ok.copied (some_is _ c.requires.may.at.live) b;
    causes = search rules;
    blamed = tt;
    was_ready = λ r. refl;
    unpaged = λ u. refl;
  };
  ready = search rules;
  passes = copy_passes c.args.from c.args.place _ _ (own_in c.args.self.now) _ c.args.self.now.kept c.in_default.ensures.ok.went c.in_default.ensures.ok.copied;
}

pub invariant_of-self : goal.invariant_of-self
invariant_of-self g c = record { kept = failed_kept _ c.args.from c.args.place (paged_state c.args.self.now) (g.T.StateCalls.shown c.copy_page-done.new.state) (own_in c.args.self.now) _ c.args.self.now.kept c.in-Err.ensures.err refl refl }

pub invariant_of-self-2 : goal.invariant_of-self-2
invariant_of-self-2 g c = record { kept = copied_kept _ c.args.from c.args.place (paged_state c.args.self.now) (g.T.StateCalls.shown c.copy_page-done.new.state) (own_in c.args.self.now) _ _ c.args.self.now.kept c.requires.may.kind c.in_default.ensures.ok.went c.in_default.ensures.ok.copied refl refl refl refl }
