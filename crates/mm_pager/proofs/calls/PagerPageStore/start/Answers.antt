use Rattle.std.proofs.Common.{rules, refl, ap, ◌∙◌}
use Rattle.mm_move_rules.specs.{is_thread}
use Rattle.mm_pager.specs.{own_of, reason_at_once, own_in, paged_state}
use Rattle.mm_pager.proofs.{started_store, started_pends, started_awaited, started_waits, started_passes, started_kept}
use Rattle.mm_pager.proofs.calls.PagerPageStore.start.Goals as goal

pub invariant_of-self : goal.invariant_of-self
invariant_of-self g c = record { kept = started_kept c.args.need c.args.key c.args.place c.start_key-began.result (paged_state c.args.self.now) (g.T.StateCalls.shown c.start_key-began.new.state) _ _ (own_in c.args.self.now) _ c.start_key-began.ensures.begun c.set_wait.ensures.rest (ap is_thread c.requires.kind) c.args.self.now.kept c.ready_for-self.ensures refl }

pub returns-clause-done : goal.returns-clause-done
returns-clause-done g c = record {
  store = started_store c.args.need c.args.key c.args.place c.start_key-began.result (paged_state c.args.self.now) (g.T.StateCalls.shown c.start_key-began.new.state) (g.T.StateCalls.shown c.set_wait.new.state) _ (own_in c.args.self.now) (own_of c.args.self.now.extended c.ready_for-self.result c.args.self.now.blocks_used)
      c.start_key-began.ensures.begun c.set_wait.ensures.rest (ap is_thread c.requires.kind) (c.args.self.now.kept.calm (ap is_thread c.requires.kind)) (g.met.T.StateCalls.holds c.args.self.now.state) (g.met.T.StateCalls.holds c.set_wait.new.state) refl refl;
  names = search rules;
  ready = search rules;
  at_once = λ e. c.start_key-began.ensures.begun.at_once (own_in c.args.self.now) ∙ ap reason_at_once e;
  pending = λ w e. started_pends c.args.need c.args.key c.args.place c.start_key-began.result w (paged_state c.args.self.now) (g.T.StateCalls.shown c.start_key-began.new.state) (g.T.StateCalls.shown c.set_wait.new.state) _ (own_in c.args.self.now) (own_of c.args.self.now.extended c.ready_for-self.result c.args.self.now.blocks_used)
      c.start_key-began.ensures.begun c.set_wait.ensures.rest (g.met.T.StateCalls.holds c.set_wait.new.state) c.requires.dead e;
  awaited = started_awaited c.args.need c.args.key c.args.place c.start_key-began.result (paged_state c.args.self.now) (g.T.StateCalls.shown c.start_key-began.new.state) (g.T.StateCalls.shown c.set_wait.new.state) _ (own_of c.args.self.now.extended c.ready_for-self.result c.args.self.now.blocks_used)
      c.start_key-began.ensures.begun c.set_wait.ensures.rest;
  wait = started_waits c.args.need c.args.key c.args.place c.start_key-began.result c.args.tid.0 (paged_state c.args.self.now) (g.T.StateCalls.shown c.start_key-began.new.state) (g.T.StateCalls.shown c.set_wait.new.state) (own_in c.args.self.now) (own_of c.args.self.now.extended c.ready_for-self.result c.args.self.now.blocks_used)
      c.start_key-began.ensures.begun c.set_wait.ensures.rest (ap is_thread c.requires.kind) (c.args.self.now.kept.calm (ap is_thread c.requires.kind));
  unpaged = search rules;
}

pub returns-clause-passes : goal.returns-clause-passes
returns-clause-passes g c writes = started_passes writes c.args.need c.args.key c.args.place c.start_key-began.result c.args.tid.0 (paged_state c.args.self.now) (g.T.StateCalls.shown c.start_key-began.new.state) (g.T.StateCalls.shown c.set_wait.new.state) (own_in c.args.self.now) (own_of c.args.self.now.extended c.ready_for-self.result c.args.self.now.blocks_used)
    (g.met.T.StateCalls.holds c.start_key-began.new.state) c.requires.dead
    c.start_key-began.ensures.begun c.set_wait.ensures.rest
