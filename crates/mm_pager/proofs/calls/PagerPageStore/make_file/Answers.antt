use Rattle.std.proofs.Common.{rules, arith}
use Rattle.mm_pager.specs.{own_in, paged_state}
use Rattle.mm_pager.proofs.{built_as, built_notes, unmade_served, unmade_notes}
use Rattle.mm_pager.proofs.calls.PagerPageStore.make_file.Goals as goal

pub returns-in-Err-clause-done : goal.returns-in-Err-clause-done
returns-in-Err-clause-done g c = record {
  made = tt;
  kept = search rules;
  ok = tt;
  err = search rules;
  memory = search rules;
  written = tt;
  others = search rules;
  wrote = record {
    served = unmade_served c.args.first.0 c.args.n c.args.byte c.in-Err.why (paged_state c.args.self.now) (g.T.StateCalls.shown c.build_file-done.new.state) (own_in c.args.self.now) c.in-Err.ensures.built;
    stored = search rules;
    quiet = tt;
    failed = search rules;
    blamed = search rules;
  };
}

pub returns-in-Err-clause-notes : goal.returns-in-Err-clause-notes
returns-in-Err-clause-notes g c = unmade_notes c.args.first.0 c.args.n c.args.byte c.in-Err.why (paged_state c.args.self.now) (g.T.StateCalls.shown c.build_file-done.new.state) c.in-Err.ensures.built

pub returns-clause-done : goal.returns-clause-done
returns-clause-done g c = built_as c.args.area.0 c.args.first.0 c.args.n c.args.byte (paged_state c.args.self.now) (g.T.StateCalls.shown c.build_file-done.new.state) c.in_default.ensures.built (own_in c.args.self.now)

pub returns-clause-notes : goal.returns-clause-notes
returns-clause-notes g c = built_notes c.args.area.0 c.args.first.0 c.args.n c.args.byte (paged_state c.args.self.now) (g.T.StateCalls.shown c.build_file-done.new.state) c.in_default.ensures.built (omega arith)
