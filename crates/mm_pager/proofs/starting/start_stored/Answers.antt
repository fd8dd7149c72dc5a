use Rattle.std.proofs.Common.{sym, ◌∙◌}
use Rattle.mm_pager.proofs.{begun_full, begun_short, begun_read, thread_reads}
use Rattle.mm_pager.proofs.starting.start_stored.Goals as goal

pub returns-then-not-has_depth-clause-begun : goal.returns-then-not-has_depth-clause-begun
returns-then-not-has_depth-clause-begun g c place free = begun_full c.args.key place _ free c.requires.stored (sym c.has_depth.ensures ∙ c.if-not-has_depth.true)

pub returns-then-is_starved-clause-begun : goal.returns-then-is_starved-clause-begun
returns-then-is_starved-clause-begun g c place free = begun_short c.args.key place _ free c.requires.stored (sym c.has_depth.ensures ∙ c.if-not-has_depth.false) (sym c.is_starved.ensures ∙ c.if-is_starved.true)

pub start_read-requires : goal.start_read-requires
start_read-requires g c =
    let may = thread_reads c.args.key (g.T.StateCalls.shown c.args.state.now) (g.T.StateCalls.shown c.free_frame.new.state) (g.met.T.StateCalls.holds c.args.state.now) c.free_frame.ensures.frees c.requires.thread c.requires.stored (sym c.has_depth.ensures ∙ c.if-not-has_depth.false) c.free_frame.ensures.some in
    record { legal = may.0; room = may.1 }

pub returns-clause-begun : goal.returns-clause-begun
returns-clause-begun g c place free = begun_read c.args.key c.start_read.result place (g.T.StateCalls.shown c.args.state.now) (g.T.StateCalls.shown c.free_frame.new.state) (g.T.StateCalls.shown c.start_read.new.self) free (g.met.T.StateCalls.holds c.args.state.now) (g.met.T.StateCalls.holds c.start_read.new.self) c.requires.thread c.requires.stored (sym c.has_depth.ensures ∙ c.if-not-has_depth.false) (sym c.is_starved.ensures ∙ c.if-is_starved.false)
    c.free_frame.ensures.frees c.start_read.ensures.frame c.start_read.ensures.made c.start_read.ensures.rest c.start_read.ensures.reading
