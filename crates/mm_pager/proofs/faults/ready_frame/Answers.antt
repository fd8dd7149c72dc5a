use Rattle.std.proofs.Common.{sym, ◌∙◌}
use Rattle.mm_pager.specs.{Cleared}
use Rattle.mm_pager.proofs.{clear_legal}
use Rattle.mm_pager.proofs.faults.ready_frame.Goals as goal

pub clear-requires : goal.clear-requires
clear-requires g c = record { legal = clear_legal (g.T.StateCalls.shown c.args.state.now) (g.T.StateCalls.shown c.free_frame.new.state) (g.met.T.StateCalls.holds c.args.state.now) c.free_frame.ensures.frees c.requires.touch (sym c.no_zeroed.ensures ∙ c.if-not-no_zeroed.false) c.free_frame.ensures.some }

pub returns-clause-readies : goal.returns-clause-readies
returns-clause-readies g c = Cleared (g.T.StateCalls.shown c.free_frame.new.state) (sym c.no_zeroed.ensures ∙ c.if-not-no_zeroed.false) c.free_frame.ensures.frees c.clear.ensures.made c.clear.ensures.rest
