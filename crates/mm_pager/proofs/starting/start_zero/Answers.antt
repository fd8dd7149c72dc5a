use Rattle.std.proofs.Common.{sym, ◌∙◌}
use Rattle.mm_pager.proofs.{begun_starved, begun_given, may_use_then}
use Rattle.mm_pager.proofs.starting.start_zero.Goals as goal

pub returns-then-is_starved-clause-begun : goal.returns-then-is_starved-clause-begun
returns-then-is_starved-clause-begun g c = begun_starved c.args.key c.args.place _ c.requires.free c.requires.zero (sym c.is_starved.ensures ∙ c.if-is_starved.true)

pub returns-clause-begun : goal.returns-clause-begun
returns-clause-begun g c = begun_given c.args.key c.assign-f.result c.args.place _ _ _ c.requires.free c.requires.zero c.assign-f.ensures.gave c.put.ensures.went c.requires.usable.fits c.put.ensures.puts

pub put-requires-clause-usable : goal.put-requires-clause-usable
put-requires-clause-usable g c = may_use_then c.args.key c.args.place (g.T.StateCalls.shown c.args.state.now) (g.T.StateCalls.shown c.assign-f.new.state) c.assign-f.ensures.gave.keeps.same c.requires.usable
