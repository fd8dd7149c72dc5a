use Rattle.mm_pager.proofs.{faulted, may_use_then}
use Rattle.mm_pager.proofs.faults.fault.Goals as goal

pub put-requires-clause-usable : goal.put-requires-clause-usable
put-requires-clause-usable g c = may_use_then c.args.key c.args.place (g.T.StateCalls.shown c.args.state.now) (g.T.StateCalls.shown c.bring.new.state) c.in_ok-f.ensures.ok.keeps.same c.requires.may.usable

pub returns-clause-ok : goal.returns-clause-ok
returns-clause-ok g c = faulted c.args.key c.in_ok-f.f c.args.place (g.T.StateCalls.shown c.args.state.now) (g.T.StateCalls.shown c.bring.new.state) (g.T.StateCalls.shown c.put.new.state) c.requires.may.usable.fits c.in_ok-f.ensures.ok c.put.ensures.went c.put.ensures.puts
