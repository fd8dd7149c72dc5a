use Rattle.std.proofs.Common.{rules, refl}
use Rattle.mm_pager.proofs.{brings_here, brings_settled, settling_fails, called_by_read}
use Rattle.mm_pager.proofs.faults.settle.Goals as goal

pub returns-then-not-end_read-clause-err : goal.returns-then-not-end_read-clause-err
returns-then-not-end_read-clause-err g c = settling_fails c.args.key c.args.f (g.T.StateCalls.shown c.args.state.now) (g.T.StateCalls.shown c.end_read.new.self) (g.met.T.StateCalls.holds c.args.state.now) c.requires.stands c.if-not-end_read.ensures.made (called_by_read (g.T.StateCalls.shown c.args.state.now) _ c.args.f.0 c.requires.own c.if-not-end_read.ensures.rest)

pub returns-else-not-end_read-clause-ok : goal.returns-else-not-end_read-clause-ok
returns-else-not-end_read-clause-ok g c = brings_settled c.args.key c.args.f (g.T.StateCalls.shown c.args.state.now) (g.T.StateCalls.shown c.end_read.new.self) (g.met.T.StateCalls.holds c.args.state.now) c.requires.stands c.if-not-end_read.ensures.made (called_by_read (g.T.StateCalls.shown c.args.state.now) _ c.args.f.0 c.requires.own c.if-not-end_read.ensures.rest) (c.if-not-end_read.ensures.quiet refl)

pub returns-else-eq-clause-ok : goal.returns-else-eq-clause-ok
returns-else-eq-clause-ok g c = brings_here c.args.key c.args.f (g.T.StateCalls.shown c.args.state.now) (record { stands = c.requires.stands; quiet = search rules })
