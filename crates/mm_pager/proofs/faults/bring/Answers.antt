use Rattle.std.proofs.Common.{rules}
use Rattle.mm_pager.proofs.faults.bring.Goals as goal

pub stands-requires : goal.stands-requires
stands-requires g c = (g.met.T.StateCalls.holds c.args.state.now).home c.args.key c.requires.live

pub bring_stored-requires : goal.bring_stored-requires
bring_stored-requires g c = record { may = record { access = c.requires.access; stored = search rules; own = c.requires.own } }
