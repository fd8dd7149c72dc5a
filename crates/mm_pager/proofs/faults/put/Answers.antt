use Rattle.std.proofs.Common.{rules}
use Rattle.mm_pager.proofs.{went_map}
use Rattle.mm_pager.proofs.faults.put.Goals as goal

pub put_full-requires-clause-set : goal.put_full-requires-clause-set
put_full-requires-clause-set g c = record { set = search rules; full = search rules }

pub returns-else-is_full-clause-went : goal.returns-else-is_full-clause-went
returns-else-is_full-clause-went g c a p = went_map a c.args.key c.args.f c.args.place _ _ (g.met.T.StateCalls.holds c.args.state.now) c.requires.frame p c.put_below.ensures.made
