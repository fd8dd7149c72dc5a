use Rattle.mm_reclaim.proofs.{write_fault, tries_same}
use Rattle.mm_reclaim.proofs.seeking.write_frame.Goals as goal

pub returns-clause-tries : goal.returns-clause-tries
returns-clause-tries g c =
    let s = g.T.StateCalls.shown c.args.state.now in
    let mid = g.T.StateCalls.shown c.start_write-to.new.self in
    let z = g.T.StateCalls.shown c.end_write.new.self in
    record {
      home = c.start_write-to.result;
      mid = mid;
      begins = c.start_write-to.ensures.made;
      ends = c.end_write.ensures.made;
      same = tries_same c.args.f s mid z c.requires.begun c.start_write-to.ensures.rest c.end_write.ensures.rest;
      fault = write_fault c.args.f c.start_write-to.result c.end_write.result s mid z (g.met.T.StateCalls.holds c.args.state.now) c.requires.writable.modified c.start_write-to.ensures.made c.end_write.ensures.made;
    }
