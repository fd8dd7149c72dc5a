use Rattle.mm_move_laws.proofs.{got_settles, bad_settles, wrote_settles, lost_settles}
use Rattle.mm_move_laws.proofs.ends.ended_requests_settle_one_frame.Goals as goal

pub returns : goal.returns
returns c = record {
  got = got_settles;
  bad = bad_settles;
  wrote = wrote_settles;
  lost = lost_settles;
}
