use Rattle.mm_move_laws.proofs.{modified_frame}
use Rattle.mm_frame_laws.proofs.{written, written_flight, written_found, failed}
use Rattle.mm_frame_laws.proofs.steps.written_frames_join_standby.Goals as goal

pub returns : goal.returns
returns c = record {
  once = λ l s f on. (modified_frame l s f.0 on).once;
  written = written;
  found = written_found;
  flight = written_flight;
  failed = failed;
}
