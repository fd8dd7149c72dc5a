use Rattle.mm_frame_laws.proofs.{best_begins, best_same, best_kept, best_now, best_victim, best_none, has_process}
use Rattle.mm_frame_laws.proofs.victims.processes_are_gone_through.Goals as goal

pub returns : goal.returns
returns c = record {
  begins = best_begins;
  same = best_same;
  kept = best_kept;
  now = best_now;
  victim = best_victim;
  none = best_none;
  process = has_process;
}
