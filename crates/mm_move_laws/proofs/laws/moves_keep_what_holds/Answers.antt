use Rattle.mm_move_laws.proofs.{sound_unstarted, keeps, reached_sound}
use Rattle.mm_move_laws.proofs.laws.moves_keep_what_holds.Goals as goal

pub returns : goal.returns
returns c = record {
  start = sound_unstarted;
  kept = keeps;
  reached = reached_sound;
}
