use Rattle.mm_move_laws.proofs.{one_frame, owner_lives, frame_there}
use Rattle.mm_move_laws.proofs.laws.keys_stand_once.Goals as goal

pub returns : goal.returns
returns c = record {
  in_frame = λ l s. s.owned.owner;
  of_frame = λ l s k f e. s.owned.owned f.0 k e;
  one = one_frame;
  live = owner_lives;
  there = frame_there;
}
