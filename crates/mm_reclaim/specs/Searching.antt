-- One turn of a search: a place is unmapped, and its frame written where it can be.
-- Profile, "Which frame moves, and when".
use Rattle.std.specs.Prelude.{◌≡◌, Bool, true, false}
use Rattle.mm_types.specs.{Frame, Place}
use Rattle.mm_types.specs.declared.moves.Move.TheVariants as move
use Rattle.mm_move_rules.specs.{is_on, is_short}
use Rattle.mm_state_calls.specs.{StateOf, Made, moved}
use Rattle.mm_reclaim.specs.Seeking.{Tried}

-- after the unmap the lists have a frame, or the place's own frame is not modified, or it is and is
-- tried
pub data AfterUnmap (f : Frame) (found : Bool) (m z : StateOf) : Type 0 where
  Freed : is_short m.life ≡ false → found ≡ true → z ≡ m → AfterUnmap f found m z
  Unchanged : is_short m.life ≡ true → is_on f.0 m.life.frames.modified ≡ false → found ≡ false →
      z ≡ m → AfterUnmap f found m z
  Changed : is_short m.life ≡ true → is_on f.0 m.life.frames.modified ≡ true → Tried f found m z →
      AfterUnmap f found m z

pub record TookVictim (place : Place) (f : Frame) (found : Bool) (s z : StateOf) : Type 0 where
  pub mid : StateOf
  pub unmaps : Made (move.Unmap place) s mid
  pub rest : mid ≡ moved s mid
  pub after : AfterUnmap f found mid z
