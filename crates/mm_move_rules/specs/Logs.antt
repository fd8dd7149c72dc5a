-- How the bytes of a recorder of moves grow, and are given on.
use Rattle.std.specs.Prelude.{◌≡◌, ◌⊎◌, ℕ, ◌≤◌, List, [], ◌++◌, Option, Some, None, Bool, true, false, Result, OnOk, OnErr}
use Rattle.mm_types.specs.{Rose, Appended, Move}
use Rattle.mm_move_rules.specs.Life.{FrameLife}
use Rattle.mm_move_rules.specs.Replay.{Replays}
use Rattle.mm_move_rules.specs.MoveText.{AreMoves, spelled_moves}

-- the bytes taken and those of them that were given on, where told; whether the sink has failed;
-- its count of faults
pub record Log : Type 0 where
  pub bytes : Option (List ℕ)
  pub given : Option (List ℕ)
  pub failed : Bool
  pub faults : ℕ

-- of this text a front was written, and all of it where the sink has not failed
pub record Front (before after text : List ℕ) (was_failed is_failed : Bool) : Type 0 where
  pub front : List ℕ
  pub behind : List ℕ
  pub whole : text ≡ front ++ behind
  pub written : after ≡ before ++ front
  pub all : is_failed ≡ false → behind ≡ []
  pub none : was_failed ≡ true → front ≡ []

abbrev pub LogGrew : Option (List ℕ) → Option (List ℕ) → List ℕ → Bool → Bool → Type 0
LogGrew None None text was is = Unit {0}
LogGrew None (Some b) text was is = ⊥
LogGrew (Some a) None text was is = ⊥
LogGrew (Some a) (Some b) text was is = Front a b text was is

-- the one are the first bytes of the other, where told
abbrev pub IsFrontOf : Option (List ℕ) → Option (List ℕ) → Type 0
IsFrontOf front whole = (rest : List ℕ) × Appended front whole rest

-- What was given on only grows, and stays a front of the bytes.
pub record GaveOn (old new : Log) : Type 0 where
  pub grows : IsFrontOf old.given new.given
  pub front : IsFrontOf old.given old.bytes → IsFrontOf new.given new.bytes

-- The log grew by this text: where the sink fails in it, by a front of it, and from then on by
-- nothing. It fails only where its count of faults rose, and while it has not failed the count is
-- as it was.
pub record Grew (old new : Log) (text : List ℕ) : Type 0 where
  pub later : old.faults ≤ new.faults
  pub stays : old.failed ≡ true → new.failed ≡ true
  pub cause : new.failed ≡ true → (old.failed ≡ true) ⊎ Rose old.faults new.faults
  pub same : new.failed ≡ false → new.faults ≡ old.faults
  pub told : LogGrew old.bytes new.bytes text old.failed new.failed
  pub gave : GaveOn old new

-- A flush of the log changes what was given on and the count of faults alone. Answered Ok, all
-- bytes were given on and the count is as it was; else the count rose.
pub record Flushed {T E : Type 0} (old new : Log) (result : Result T E) : Type 0 where
  pub stays : new ≡ record old { given = new.given; faults = new.faults }
  pub later : old.faults ≤ new.faults
  pub failed : OnErr result (Rose old.faults new.faults)
  pub gave : GaveOn old new
  pub all : OnOk result (new ≡ record old { given = old.bytes })

-- the log grew by a piece whose replay from the one state is the other
pub record Noted (old new : Log) (l m : FrameLife) : Type 0 where
  pub moves : List Move
  pub in_range : AreMoves moves
  pub grew : Grew old new (spelled_moves moves)
  pub replays : Replays moves l m
