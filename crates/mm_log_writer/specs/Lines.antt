-- What a call leaves that writes into the room for a line.
use Rattle.std.specs.Prelude.{◌≡◌, ℕ, ◌+◌, ◌≤◌, ◌++◌, take}
use Rattle.mm_types.specs.{Text}

-- from an index on a text is spelled that may stand in front of any other, at most so long
pub record Puts (old : Text) (at : ℕ) (new : Text) (end most : ℕ) (onto : Text → Text)
    : Type 0 where
  pub text : (behind : Text) → take end new ++ behind ≡ take at old ++ onto behind
  pub few : end ≤ at + most
