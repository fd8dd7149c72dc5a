-- Frames that are marked with the line in which they were brought in.
-- Profile, "Logs of moves".
use Rattle.std.specs.Prelude.{◌≡◌, ℕ, ◌≤◌, Bool, ◌==◌, List, slice_index}
use Rattle.mm_move_rules.specs.{is_on}

-- the line, counted from 1, and for each frame its line, 0 for none
pub record LineMarksOf : Type 0 where
  pub line : ℕ
  pub marks : List ℕ

pub record AreEarlier (line : ℕ) (marks : List ℕ) : Type 0 where
  pub begun : 1 ≤ line
  pub earlier : (f : ℕ) → slice_index marks f ≤ line

abbrev pub has_mark : LineMarksOf → ℕ → Bool
has_mark v f = slice_index v.marks f == v.line

-- the marks of this line are those of these frames
abbrev pub AreMarked : LineMarksOf → List ℕ → Type 0
AreMarked v frames = (f : ℕ) → has_mark v f ≡ is_on f frames
