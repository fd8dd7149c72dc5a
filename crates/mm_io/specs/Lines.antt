-- The lines of a text.
-- Profile, "Script".
use Rattle.std.specs.Prelude.{◌≢◌, ℕ, ◌≤◌, List, [], ◌∷◌, ◌++◌, length}
use Rattle.std.specs.List.{flat_map, AllByRecursion}

abbrev pub NoFeed : List ℕ → Type 0
NoFeed bytes = AllByRecursion (λ b. b ≢ 10) bytes

-- What a line may be: no line feed, and 256 bytes at most.
pub record FitsLine (line : List ℕ) : Type 0 where
  pub no_feed : NoFeed line
  pub short : length line ≤ 256

-- the bytes of a line
abbrev pub with_line_feed : List ℕ → List ℕ
with_line_feed line = line ++ 10 ∷ []

-- the text of some lines
abbrev pub text_of_lines : List (List ℕ) → List ℕ
text_of_lines lines = flat_map with_line_feed lines
