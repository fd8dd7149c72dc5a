-- The words of a line.
-- Profile, "Script".
use Rattle.std.specs.Prelude.{ℕ, ◌+◌, nat_le, ◌==◌, if◌then◌else◌, List, [], ◌∷◌, ◌++◌, length, drop}
use Rattle.mm_types.specs.{Text}

-- a word of a line: the place of its first byte, counted from 0, and its bytes
pub record Word : Type 0 where
  pub from : ℕ
  pub text : Text

-- the words from a place on, the first of which has begun with `text`: each space ends a word and
-- begins the next
abbrev pub words_from : ℕ → Text → Text → List Word
words_from from text [] = record { from = from; text = text } ∷ []
words_from from text (c ∷ cs) =
    let ended = record { from = from; text = text } ∷ words_from (from + length text + 1) [] cs in
    let longer = words_from from (text ++ c ∷ []) cs in
    if c == 0x20 then ended else longer

abbrev pub words_of : Text → List Word
words_of line = words_from 0 [] line

-- the words of a line that begin at a place or after it; there is none after the line's end
abbrev pub rest_from : ℕ → Text → List Word
rest_from at line = if nat_le at (length line) then words_from at [] (drop at line) else []

-- a line, and the words of it that are left
pub record WordsOf : Type 0 where
  pub line : Text
  pub left : List Word
