-- A number that is a whole word, by its place: a tool of proof.
use Rattle.std.specs.Prelude.{◌≡◌, ◌⊎◌, ℕ, ◌+◌, ◌≤◌, ◌<◌, ◌==◌, Bool, true, false, if◌then◌else◌}
use Rattle.std.specs.Prelude.{[], ◌∷◌, length, drop, slice_range, Some}
use Rattle.std.proofs.Common.{get_or}
use Rattle.mm_types.specs.{Text}
use Rattle.mm_text.specs.Field.{are_digits, digits_in, limited, number_of}
use Rattle.mm_text.specs.Word.{WordsOf, words_from, rest_from}

-- a word that reaches up to here ends here
abbrev pub EndsWord : Text → ℕ → Type 0
EndsWord line at = (length line ≤ at) ⊎ ((at < length line) × (get_or line at 0 ≡ 0x20))

pub record BeginsHex (line : Text) (at : ℕ) : Type 0 where
  pub two : at + 2 ≤ length line
  pub zero : get_or line at 0 ≡ 0x30
  pub x : get_or line (at + 1) 0 ≡ 0x78

-- from `start` up to `to` stand digits of this value, and there the word ends
pub record IsRun (base most : ℕ) (line : Text) (start to value : ℕ) : Type 0 where
  pub order : start ≤ to
  pub within : to ≤ length line
  pub digits : are_digits base (slice_range line start to) ≡ true
  pub reads : limited (digits_in base most (slice_range line start to)) ≡ Some value
  pub word : (from : ℕ) → from ≤ start
      → words_from from (slice_range line from start) (drop start line)
      ≡ record { from = from; text = slice_range line from to } ∷ rest_from (to + 1) line

-- the word that begins at `from` ends at `to`, and is this number
pub record IsNumberAt (line : Text) (from to value : ℕ) : Type 0 where
  pub order : from ≤ to
  pub within : to ≤ length line
  pub word : words_from from [] (drop from line)
      ≡ record { from = from; text = slice_range line from to } ∷ rest_from (to + 1) line
  pub reads : number_of (slice_range line from to) ≡ Some value

-- the first word of what was left was taken, and is this number
pub record TakesNumber (old new : WordsOf) (from value : ℕ) : Type 0 where
  pub text : Text
  pub line : new.line ≡ old.line
  pub within : from ≤ length old.line
  pub left : old.left ≡ record { from = from; text = text } ∷ new.left
  pub reads : number_of text ≡ Some value

-- no byte is a space
abbrev pub is_unspaced : Text → Bool
is_unspaced [] = true
is_unspaced (c ∷ cs) = if c == 0x20 then false else is_unspaced cs

-- the word that begins at `from` ends at `to`, and is this text
pub record IsWordAt (line : Text) (from to : ℕ) (text : Text) : Type 0 where
  pub within : to ≤ length line
  pub word : words_from from [] (drop from line)
      ≡ record { from = from; text = text } ∷ rest_from (to + 1) line

-- the first word of what was left was taken, and is this text
pub record TakesText (old new : WordsOf) (from : ℕ) (text : Text) : Type 0 where
  pub line : new.line ≡ old.line
  pub within : from ≤ length old.line
  pub left : old.left ≡ record { from = from; text = text } ∷ new.left
