-- A place between the words of a line: a tool of proof.
use Rattle.std.specs.Prelude.{◌≡◌, ℕ, ◌+◌, ◌^◌, ◌≤◌, ◌<◌, [], ◌∷◌, length, Result, MatchResult}
use Rattle.std.specs.Borrow.{Bor}
use Rattle.mm_types.specs.{Text}
use Rattle.mm_text.specs.{WordsOf}
use Rattle.mm_text.specs.Word.{Word}
use Rattle.mm_script.specs.declared.faults.LineFault.{LineFault}
use Rattle.mm_script.specs.Place.{fault_at}
use Rattle.mm_script.specs.Reading.{Rest}

-- what is kept of a line that is read word by word
pub record IsCursor (line : Text) (words : WordsOf) (number last : ℕ) : Type 0 where
  pub same : words.line ≡ line
  pub short : length line + 1 < 2 ^ 32
  pub some : 1 ≤ number
  pub within : last ≤ length line

abbrev pub rest_of : Text → WordsOf → ℕ → ℕ → Rest
rest_of line words number last = record {
  left = words.left;
  end = length line;
  number = number;
  last = last;
}

abbrev pub word_from : ℕ → Text → Word
word_from from text = record { from = from; text = text }

-- the first word of what was left was taken
pub record TakesWord (old : Rest) (text : Text) (new : Rest) : Type 0 where
  pub left : old.left ≡ word_from new.last text ∷ new.left
  pub end : new.end ≡ old.end
  pub number : new.number ≡ old.number + 1

-- the next word, or the fault after the line's end
abbrev pub TakesNextWord : Rest → Result (Bor Text) LineFault → Rest → Type 0
TakesNextWord old result new = MatchResult result (λ w. TakesWord old w.now new)
    (λ f. (old.left ≡ []) × (f ≡ fault_at old.end old.number))
