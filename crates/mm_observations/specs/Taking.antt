-- Words that are taken as numbers: a tool of proof.
use Rattle.std.specs.Prelude.{◌≡◌, ℕ, suc, List, ◌∷◌, Some, None}
use Rattle.mm_text.specs.{number_of}
use Rattle.mm_text.specs.Word.{Word}
use Rattle.mm_observations.specs.Rows.{row_numbers}

-- the first word is this number
pub record TakesFirstNumber (old : List Word) (n : ℕ) (new : List Word) : Type 0 where
  pub word : Word
  pub left : old ≡ word ∷ new
  pub number : number_of word.text ≡ Some n

-- the first word is no number, or there is none
abbrev pub HasNoNumber : List Word → Type 0
HasNoNumber words = (n : ℕ) → row_numbers (suc n) words ≡ None
