-- What a word of a line stands for.
-- Profile, "Script".
use Rattle.std.specs.Prelude.{◌≡◌, ℕ, ◌≤◌, List, [], ◌∷◌, Option, Some, None, codes}
use Rattle.mm_types.specs.{Text}
use Rattle.mm_text.specs.{number_of, bytes_of_pairs, name_of}

pub data Field : Type 0 where
  Exactly : (text : Text) → Field  -- this very word
  Decimal : (least most value : ℕ) → Field  -- a number from `least` to `most`, printed in decimal
  Hex : (value : ℕ) → Field  -- a number below 2 ^ 32, printed in hexadecimal
  Bytes : (bytes : List ℕ) → Field  -- 1 to 64 bytes
  Named : (name : Text) → Field  -- a name
  NamedOrDash : (name : Option Text) → Field  -- a name, or `-` for none

-- The word spells the field. A number may be decimal or hexadecimal, with leading zeros, in every
-- field of numbers.
abbrev pub Spells : Text → Field → Type 0
Spells word (Exactly text) = word ≡ text
Spells word (Decimal least most n) = (number_of word ≡ Some n) × (least ≤ n) × (n ≤ most)
Spells word (Hex n) = number_of word ≡ Some n
Spells word (Bytes bytes) = bytes_of_pairs word ≡ Some bytes
Spells word (Named name) = name_of word ≡ Some name
Spells word (NamedOrDash None) = word ≡ codes "-"
Spells word (NamedOrDash (Some name)) = name_of word ≡ Some name

-- the words spell the fields, one each
abbrev pub EachSpells : List Text → List Field → Type 0
EachSpells [] [] = Unit {0}
EachSpells [] (f ∷ fs) = ⊥
EachSpells (w ∷ ws) [] = ⊥
EachSpells (w ∷ ws) (f ∷ fs) = Spells w f × EachSpells ws fs
