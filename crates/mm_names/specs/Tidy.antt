-- A written line with one space between each word and the next.
-- docs/WRITTEN.md
use Rattle.std.specs.Prelude.{ℕ, ◌==◌, ◌||◌, ◌&&◌, Bool, true, false, not, if◌then◌else◌, List, [], ◌∷◌, ◌++◌, Option, Some, None}
use Rattle.mm_types.specs.{Text, byte_pairs}
use Rattle.mm_names.specs.declared.tidy.Sign.{Sign}
use Rattle.mm_names.specs.declared.tidy.Sign.TheVariants as sign
use Rattle.mm_names.specs.declared.tidy.Last.{Last}
use Rattle.mm_names.specs.declared.tidy.Last.TheVariants as last

abbrev pub is_space : ℕ → Bool
is_space c = c == 0x20 || c == 0x09

-- spaces, tabs, parentheses and commas part words
abbrev pub is_blank : ℕ → Bool
is_blank c = is_space c || c == 0x28 || c == 0x29 || c == 0x2C

-- `#` and `;` begin a comment
abbrev pub is_hash : ℕ → Bool
is_hash c = c == 0x23 || c == 0x3B

-- `+`, `|`, `*` and `<` join words
abbrev pub is_operator : ℕ → Bool
is_operator c = c == 0x2B || c == 0x7C || c == 0x2A || c == 0x3C

-- what a byte is by itself
abbrev pub sign_of : ℕ → Sign
sign_of c =
    if is_blank c then sign.Blank
    else if is_hash c then sign.Hash
    else if c == 0x22 then sign.Quote
    else if is_operator c then sign.Operator
    else if c == 0x3D then sign.Equals
    else sign.Letter

-- another slash follows, so a comment begins
abbrev pub is_slashed : Text → Bool
is_slashed [] = false
is_slashed (c ∷ cs) = c == 0x2F

abbrev pub is_letter_sign : Sign → Bool
is_letter_sign sign.Letter = true
is_letter_sign _ = false

-- a word follows behind spaces
abbrev pub word_follows : Text → Bool
word_follows [] = false
word_follows (c ∷ cs) = if is_space c then word_follows cs else is_letter_sign (sign_of c)

-- a space follows, and behind it a word
abbrev pub is_parted : Text → Bool
is_parted [] = false
is_parted (c ∷ cs) = is_space c && word_follows cs

-- what a byte is, with these behind it: `//` begins a comment too, and `-` between words parted by
-- spaces is a difference
abbrev pub sign_at : ℕ → Text → Sign
sign_at c cs =
    if (c == 0x2F) && is_slashed cs then sign.Hash
    else if (c == 0x2D) && is_parted cs then sign.Minus
    else sign_of c

-- the space that stands before a word
abbrev pub gap_after : Last → Text
gap_after last.Blank = 0x20 ∷ []
gap_after _ = []

-- `=` is a word of its own
abbrev pub gap_before_equals : Last → Text
gap_before_equals last.Word = 0x20 ∷ []
gap_before_equals last.Blank = 0x20 ∷ []
gap_before_equals _ = []

-- What a byte of this sign adds after what came last: a difference is the sum with what is taken
-- away. Bytes in quotes become pairs of hexadecimal digits.
abbrev pub added_outside : Last → Sign → ℕ → Text
added_outside l sign.Blank c = []
added_outside l sign.Hash c = []
added_outside l sign.Quote c = gap_after l ++ c ∷ []
added_outside l sign.Operator c = c ∷ []
added_outside l sign.Equals c = gap_before_equals l ++ c ∷ []
added_outside l sign.Letter c = gap_after l ++ c ∷ []
added_outside last.Blank sign.Minus c = 0x2B ∷ c ∷ []
added_outside l sign.Minus c = gap_after l ++ c ∷ []

abbrev pub added : Last → Sign → ℕ → Text
added last.Comment s c = []
added last.Quote sign.Quote c = []
added last.Quote _ c = byte_pairs (c ∷ [])
added l s c = added_outside l s c

-- blanks at the line's start and round an operator are no gap
abbrev pub after_blank : Last → Last
after_blank last.Nothing = last.Nothing
after_blank last.Operator = last.Operator
after_blank _ = last.Blank

abbrev pub last_outside : Last → Sign → Last
last_outside l sign.Blank = after_blank l
last_outside l sign.Hash = last.Comment
last_outside l sign.Quote = last.Quote
last_outside l sign.Operator = last.Operator
last_outside l sign.Equals = last.Blank
last_outside l sign.Letter = last.Word
last_outside last.Blank sign.Minus = last.Operator
last_outside l sign.Minus = last.Word

-- what came last, after a byte more
abbrev pub last_after : Last → Sign → Last
last_after last.Comment s = last.Comment
last_after last.Quote sign.Quote = last.Blank
last_after last.Quote _ = last.Quote
last_after l s = last_outside l s

pub record TidyOf : Type 0 where
  pub text : Text
  pub last : Last

abbrev pub untouched : TidyOf
untouched = record { text = []; last = last.Nothing }

abbrev pub with_byte : TidyOf → ℕ → Sign → TidyOf
with_byte t c s = record { text = t.text ++ added t.last s c; last = last_after t.last s }

abbrev pub with_bytes : TidyOf → Text → TidyOf
with_bytes t [] = t
with_bytes t (c ∷ cs) = with_bytes (with_byte t c (sign_at c cs)) cs

-- a quote has to be closed
abbrev pub closed : Last → Text → Option Text
closed last.Quote text = None
closed _ text = Some text

abbrev pub tidy_of : List ℕ → Option Text
tidy_of line = closed (with_bytes untouched line).last (with_bytes untouched line).text
