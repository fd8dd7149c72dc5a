-- Words after one another.
-- Profile, "Answers".
use Rattle.std.specs.Prelude.{ℕ, Bool, if◌then◌else◌, List, [], ◌∷◌, ◌++◌}
use Rattle.mm_types.specs.{Text, decimal, hex8}

-- words, each after a space
abbrev pub following : List Text → Text
following [] = []
following (t ∷ ts) = 0x20 ∷ (t ++ following ts)

-- a number, in eight hexadecimal digits or in decimal
abbrev pub number_word : Bool → ℕ → Text
number_word hex n = if hex then hex8 n else decimal n
