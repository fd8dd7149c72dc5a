-- The last digits of a number.
use Rattle.std.specs.Prelude.{ℕ, ◌/◌, ◌%◌, [], ◌∷◌}
use Rattle.mm_types.specs.{Text, glyph}

-- of a number below 100, with a zero in front where it is below 10
abbrev pub two_digits : ℕ → Text
two_digits n = glyph (n / 10) ∷ glyph (n % 10) ∷ []

-- of a number below 1,000
abbrev pub three_digits : ℕ → Text
three_digits n = glyph (n / 100) ∷ glyph (n / 10 % 10) ∷ glyph (n % 10) ∷ []
