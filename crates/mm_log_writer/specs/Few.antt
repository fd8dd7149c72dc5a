-- The digits of a number below 1,000, as a table has them.
use Rattle.std.specs.Prelude.{ℕ, ◌/◌, ◌%◌, nat_lt, List, [], ◌∷◌, if◌then◌else◌}
use Rattle.mm_types.specs.{glyph}

-- its digits, filled up to three, and how many they are, as a digit
abbrev pub few_entry : ℕ → List ℕ
few_entry n =
    if nat_lt n 10 then glyph n ∷ 32 ∷ 32 ∷ 49 ∷ []
    else if nat_lt n 100 then glyph (n / 10) ∷ glyph (n % 10) ∷ 32 ∷ 50 ∷ []
    else glyph (n / 100) ∷ glyph (n % 100 / 10) ∷ glyph (n % 100 % 10) ∷ 51 ∷ []
