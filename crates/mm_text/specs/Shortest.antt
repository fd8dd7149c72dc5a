-- Numbers in as few digits as there can be.
-- Profile, "Answers".
use Rattle.std.specs.Prelude.{ℕ, zero, suc, ◌/◌, ◌%◌, nat_lt, if◌then◌else◌, [], ◌∷◌, ◌++◌, codes}
use Rattle.mm_types.specs.{Text, glyph}

-- the digits of n in a base, of which there are at most `count`, and then the rest
unfoldable pub digits_onto : ℕ → ℕ → ℕ → Text → Text
digits_onto base zero n rest = rest
digits_onto base (suc count) n rest =
    let last = glyph (n % base) ∷ rest in
    let more = digits_onto base count (n / base) last in
    if nat_lt n base then last else more

-- `0x` and the upper-case hexadecimal digits of a number below 2 ^ 32, without leading zeros
abbrev pub hex_short : ℕ → Text
hex_short n = codes "0x" ++ digits_onto 16 8 n []
