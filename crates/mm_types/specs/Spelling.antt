-- How numbers and bytes are written.
use Rattle.std.specs.Prelude.{ℕ, zero, suc, ◌+◌, ◌/◌, ◌%◌, nat_lt, if◌then◌else◌, List, [], ◌∷◌, ◌++◌, codes}

-- bytes, as numbers below 256
abbrev pub Text : Type 0
Text = List ℕ

-- a digit, with upper-case letters from ten on
abbrev pub glyph : ℕ → ℕ
glyph d = if nat_lt d 10 then 0x30 + d else 0x37 + d

-- the decimal digits of n, of which there are at most `count`, and then the rest
unfoldable pub decimal_onto : ℕ → ℕ → Text → Text
decimal_onto zero n rest = rest
decimal_onto (suc count) n rest =
    let last = glyph (n % 10) ∷ rest in
    let more = decimal_onto count (n / 10) last in
    if nat_lt n 10 then last else more

-- a number below 2 ^ 64 in decimal, without leading zeros
abbrev pub decimal : ℕ → Text
decimal n = decimal_onto 20 n []

-- the last `count` hexadecimal digits of n, and then the rest
abbrev pub hex_onto : ℕ → ℕ → Text → Text
hex_onto zero n rest = rest
hex_onto (suc count) n rest = hex_onto count (n / 16) (glyph (n % 16) ∷ rest)

-- `0x` and eight upper-case hexadecimal digits
abbrev pub hex8 : ℕ → Text
hex8 n = codes "0x" ++ hex_onto 8 n []

-- each byte as a pair of upper-case hexadecimal digits
abbrev pub byte_pairs : List ℕ → Text
byte_pairs [] = []
byte_pairs (b ∷ bs) = hex_onto 2 b (byte_pairs bs)

-- words with one space between each and the next
abbrev pub spaced : Text → List Text → Text
spaced first [] = first
spaced first (t ∷ ts) = first ++ 0x20 ∷ spaced t ts
