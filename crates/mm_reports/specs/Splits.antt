-- A word that a byte divides.
-- Profile, "What a log shows".
use Rattle.std.specs.Prelude.{ℕ, ◌+◌, ◌==◌, if◌then◌else◌, [], ◌∷◌, length, drop}
use Rattle.mm_types.specs.{Text}

-- what stands before the first of such bytes, and behind it
abbrev pub before : ℕ → Text → Text
before byte [] = []
before byte (c ∷ cs) = if c == byte then [] else c ∷ before byte cs

abbrev pub after_byte : ℕ → Text → Text
after_byte byte word = drop (length (before byte word) + 1) word
