-- The numbers that calls take, each at its place.
-- Profile, "Calls".
use Rattle.std.specs.Prelude.{◌≡◌, ℕ, List, [], ◌∷◌, ◌++◌, map, Some}
use Rattle.mm_names.specs.{value_of}
use Rattle.mm_transcripts.specs.Numbers.{number_name_text}
use Rattle.mm_transcripts.specs.declared.numbers.NumberPlace.{NumberPlace}
use Rattle.mm_transcripts.specs.declared.numbers.NumberPlace.TheVariants as place
use Rattle.mm_transcripts.specs.declared.numbers.Number.{Number}

abbrev pub at_each : NumberPlace → List ℕ → List Number
at_each p ns = map (λ n. record { place = p; value = n }) ns

abbrev pub taken_numbers : List Number
taken_numbers =
    at_each place.Allocation (0x1000 ∷ 0x2000 ∷ 0x3000 ∷ 0x202000 ∷ 0x203000 ∷ 0x4000 ∷ 0x8000 ∷ [])
    ++ at_each place.Protection
    (0x01 ∷ 0x02 ∷ 0x04 ∷ 0x08 ∷ 0x10 ∷ 0x20 ∷ 0x40 ∷ 0x80 ∷ 0x102 ∷ 0x104 ∷ 0x108 ∷ 0x110 ∷ 0x120
    ∷ 0x140 ∷ 0x180 ∷ [])
    ++ at_each place.Section
    (0x2 ∷ 0x4 ∷ 0x8 ∷ 0x8000002 ∷ 0x8000004 ∷ 0x8000008 ∷ 0x4000002 ∷ 0x4000004 ∷ 0x4000008 ∷ [])
    ++ at_each place.Access (1 ∷ 2 ∷ 4 ∷ 6 ∷ 0xF001F ∷ [])

-- a written script that has the name has the number
abbrev pub AreReadAgain : List Number → Type 0
AreReadAgain [] = Unit {0}
AreReadAgain (x ∷ xs) = (value_of [] (number_name_text x) ≡ Some x.value) × AreReadAgain xs
