-- The prototype words of open areas.
use Rattle.std.specs.Prelude.{ℕ, List, [], Option, Some, None, unwrap_or, slice_get}
use Rattle.std.specs.Option.{option_and_then}
use Rattle.std.specs.Ordering.{nat_cmp}
use Rattle.std.specs.declared.vec.Vec.{Vec}
use Rattle.std.specs.FinMap as finite
use Rattle.std.specs.FinMap.{FinMap}

-- the words of each open area
abbrev pub AreaWords : Type 0
AreaWords = FinMap nat_cmp (List ℕ)

-- the word at an index of an area, if it is open and has so many
abbrev pub proto_word : AreaWords → ℕ → ℕ → Option ℕ
proto_word areas a i = option_and_then (λ words. slice_get words i) (finite.get areas a)

-- the words of an area; none if it is not open
abbrev pub area_words : AreaWords → ℕ → List ℕ
area_words areas a = unwrap_or (finite.get areas a) []

-- what stands for an area in a table
abbrev pub words_in : {X Z : Type 0} → Option (Vec X Z) → Option (List X)
words_in None = None
words_in (Some words) = Some words.items
