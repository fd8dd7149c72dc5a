-- What a working set means: the age of each valid page, the page at each place, and which page goes
-- first. Profile, "Which frame moves, and when".
use Rattle.std.specs.Prelude.{◌≡◌, ◌⊎◌, ℕ, Bool, ◌+◌, ◌<◌, ◌≤◌, Option, Some, None, IsSome, option_map, min, refl}
use Rattle.std.specs.Coded.{Coded, code_by, coded×, coded_ℕ, coded_bool}
use Rattle.std.specs.Ordering.{nat_cmp}
use Rattle.std.specs.FinMap as finite
use Rattle.std.specs.FinMap.{FinMap}

-- the fewest and the most pages; whether there is room for them; from each page its age, 0 to 7;
-- from each place in use its page
pub record WorkingSetOf : Type 0 where
  pub min : ℕ
  pub max : ℕ
  pub reserved : Bool
  pub ages : FinMap nat_cmp ℕ
  pub places : FinMap nat_cmp ℕ

abbrev pub working_set_code : Coded WorkingSetOf
working_set_code =
    code_by
    ((ℕ × (ℕ × Bool)) × (FinMap nat_cmp ℕ × FinMap nat_cmp ℕ))
    (coded× (coded× coded_ℕ (coded× coded_ℕ coded_bool))
    (coded× (finite.code coded_ℕ coded_ℕ) (finite.code coded_ℕ coded_ℕ)))
    (λ s. ((s.min, (s.max, s.reserved)), (s.ages, s.places)))
    (λ p. record { min = p.0.0; max = p.0.1.0; reserved = p.0.1.1; ages = p.1.0; places = p.1.1 })
    (λ _. refl)

-- each page is at one place, and each page that has an age is at a place
pub record EachAtOnePlace (s : WorkingSetOf) : Type 0 where
  pub aged : (p v : ℕ) → finite.get s.places p ≡ Some v → IsSome (finite.get s.ages v)
  pub placed : (v age : ℕ) → finite.get s.ages v ≡ Some age → (p : ℕ) ×
      (finite.get s.places p ≡ Some v)
  pub once : (p q v : ℕ) → finite.get s.places p ≡ Some v → finite.get s.places q ≡ Some v → p ≡ q
  pub young : (v age : ℕ) → finite.get s.ages v ≡ Some age → age ≤ 7

-- one more, up to 7
abbrev pub older : ℕ → ℕ
older age = min (age + 1) 7

-- each page of the new map has the age that f makes of the old one
abbrev pub AgesBy : (ℕ → ℕ) → FinMap nat_cmp ℕ → FinMap nat_cmp ℕ → Type 0
AgesBy f old new = (v : ℕ) → finite.get new v ≡ option_map f (finite.get old v)

-- page v of age a goes before page w of age b: the greater age first, and among equal ages the
-- lower page
abbrev pub GoesBefore : ℕ → ℕ → ℕ → ℕ → Type 0
GoesBefore v a w b = (b < a) ⊎ ((a ≡ b) × (v < w))

-- page w of age b follows that page, if one is given
abbrev pub GoesAfter : FinMap nat_cmp ℕ → Option ℕ → ℕ → ℕ → Type 0
GoesAfter ages None w b = Unit {0}
GoesAfter ages (Some v) w b = (a : ℕ) → finite.get ages v ≡ Some a → GoesBefore v a w b

-- page v is the first of those that follow
pub record IsOldestInSet (ages : FinMap nat_cmp ℕ) (after : Option ℕ) (v : ℕ) : Type 0 where
  pub age : ℕ
  pub held : finite.get ages v ≡ Some age
  pub follows : GoesAfter ages after v age
  pub first : (w b : ℕ) → finite.get ages w ≡ Some b → GoesAfter ages after w b → (w ≡ v) ⊎
      GoesBefore v age w b

abbrev pub NoneFollowsInSet : FinMap nat_cmp ℕ → Option ℕ → Type 0
NoneFollowsInSet ages after = (w b : ℕ) → finite.get ages w ≡ Some b → GoesAfter ages after w b → ⊥
