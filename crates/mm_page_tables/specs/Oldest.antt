-- Which page of a process goes first: the greatest age, and among equal ages the lowest page. Ages
-- are a function of pages. Profile, "Which frame moves, and when".
use Rattle.std.specs.Prelude.{◌≡◌, ◌⊎◌, ℕ, Option, Some, None}
use Rattle.mm_types.specs.{Pid, Place}
use Rattle.mm_working_sets.specs.{GoesBefore}
use Rattle.mm_page_tables.specs.Words.{place_from}

-- the ages of one process
abbrev pub ages_in : (Place → Option ℕ) → Pid → ℕ → Option ℕ
ages_in ages pid v = ages (place_from pid (record { 0 = v }))

-- page w of age b follows that page, if one is given
abbrev pub GoesBehind : (ℕ → Option ℕ) → Option ℕ → ℕ → ℕ → Type 0
GoesBehind ages None w b = Unit {0}
GoesBehind ages (Some v) w b = (a : ℕ) → ages v ≡ Some a → GoesBefore v a w b

-- page v is the first of those that follow
pub record IsOldestOf (ages : ℕ → Option ℕ) (after : Option ℕ) (v : ℕ) : Type 0 where
  pub age : ℕ
  pub held : ages v ≡ Some age
  pub follows : GoesBehind ages after v age
  pub first : (w b : ℕ) → ages w ≡ Some b → GoesBehind ages after w b → (w ≡ v) ⊎
      GoesBefore v age w b

abbrev pub NoneBehind : (ℕ → Option ℕ) → Option ℕ → Type 0
NoneBehind ages after = (w b : ℕ) → ages w ≡ Some b → GoesBehind ages after w b → ⊥
