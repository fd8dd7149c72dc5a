-- Lists over the numbers below a bound, no number on two of them and none twice on one.
use Rattle.std.specs.Prelude.{◌≡◌, ℕ, ◌<◌, not, ◌==◌, List, [], filter, Option, Some, slice_get, slice_index_or, slice_set}

pub record ListsOf : Type 0 where
  pub numbers : ℕ  -- the bound
  pub lists : List (List ℕ)

abbrev pub list_at : List (List ℕ) → ℕ → List ℕ
list_at lists j = slice_index_or lists j []

-- what stands at place k of list j, if anything
abbrev pub number_at : List (List ℕ) → ℕ → ℕ → Option ℕ
number_at lists j k = slice_get (list_at lists j) k

abbrev pub IsOnOne : List (List ℕ) → ℕ → Type 0
IsOnOne lists x = (j k : ℕ) × (number_at lists j k ≡ Some x)

abbrev pub IsOnNone : List (List ℕ) → ℕ → Type 0
IsOnNone lists x = (j k : ℕ) → number_at lists j k ≡ Some x → ⊥

-- each number on a list is below the bound, and stands at one place of one list
pub record AreApart (v : ListsOf) : Type 0 where
  pub below : (j k x : ℕ) → number_at v.lists j k ≡ Some x → x < v.numbers
  pub once : (i j k m x : ℕ) → number_at v.lists i k ≡ Some x → number_at v.lists j m ≡ Some x →
      (i ≡ j) × (k ≡ m)

-- list j becomes these numbers
abbrev pub with_list : ListsOf → ℕ → List ℕ → ListsOf
with_list v j xs = record v { lists = slice_set v.lists j xs }

abbrev pub without : ℕ → List ℕ → List ℕ
without x xs = filter (λ y. not (y == x)) xs
