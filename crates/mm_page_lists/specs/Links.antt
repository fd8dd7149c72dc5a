-- Lists as links: for each number the one after it and the one before it, for each list its two
-- ends.
use Rattle.std.specs.Prelude.{◌≡◌, ℕ, zero, suc, ◌<◌, ◌^◌, List, [], ◌∷◌, length, Some, slice_get, slice_index}
use Rattle.mm_page_lists.specs.Lists.{list_at}

-- so many numbers from this one on
unfoldable pub walk : List ℕ → ℕ → ℕ → List ℕ
walk next zero x = []
walk next (suc n) x = x ∷ walk next n (slice_index next x)

-- the list that begins at each of these firsts, and has that length
unfoldable pub rows : List ℕ → List ℕ → List ℕ → List (List ℕ)
rows next [] lens = []
rows next (f ∷ fs) [] = []
rows next (f ∷ fs) (n ∷ ns) = walk next n f ∷ rows next fs ns

-- the links of the numbers xs of list j, whose ends and length are given
pub record Linked (next prev owner : List ℕ) (j first last len : ℕ) (xs : List ℕ) : Type 0 where
  pub count : len ≡ length xs
  pub front : (x : ℕ) → slice_get xs 0 ≡ Some x → first ≡ x
  pub back : (k x : ℕ) → slice_get xs k ≡ Some x → suc k ≡ length xs → last ≡ x
  pub within : (k x : ℕ) → slice_get xs k ≡ Some x → x < length next
  pub owned : (k x : ℕ) → slice_get xs k ≡ Some x → slice_index owner x ≡ j
  pub forth : (k x y : ℕ) → slice_get xs k ≡ Some x → slice_get xs (suc k) ≡ Some y →
      slice_index next x ≡ y
  pub past : (k x y : ℕ) → slice_get xs k ≡ Some x → slice_get xs (suc k) ≡ Some y →
      slice_index prev y ≡ x
  pub once : (k m x : ℕ) → slice_get xs k ≡ Some x → slice_get xs m ≡ Some x → k ≡ m

-- the links of all the lists
pub record LinksStand (next prev owner firsts lasts lens : List ℕ) (lists : List (List ℕ)) :
    Type 0 where
  pub small : length next < 2 ^ 32
  pub prevs : length prev ≡ length next
  pub owners : length owner ≡ length next
  pub fronts : length firsts ≡ length lists
  pub backs : length lasts ≡ length lists
  pub counts : length lens ≡ length lists
  pub linked : (j : ℕ) → j < length lists →
      Linked next prev owner j (slice_index firsts j) (slice_index lasts j) (slice_index lens j)
      (list_at lists j)
