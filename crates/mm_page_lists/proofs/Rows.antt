-- What is read off the links is the lists that they stand for.
use Rattle.std.proofs.Common.{◌≡◌, ℕ, suc, ◌<◌, List, [], ◌∷◌, length, get_or, Some, refl, ap, ◌∙◌, arith}
use Rattle.std.specs.Prelude.{slice_get}
use Rattle.mm_page_lists.specs.{list_at, walk, rows}

-- following the links from this first number, so many times, gives xs
pub record Reads (next : List ℕ) (first len : ℕ) (xs : List ℕ) : Type 0 where
  pub count : len ≡ length xs
  pub front : (x : ℕ) → slice_get xs 0 ≡ Some x → first ≡ x
  pub forth : (k x y : ℕ) → slice_get xs k ≡ Some x → slice_get xs (suc k) ≡ Some y → get_or next x 0 ≡ y

walk_is : (next : List ℕ) (xs : List ℕ) (h : ℕ) → ((x : ℕ) → slice_get xs 0 ≡ Some x → h ≡ x) → ((k x y : ℕ) → slice_get xs k ≡ Some x → slice_get xs (suc k) ≡ Some y → get_or next x 0 ≡ y) → walk next (length xs) h ≡ xs
unfolding walk
walk_is next [] h front forth = refl
walk_is next (x ∷ xs) h front forth =
    ap (λ y. y ∷ walk next (length xs) (get_or next y 0)) (front x refl)
    ∙ ap (λ ys. x ∷ ys) (walk_is next xs (get_or next x 0) (λ y at. forth 0 x y refl at) (λ k. forth (suc k)))

pub rows_is : (next firsts lens : List ℕ) (lists : List (List ℕ)) → length firsts ≡ length lists → length lens ≡ length lists → ((j : ℕ) → j < length lists → Reads next (get_or firsts j 0) (get_or lens j 0) (list_at lists j)) → rows next firsts lens ≡ lists
unfolding rows
rows_is next [] lens [] a b reads = refl
rows_is next [] lens (xs ∷ lists) a b reads = absurd (omega arith)
rows_is next (f ∷ fs) [] (xs ∷ lists) a b reads = absurd (omega arith)
rows_is next (f ∷ fs) _ [] a b reads = absurd (omega arith)
rows_is next (f ∷ fs) (n ∷ ns) (xs ∷ lists) a b reads =
    let here : Reads next f n xs = reads 0 (omega arith) in
    ap (λ (k : ℕ). walk next k f ∷ rows next fs ns) here.count
    ∙ ap (λ ys. ys ∷ rows next fs ns) (walk_is next xs f here.front here.forth)
    ∙ ap (λ ls. xs ∷ ls) (rows_is next fs ns lists (omega arith) (omega arith) (λ j h. reads (suc j) (omega arith)))
