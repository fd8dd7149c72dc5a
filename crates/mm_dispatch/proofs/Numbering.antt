-- Lists that are made thing by thing, each thing by its number.
use Rattle.std.proofs.Common.{◌≡◌, ◌≢◌, ◌≤◌, ◌<◌, ℕ, zero, suc, ◌+◌, Some, List, [], ◌∷◌, refl, sym, ◌∙◌, ap, arith, length, set, slice_get, get_or, option_map}
use Rattle.std.proofs.lemmas.List.{set-get_or}
use Rattle.std.proofs.lemmas.Option.{get_or_from_slice_get}
use Rattle.mm_types.specs.{Key}
use Rattle.mm_world.specs.{Page, row_with, rows_with, process_with, processes_with, pages_with, shared_key, area_with, areas_with}

pub set_itself : {A : Type 0} (xs : List A) (i : ℕ) (x : A) → slice_get xs i ≡ Some x → set xs i x ≡ xs
set_itself xs i x e = ap (set xs i) (sym (get_or_from_slice_get xs i x x e)) ∙ set-get_or xs i x

-- such a list, whose first thing has this number
pub record Numbers {A B : Type 0} (f : ℕ → A → B) (F : ℕ → List A → List B) : Type 0 where
  pub none : (n : ℕ) → F n [] ≡ []
  pub cons : (n : ℕ) (x : A) (xs : List A) → F n (x ∷ xs) ≡ f n x ∷ F (n + 1) xs

module _ {A B : Type 0} {f : ℕ → A → B} {F : ℕ → List A → List B} (m : Numbers f F) where
  pub numbers-length : (n : ℕ) (xs : List A) → length (F n xs) ≡ length xs
  numbers-length n [] = ap length (m.none n)
  numbers-length n (x ∷ xs) = ap length (m.cons n x xs) ∙ ap suc (numbers-length (n + 1) xs)

  pub numbers-get : (n i : ℕ) (xs : List A) → slice_get (F n xs) i ≡ option_map (f (n + i)) (slice_get xs i)
  numbers-get n i [] = ap (λ (ys : List B). slice_get ys i) (m.none n)
  numbers-get n zero (x ∷ xs) = ap (λ (ys : List B). slice_get ys 0) (m.cons n x xs) ∙ ap (λ (k : ℕ). Some (f k x)) (let k : n ≡ n + 0 = omega arith in k)
  numbers-get n (suc i) (x ∷ xs) =
      ap (λ (ys : List B). slice_get ys (suc i)) (m.cons n x xs) ∙ numbers-get (n + 1) i xs
      ∙ ap (λ (k : ℕ). option_map (f k) (slice_get xs i)) (let k : n + 1 + i ≡ n + suc i = omega arith in k)

  -- where what stands behind the list's end is made too
  pub numbers-get_or : (d : A) (e : B) → ((k : ℕ) → e ≡ f k d) → (n i : ℕ) (xs : List A) → get_or (F n xs) i e ≡ f (n + i) (get_or xs i d)
  numbers-get_or d e end n i [] = ap (λ (ys : List B). get_or ys i e) (m.none n) ∙ end (n + i)
  numbers-get_or d e end n zero (x ∷ xs) = ap (λ (ys : List B). get_or ys 0 e) (m.cons n x xs) ∙ ap (λ (k : ℕ). f k x) (let k : n ≡ n + 0 = omega arith in k)
  numbers-get_or d e end n (suc i) (x ∷ xs) =
      ap (λ (ys : List B). get_or ys (suc i) e) (m.cons n x xs) ∙ numbers-get_or d e end (n + 1) i xs
      ∙ ap (λ (k : ℕ). f k (get_or xs i d)) (let k : n + 1 + i ≡ n + suc i = omega arith in k)

  pub numbers-set : (n i : ℕ) (xs : List A) (x : A) → F n (set xs i x) ≡ set (F n xs) i (f (n + i) x)
  numbers-set n i [] x = m.none n ∙ sym (ap (λ (ys : List B). set ys i (f (n + i) x)) (m.none n))
  numbers-set n zero (y ∷ xs) x =
      m.cons n x xs ∙ ap (λ (k : ℕ). f k x ∷ F (n + 1) xs) (let k : n ≡ n + 0 = omega arith in k)
      ∙ sym (ap (λ (ys : List B). set ys 0 (f (n + 0) x)) (m.cons n y xs))
  numbers-set n (suc i) (y ∷ xs) x =
      m.cons n y (set xs i x)
      ∙ ap (λ (ys : List B). f n y ∷ ys) (numbers-set (n + 1) i xs x ∙ ap (λ (k : ℕ). set (F (n + 1) xs) i (f k x)) (let k : n + 1 + i ≡ n + suc i = omega arith in k))
      ∙ sym (ap (λ (ys : List B). set ys (suc i) (f (n + suc i) x)) (m.cons n y xs))

module _ {A B : Type 0} {f g : ℕ → A → B} {F G : ℕ → List A → List B} (m : Numbers f F) (o : Numbers g G) where
  pub numbers-same : (n : ℕ) (xs : List A) → ((k : ℕ) (x : A) → n ≤ k → k < n + length xs → f k x ≡ g k x) → F n xs ≡ G n xs
  numbers-same n [] h = m.none n ∙ sym (o.none n)
  numbers-same n (x ∷ xs) h =
      let later = numbers-same (n + 1) xs (λ k y low high. h k y (omega (arith, low)) (omega (arith, high))) in
      m.cons n x xs ∙ (λ i. h n x (omega arith) (omega arith) i ∷ later i) ∙ sym (o.cons n x xs)

  -- but at one number
  module _ (at : ℕ) (h : (k : ℕ) (x : A) → k ≢ at → f k x ≡ g k x) where
    numbers-but : (n i : ℕ) → n + i ≡ at → (xs : List A) (z : B) → set (F n xs) i z ≡ set (G n xs) i z
    numbers-but n i e [] z = ap (λ (ys : List B). set ys i z) (m.none n ∙ sym (o.none n))
    numbers-but n zero e (x ∷ xs) z =
        let later = numbers-same (n + 1) xs (λ k y low high. h k y (λ same. absurd (omega (arith, e, low, same)))) in
        ap (λ (ys : List B). set ys 0 z) (m.cons n x xs) ∙ ap (λ (ys : List B). z ∷ ys) later ∙ sym (ap (λ (ys : List B). set ys 0 z) (o.cons n x xs))
    numbers-but n (suc i) e (x ∷ xs) z =
        let here = h n x (λ same. absurd (omega (arith, e, same))) in
        let later = numbers-but (n + 1) i (omega (arith, e)) xs z in
        ap (λ (ys : List B). set ys (suc i) z) (m.cons n x xs) ∙ (λ j. here j ∷ later j) ∙ sym (ap (λ (ys : List B). set ys (suc i) z) (o.cons n x xs))

    -- where another thing stands
    pub numbers-new : (n i : ℕ) → n + i ≡ at → (xs : List A) (x : A) → F n (set xs i x) ≡ set (G n xs) i (f at x)
    numbers-new n i e xs x = numbers-set m n i xs x ∙ ap (λ (k : ℕ). set (F n xs) i (f k x)) e ∙ numbers-but n i e xs (f at x)

-- ---- the lists of a world with bytes

module _ (b : Key → Page) where
  pub rows-numbered : (pid : ℕ) → Numbers (row_with b pid) (rows_with b pid)
  rows-numbered pid = record { none = λ n. refl; cons = λ n x xs. refl }

  pub processes-numbered : Numbers (λ n. option_map (process_with b n)) (processes_with b)
  processes-numbered = record { none = λ n. refl; cons = λ n x xs. refl }

  pub pages-numbered : (area : ℕ) → Numbers (λ n. option_map (λ (u : Unit {0}). b (shared_key area n))) (pages_with b area)
  pages-numbered area = record { none = λ n. refl; cons = λ n x xs. refl }

  pub areas-numbered : Numbers (area_with b) (areas_with b)
  areas-numbered = record { none = λ n. refl; cons = λ n x xs. refl }
