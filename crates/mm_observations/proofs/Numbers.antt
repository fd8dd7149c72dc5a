-- The numbers of a row, one after another.
use Rattle.std.proofs.Common.{◌≡◌, ℕ, suc, ◌+◌, ◌-◌, ◌≤◌, ◌<◌, List, [], ◌∷◌, ◌++◌, length, take, set, Option, Some, None, refl, sym, ap, ◌∙◌, arith, append_assoc, length-set}
use Rattle.std.specs.Prelude.{option_map}
use Rattle.std.proofs.lemmas.List.{append-nil, take_all, take_more_set}
use Rattle.mm_text.specs.Word.{Word}
use Rattle.mm_observations.specs.{number_before, row_numbers, TakesFirstNumber, HasNoNumber}

-- numbers, and those that are behind them
abbrev pub numbers_behind : List ℕ → Option (List ℕ) → Option (List ℕ)
numbers_behind xs o = option_map (λ ys. xs ++ ys) o

none_before : (o : Option (List ℕ)) → o ≡ numbers_behind [] o
none_before None = refl
none_before (Some ys) = refl

one_before : (xs : List ℕ) (n : ℕ) (o : Option (List ℕ)) → numbers_behind xs (option_map (λ ys. n ∷ ys) o) ≡ numbers_behind (xs ++ n ∷ []) o
one_before xs n None = refl
one_before xs n (Some ys) = ap (λ zs. Some zs) (sym (append_assoc xs (n ∷ []) ys))

-- before the first
pub numbers_begin : (xs : List ℕ) (left : List Word) → row_numbers (length xs) left ≡ numbers_behind (take 0 xs) (row_numbers (length xs - 0) left)
numbers_begin xs left =
    let e : length xs ≡ length xs - 0 = omega arith in
    none_before (row_numbers (length xs) left) ∙ ap (λ (k : ℕ). numbers_behind [] (row_numbers k left)) e

module _ (xs : List ℕ) (i : ℕ) (within : i < length xs) where
  some_left : length xs - i ≡ suc (length xs - (i + 1))
  some_left = omega arith

  -- one more
  pub numbers_more : (n : ℕ) (old new : List Word) → TakesFirstNumber old n new
      → numbers_behind (take i xs) (row_numbers (length xs - i) old) ≡ numbers_behind (take (i + 1) (set xs i n)) (row_numbers (length (set xs i n) - (i + 1)) new)
  numbers_more n old new t =
      let o : Option (List ℕ) = row_numbers (length xs - (i + 1)) new in
      let front : take (i + 1) (set xs i n) ≡ take i xs ++ n ∷ [] =
      take_more_set xs i n within in
      ap (λ (k : ℕ). numbers_behind (take i xs) (row_numbers k old)) some_left
      ∙ ap (λ ws. numbers_behind (take i xs) (row_numbers (suc (length xs - (i + 1))) ws)) t.left
      ∙ ap (λ m. numbers_behind (take i xs) (number_before m o)) t.number
      ∙ one_before (take i xs) n o
      ∙ ap (λ ys. numbers_behind ys o) (sym front)
      ∙ ap (λ (k : ℕ). numbers_behind (take (i + 1) (set xs i n)) (row_numbers (k - (i + 1)) new)) (sym (length-set xs i n))

  -- none is left
  pub numbers_missed : (left : List Word) → HasNoNumber left → numbers_behind (take i xs) (row_numbers (length xs - i) left) ≡ None
  numbers_missed left h =
      ap (λ (k : ℕ). numbers_behind (take i xs) (row_numbers k left)) some_left
      ∙ ap (λ o. numbers_behind (take i xs) o) (h (length xs - (i + 1)))

module _ (xs : List ℕ) (i : ℕ) (over : length xs ≤ i) where
  none_left : length xs - i ≡ 0
  none_left = omega arith

  -- all were read
  pub numbers_ended : (left : List Word) → left ≡ [] → numbers_behind (take i xs) (row_numbers (length xs - i) left) ≡ Some xs
  numbers_ended left e =
      ap (λ (k : ℕ). numbers_behind (take i xs) (row_numbers k left)) none_left
      ∙ ap (λ ws. numbers_behind (take i xs) (row_numbers 0 ws)) e
      ∙ ap (λ ys. Some ys) (append-nil (take i xs) ∙ take_all i xs over)

  -- and a word more
  pub numbers_over : (left ws : List Word) (w : Word) → left ≡ w ∷ ws → numbers_behind (take i xs) (row_numbers (length xs - i) left) ≡ None
  numbers_over left ws w e =
      ap (λ (k : ℕ). numbers_behind (take i xs) (row_numbers k left)) none_left
      ∙ ap (λ ws. numbers_behind (take i xs) (row_numbers 0 ws)) e

pub ruleset numbers = (numbers_begin, numbers_more, numbers_missed, numbers_ended, numbers_over)
