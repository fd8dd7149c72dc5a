-- Flags for the frames of a list.
use Rattle.std.proofs.Common.{◌≡◌, ℕ, zero, suc, ◌<◌, ◌≤◌, Bool, true, false, List, [], ◌∷◌, length, get_or, set, replicate, refl, sym, ap, ◌∙◌, arith, get_or-set_same, get_or-set_other}
use Rattle.std.specs.Prelude.{◌==◌, ◌||◌, slice_set, slice_index_or}
use Rattle.std.proofs.lemmas.Bool.{eqb-true, eqb-false}
use Rattle.mm_move_rules.specs.{is_on}

or_true : (a b : Bool) → b ≡ true → (a || b) ≡ true
or_true true b e = refl
or_true false b e = e

pub mark_one : (marks : List Bool) (x f : ℕ) (xs : List ℕ) → x < length marks
    → (slice_index_or (slice_set marks x true) f false || is_on f xs) ≡ (slice_index_or marks f false || is_on f (x ∷ xs))
mark_one marks x f xs h = pick (x == f) refl
  where
    pick : (b : Bool) → (x == f) ≡ b → (slice_index_or (slice_set marks x true) f false || is_on f xs) ≡ (slice_index_or marks f false || is_on f (x ∷ xs))
    pick true e =
        let same : x ≡ f = eqb-true x f e in
        let here : slice_index_or (slice_set marks x true) f false ≡ true = ap (λ (k : ℕ). get_or (set marks x true) k false) (sym same) ∙ get_or-set_same marks x true false h in
        ap (λ b. b || is_on f xs) here ∙ sym (or_true (slice_index_or marks f false) (is_on f (x ∷ xs)) (ap (λ b. b || is_on f xs) e))
    pick false e =
        let there : slice_index_or (slice_set marks x true) f false ≡ slice_index_or marks f false = get_or-set_other marks x f true false (λ q. eqb-false x f e (sym q)) in
        ap (λ b. b || is_on f xs) there ∙ ap (λ b. slice_index_or marks f false || (b || is_on f xs)) (sym e)

pub mark_none : (marks : List Bool) (x f : ℕ) (xs : List ℕ) → length marks ≤ x → f < length marks
    → (slice_index_or marks f false || is_on f xs) ≡ (slice_index_or marks f false || is_on f (x ∷ xs))
mark_none marks x f xs far low = pick (x == f) refl
  where
    pick : (b : Bool) → (x == f) ≡ b → (slice_index_or marks f false || is_on f xs) ≡ (slice_index_or marks f false || is_on f (x ∷ xs))
    pick true e = let same : x ≡ f = eqb-true x f e in absurd (omega (arith, far, low, same))
    pick false e = ap (λ b. slice_index_or marks f false || (b || is_on f xs)) (sym e)

none_marked : (count f : ℕ) → slice_index_or (replicate count false) f false ≡ false
none_marked zero f = refl
none_marked (suc count) zero = refl
none_marked (suc count) (suc f) = none_marked count f

pub mark_first : (count f : ℕ) (frames : List ℕ) → (slice_index_or (replicate count false) f false || is_on f frames) ≡ is_on f frames
mark_first count f frames = ap (λ b. b || is_on f frames) (none_marked count f)

or_false : (b : Bool) → (b || false) ≡ b
or_false true = refl
or_false false = refl

pub mark_last : (marks : List Bool) (f : ℕ) → slice_index_or marks f false ≡ (slice_index_or marks f false || is_on f [])
mark_last marks f = sym (or_false (slice_index_or marks f false))

pub ruleset marks = (mark_one, mark_none, mark_first, mark_last)
