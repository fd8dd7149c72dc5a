-- One number is changed.
use Rattle.std.proofs.Common.{◌≡◌, ℕ, ◌+◌, ◌<◌, Bool, true, false, cond, List, length, get_or, set, refl, sym, ap, ◌∙◌, subst, get_or-set_same, get_or-set_other}
use Rattle.std.specs.Prelude.{◌==◌, slice_index, slice_set}
use Rattle.std.proofs.lemmas.Bool.{eqb-true, eqb-false}
use Rattle.mm_transcripts.specs.{one_age_more}

pub everywhere : {A B : Type 0} {f g : A → B} → ((a : A) → f a ≡ g a) → f ≡ g
everywhere same = λ i. λ a. same a i

pub ruleset kept = (everywhere)

more_at : (xs : List ℕ) (k n : ℕ) → k < length xs → get_or (set xs k (get_or xs k 0 + 1)) n 0 ≡ cond (n == k) (get_or xs n 0 + 1) (get_or xs n 0)
more_at xs k n h = pick (n == k) refl
  where
    pick : (b : Bool) → (n == k) ≡ b → get_or (set xs k (get_or xs k 0 + 1)) n 0 ≡ cond b (get_or xs n 0 + 1) (get_or xs n 0)
    pick true e =
        let same : n ≡ k = eqb-true n k e in
        subst (λ (j : ℕ). get_or (set xs k (get_or xs k 0 + 1)) j 0 ≡ get_or xs j 0 + 1) (sym same) (get_or-set_same xs k (get_or xs k 0 + 1) 0 h)
    pick false e = get_or-set_other xs k n (get_or xs k 0 + 1) 0 (eqb-false n k e)

pub counted_more : (xs : List ℕ) (k : ℕ) → k < length xs → slice_index (slice_set xs k (slice_index xs k + 1)) ≡ one_age_more k (slice_index xs)
counted_more xs k h = λ i. λ n. more_at xs k n h i

pub ruleset counted = (counted_more)
