-- Arrays with zeros behind what counts.
use Rattle.std.proofs.Common.{◌≡◌, ℕ, zero, suc, ◌+◌, ◌-◌, ◌<◌, ◌≤◌, List, [], ◌∷◌, ◌++◌, length, drop, refl, sym, ap, ◌∙◌, arith, length-append, length-drop}
use Rattle.std.specs.Prelude.{replicate, slice_set}
use Rattle.std.proofs.lemmas.List.{drop-replicate, length-replicate, drop-drop, drop-set-lt, length-set}
use Rattle.mm_types.specs.{IsPadded}

drop_behind : (front rest : List ℕ) (n : ℕ) → length front ≡ n → drop n (front ++ rest) ≡ rest
drop_behind [] rest zero e = refl
drop_behind [] rest (suc n) e = absurd (omega arith)
drop_behind (x ∷ front) rest zero e = absurd (omega arith)
drop_behind (x ∷ front) rest (suc n) e = drop_behind front rest n (omega arith)

-- an array of zeros with something copied to its front
pub padded_front : (room n : ℕ) (front : List ℕ) → length front ≡ n → n ≤ room → IsPadded room n (front ++ drop n (replicate room 0))
padded_front room n front e h = record {
  within = h;
  whole = omega (arith, length-append front (drop n (replicate room 0)), length-drop {A = ℕ} n (replicate room 0), length-replicate {A = ℕ} room 0);
  zeros = drop_behind front (drop n (replicate room 0)) n e ∙ drop-replicate n room 0;
}

-- one element more
pub padded_push : (room n x : ℕ) (xs : List ℕ) → IsPadded room n xs → n < room → IsPadded room (n + 1) (slice_set xs n x)
padded_push room n x xs p h = record {
  within = omega arith;
  whole = length-set xs n x ∙ p.whole;
  zeros =
      let before : drop (n + 1) (slice_set xs n x) ≡ drop (n + 1) xs = drop-set-lt (n + 1) xs n x (omega arith) in
      let split : drop (n + 1) xs ≡ drop 1 (drop n xs) = sym (drop-drop 1 n xs) in
      let rest : (room - n) - 1 ≡ room - (n + 1) = omega arith in
      before ∙ split ∙ ap (λ (ys : List ℕ). drop 1 ys) p.zeros ∙ drop-replicate 1 (room - n) 0 ∙ ap (λ (k : ℕ). replicate k 0) rest;
}
