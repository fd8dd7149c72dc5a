-- Some elements in an array that has zeros after them.
use Rattle.std.specs.Prelude.{◌≡◌, ℕ, ◌-◌, ◌≤◌, List, ◌++◌, take, drop, length, replicate}
use Rattle.std.proofs.Common.{sym, ap, ◌∙◌, arith, length-take}
use Rattle.std.proofs.lemmas.List.{take-append-drop}

-- the first n of an array of `room` elements count, and the rest is zero
pub record IsPadded (room n : ℕ) (elements : List ℕ) : Type 0 where
  pub within : n ≤ room
  pub whole : length elements ≡ room
  pub zeros : drop n elements ≡ replicate (room - n) 0

abbrev pub padded : ℕ → List ℕ → List ℕ
padded room elements = elements ++ replicate (room - length elements) 0

-- what counts gives the array back
pub padded-take : {A : Type 0} (make : ℕ → List ℕ → A) (room n : ℕ) (elements : List ℕ) →
    IsPadded room n elements →
    make (length (take n elements)) (padded room (take n elements)) ≡ make n elements
padded-take make room n elements h =
    let len : length (take n elements) ≡ n =
    omega (arith, length-take n elements, h.within, h.whole) in
    let same : padded room (take n elements) ≡ elements =
    ap (λ k. take n elements ++ replicate (room - k) 0) len ∙ ap (λ xs. take n elements ++ xs)
    (sym h.zeros) ∙ take-append-drop n elements in
    ap (λ k. make k (padded room (take n elements))) len ∙ ap (λ xs. make n xs) same
