-- What is on the lists after a number left them or was put at the end of one.
use Rattle.std.proofs.Common.{◌≡◌, ◌≢◌, ◌⊎◌, ℕ, zero, suc, ◌<◌, Bool, cond, List, [], ◌∷◌, ◌++◌, length, set, map, Some, None, refl, sym, ap, ◌∙◌, inl, inr, get_or-set_same, get_or-set_other}
use Rattle.std.specs.Prelude.{slice_get, not}
use Rattle.std.specs.Cmp.{unsigned_Decides}
use Rattle.mm_types.proofs.{same_or_not, get_within, get_last, differ}
use Rattle.mm_page_lists.specs.{IsOnNone, list_at, number_at, without}
use Rattle.mm_page_lists.proofs.Cuts.{same, push_cases, push_low, without_other}

pub record Removes (f : ℕ) (lists lists' : List (List ℕ)) : Type 0 where
  pub gone : (j k g : ℕ) → number_at lists' j k ≡ Some g → (g ≢ f) × ((m : ℕ) × (number_at lists j m ≡ Some g))
  pub kept : (j k g : ℕ) → g ≢ f → number_at lists j k ≡ Some g → (m : ℕ) × (number_at lists' j m ≡ Some g)

-- ---- a number leaves all lists

pub without_found : (f : ℕ) (xs : List ℕ) (k g : ℕ) → slice_get (without f xs) k ≡ Some g → (g ≢ f) × ((m : ℕ) × (slice_get xs m ≡ Some g))
without_found f [] k g e = let bad : None ≡ Some g = e in cc
without_found f (x ∷ xs) k g e = elim (same_or_not x f) [
  | inl s ↦
      let here : slice_get (without f xs) k ≡ Some g = ap (λ (b : Bool). slice_get (cond (not b) (x ∷ without f xs) (without f xs)) k) (sym ((unsigned_Decides x f).1 s)) ∙ e in
      let h = without_found f xs k g here in
      (h.0, (suc h.1.0, h.1.1))
  | inr d ↦
      let here : slice_get (x ∷ without f xs) k ≡ Some g = ap (λ (b : Bool). slice_get (cond (not b) (x ∷ without f xs) (without f xs)) k) (sym (differ x f d)) ∙ e in
      elim k as (λ (k : ℕ). slice_get (x ∷ without f xs) k ≡ Some g → (g ≢ f) × ((m : ℕ) × (slice_get (x ∷ xs) m ≡ Some g))) [
        | zero ↦ λ at. (λ s. d (same x g at ∙ s), (0, at))
        | suc k ↦ λ at. let h = without_found f xs k g at in (h.0, (suc h.1.0, h.1.1))
      ] here
]

without_keeps : (f : ℕ) (xs : List ℕ) (k g : ℕ) → g ≢ f → slice_get xs k ≡ Some g → (m : ℕ) × (slice_get (without f xs) m ≡ Some g)
without_keeps f [] k g d e = let bad : None ≡ Some g = e in cc
without_keeps f (x ∷ xs) k g d e = elim (same_or_not x f) [
  | inl s ↦
      elim k as (λ (k : ℕ). slice_get (x ∷ xs) k ≡ Some g → (m : ℕ) × (slice_get (without f (x ∷ xs)) m ≡ Some g)) [
        | zero ↦ λ at. absurd (d (sym (same x g at) ∙ s))
        | suc k ↦ λ at. let h = without_keeps f xs k g d at in
            (h.0, ap (λ (b : Bool). slice_get (cond (not b) (x ∷ without f xs) (without f xs)) h.0) ((unsigned_Decides x f).1 s) ∙ h.1)
      ] e
  | inr n ↦
      let shown : (m : ℕ) → slice_get (without f (x ∷ xs)) m ≡ slice_get (x ∷ without f xs) m = λ m. ap (λ (b : Bool). slice_get (cond (not b) (x ∷ without f xs) (without f xs)) m) (differ x f n) in
      elim k as (λ (k : ℕ). slice_get (x ∷ xs) k ≡ Some g → (m : ℕ) × (slice_get (without f (x ∷ xs)) m ≡ Some g)) [
        | zero ↦ λ at. (0, shown 0 ∙ at)
        | suc k ↦ λ at. let h = without_keeps f xs k g d at in (suc h.0, shown (suc h.0) ∙ h.1)
      ] e
]

-- each list of the mapped lists, also past the last
pub list-without : (f : ℕ) (lists : List (List ℕ)) (j : ℕ) → list_at (map (without f) lists) j ≡ without f (list_at lists j)
list-without f [] j = refl
list-without f (xs ∷ lists) zero = refl
list-without f (xs ∷ lists) (suc j) = list-without f lists j

pub without_removes : (f : ℕ) (lists : List (List ℕ)) → Removes f lists (map (without f) lists)
without_removes f lists = record {
  gone = λ j k g e. without_found f (list_at lists j) k g (ap (λ (xs : List ℕ). slice_get xs k) (sym (list-without f lists j)) ∙ e);
  kept = λ j k g d e.
      let h = without_keeps f (list_at lists j) k g d e in
      (h.0, ap (λ (xs : List ℕ). slice_get xs h.0) (list-without f lists j) ∙ h.1);
}

-- ---- a number is put at the end of a list

module _ (lists : List (List ℕ)) (i x : ℕ) (inside : i < length lists) where
  pub push_found : (j k g : ℕ) → number_at (set lists i (list_at lists i ++ x ∷ [])) j k ≡ Some g → ((j ≡ i) × (g ≡ x)) ⊎ (number_at lists j k ≡ Some g)
  push_found j k g e = elim (same_or_not j i) [
    | inl s ↦
        let here : slice_get (list_at lists i ++ x ∷ []) k ≡ Some g =
        ap (λ (xs : List ℕ). slice_get xs k) (sym (ap (λ (q : ℕ). list_at (set lists i (list_at lists i ++ x ∷ [])) q) s ∙ get_or-set_same lists i (list_at lists i ++ x ∷ []) [] inside)) ∙ e in
        elim (push_cases (list_at lists i) x k g here) [
          | inl h ↦ inl (s, h.1)
          | inr h ↦ inr (ap (λ (q : ℕ). number_at lists q k) s ∙ h)
        ]
    | inr d ↦ inr (ap (λ (xs : List ℕ). slice_get xs k) (sym (get_or-set_other lists i j (list_at lists i ++ x ∷ []) [] d)) ∙ e)
  ]

  pub push_keeps : (j k g : ℕ) → number_at lists j k ≡ Some g → number_at (set lists i (list_at lists i ++ x ∷ [])) j k ≡ Some g
  push_keeps j k g e = elim (same_or_not j i) [
    | inl s ↦
        let at_i : slice_get (list_at lists i) k ≡ Some g = ap (λ (q : ℕ). number_at lists q k) (sym s) ∙ e in
        ap (λ (xs : List ℕ). slice_get xs k) (ap (λ (q : ℕ). list_at (set lists i (list_at lists i ++ x ∷ [])) q) s ∙ get_or-set_same lists i (list_at lists i ++ x ∷ []) [] inside)
        ∙ push_low (list_at lists i) x k (get_within (list_at lists i) k g at_i) ∙ at_i
    | inr d ↦ ap (λ (xs : List ℕ). slice_get xs k) (get_or-set_other lists i j (list_at lists i ++ x ∷ []) [] d) ∙ e
  ]

  pub push_new : number_at (set lists i (list_at lists i ++ x ∷ [])) i (length (list_at lists i)) ≡ Some x
  push_new =
      ap (λ (xs : List ℕ). slice_get xs (length (list_at lists i))) (get_or-set_same lists i (list_at lists i ++ x ∷ []) [] inside) ∙ get_last (list_at lists i) x

pub without_none : (f : ℕ) (lists : List (List ℕ)) → IsOnNone lists f → map (without f) lists ≡ lists
without_none f [] none = refl
without_none f (xs ∷ lists) none =
    ap (λ ys. ys ∷ map (without f) lists) (without_other f xs (none 0)) ∙ ap (λ ls. xs ∷ ls) (without_none f lists (λ j. none (suc j)))
