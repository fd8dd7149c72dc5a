-- The list of the frames with a request, and their flags.
use Rattle.std.proofs.Common.{◌≡◌, ℕ, zero, suc, ◌<◌, Bool, true, false, List, [], ◌∷◌, ◌++◌, length, get_or, set, map, Some, refl, sym, ap, ◌∙◌, inl, inr, arith, length-set, get_or-set_same, get_or-set_other}
use Rattle.std.specs.Prelude.{slice_get}
use Rattle.mm_types.proofs.{same_or_not}
use Rattle.mm_page_lists.specs.{ListsOf, IsOnNone, list_at, number_at, with_list, without}
use Rattle.mm_page_lists.proofs.{without_other, list_within, without_removes, push_found, push_keeps, push_new}
use Rattle.mm_replay.specs.{flight_of, AreLists, AreFlagged}

module _ (v : ListsOf) (flags : List Bool) (f : ℕ) (a : AreFlagged v flags) where
  only_one : (j : ℕ) → j < length v.lists → j ≡ 0
  only_one j h = omega (arith, h, a.lists.counted)

  pub request_new : ((k : ℕ) → slice_get (list_at v.lists 0) k ≡ Some f → ⊥) → IsOnNone v.lists f
  request_new none j k e =
      let z = only_one j (list_within v.lists j k f e) in
      none k (ap (λ (q : ℕ). number_at v.lists q k) (sym z) ∙ e)

  pub flagged_begun : f < v.numbers → AreLists 1 (with_list v 0 (list_at v.lists 0 ++ f ∷ [])) → AreFlagged (with_list v 0 (list_at v.lists 0 ++ f ∷ [])) (set flags f true)
  flagged_begun low one =
      let within : 0 < length v.lists = omega (arith, a.lists.counted) in
      let inside : f < length flags = omega (arith, low, a.sized) in
      record {
        lists = one;
        sized = length-set flags f true ∙ a.sized;
        there = λ g t. elim (same_or_not g f) [
          | inl s ↦ (0, length (list_at v.lists 0), push_new v.lists 0 f within ∙ ap (λ (q : ℕ). Some q) (sym s))
          | inr d ↦
              let h = a.there g (sym (get_or-set_other flags f g true false d) ∙ t) in
              (h.0, h.1, push_keeps v.lists 0 f within h.0 h.1 g h.2)
        ];
        flagged = λ k g e. elim (same_or_not g f) [
          | inl s ↦ ap (λ (q : ℕ). get_or (set flags f true) q false) s ∙ get_or-set_same flags f true false inside
          | inr d ↦ elim (push_found v.lists 0 f within 0 k g e) [
            | inl h ↦ absurd (d h.1)
            | inr h ↦ get_or-set_other flags f g true false d ∙ a.flagged k g h
          ]
        ];
      }

  pub flagged_ended : AreLists 1 (record v { lists = map (without f) v.lists }) → AreFlagged (record v { lists = map (without f) v.lists }) (set flags f false)
  flagged_ended one =
      let r = without_removes f v.lists in
      record {
        lists = one;
        sized = length-set flags f false ∙ a.sized;
        there = λ g t. elim (same_or_not g f) [
          | inl s ↦
              let bad : false ≡ true = sym (unset_here flags f) ∙ ap (λ (q : ℕ). get_or (set flags f false) q false) (sym s) ∙ t in cc
          | inr d ↦
              let h = a.there g (sym (get_or-set_other flags f g false false d) ∙ t) in
              let m = r.kept h.0 h.1 g d h.2 in
              (h.0, m.0, m.1)
        ];
        flagged = λ k g e.
            let h = r.gone 0 k g e in
            get_or-set_other flags f g false false h.0 ∙ a.flagged h.1.0 g h.1.1;
      }
    where
      unset_here : (xs : List Bool) (i : ℕ) → get_or (set xs i false) i false ≡ false
      unset_here [] i = refl
      unset_here (x ∷ xs) zero = refl
      unset_here (x ∷ xs) (suc i) = unset_here xs i

  pub flight_stays : get_or flags f false ≡ false → flight_of v ≡ record (flight_of v) { requests = without f (list_at v.lists 0) }
  flight_stays e =
      ap (λ (xs : List ℕ). record { frames = v.numbers; requests = xs })
      (sym (without_other f (list_at v.lists 0) (λ k at. let bad : true ≡ false = sym (a.flagged k f at) ∙ e in cc)))
