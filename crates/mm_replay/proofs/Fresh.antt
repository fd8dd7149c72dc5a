-- No frames, and frames that are all free.
use Rattle.std.proofs.Common.{◌≡◌, ℕ, zero, suc, ◌+◌, ◌<◌, List, [], length, drop, replicate, Some, None, refl, sym, ap, ◌∙◌, arith}
use Rattle.std.specs.Prelude.{slice_get, slice_set}
use Rattle.std.proofs.lemmas.List.{length-replicate, set-get_or}
use Rattle.mm_types.specs.{Record}
use Rattle.mm_move_rules.specs.{blank, numbers_from}
use Rattle.mm_move_rules.proofs.{numbers_in, numbers_at, all_blank}
use Rattle.mm_page_lists.specs.{ListsOf, AreApart, IsOnNone, IsOnOne, list_at, number_at, with_list}
use Rattle.mm_replay.proofs.Outcomes.{filled_at}
use Rattle.mm_replay.specs.{free_alone, no_lists, AreLists, belongs, is_owned, Kept}

pub alone : (xs : List ℕ) (j k g : ℕ) → number_at (free_alone xs) j k ≡ Some g → (j ≡ 1) × (slice_get xs k ≡ Some g)
alone xs (suc zero) k g e = (refl, e)
alone xs (suc (suc (suc (suc j)))) k g e = let bad : None ≡ Some g = e in cc
alone xs j k g e = let bad : None ≡ Some g = e in cc

-- ---- lists over no numbers

none_at : (n j : ℕ) → list_at (no_lists n).lists j ≡ []
none_at n j = filled_at {X = List ℕ} n j []

none_set : (n j : ℕ) → slice_set (no_lists n).lists j [] ≡ (no_lists n).lists
none_set n j = ap (λ (xs : List ℕ). slice_set (no_lists n).lists j xs) (sym (none_at n j)) ∙ set-get_or (no_lists n).lists j []

module _ (n : ℕ) where
  pub none_first : (j k : ℕ) → number_at (no_lists n).lists j k ≡ None
  none_first j k = ap (λ (xs : List ℕ). slice_get xs k) (none_at n j)

  pub none_len : (j : ℕ) → length (list_at (no_lists n).lists j) ≡ 0
  none_len j = ap length (none_at n j)

  on_no_list : (j k g : ℕ) → number_at (no_lists n).lists j k ≡ Some g → ⊥
  on_no_list j k g e = let bad : None ≡ Some g = sym (none_first j k) ∙ e in cc

  pub not_on_one : (x : ℕ) → IsOnOne (no_lists n).lists x → ⊥
  not_on_one x o = on_no_list o.0 o.1 x o.2

  pub none_kept : AreLists n (no_lists n)
  none_kept = record {
    counted = length-replicate n [];
    apart = record {
      below = λ j k x e. absurd (on_no_list j k x e);
      once = λ i j k m x e f. absurd (on_no_list i k x e);
    };
  }

  pub none_popped : (j : ℕ) → no_lists n ≡ with_list (no_lists n) j (drop 1 (list_at (no_lists n).lists j))
  none_popped j = sym (ap (λ (xs : List ℕ). with_list (no_lists n) j (drop 1 xs)) (none_at n j) ∙ ap (λ (xs : List (List ℕ)). record { numbers = 0; lists = xs }) (none_set n j))

  pub lists_made : (v : ListsOf) (m : ℕ) → v ≡ record { numbers = m; lists = replicate n [] } → AreApart v → AreLists n v
  lists_made v m e apart = record { counted = ap (λ (w : ListsOf). length w.lists) e ∙ length-replicate n []; apart = apart }

pub ruleset fresh = (none_kept, none_popped, none_first, none_len, not_on_one, lists_made)

-- ---- numbers in turn

pub not_yet : (i : ℕ) → IsOnNone (free_alone (numbers_from 0 i)) i
not_yet i j k e = let h = numbers_in 0 i k i (alone (numbers_from 0 i) j k i e).1 in omega arith

pub all_kept : (n : ℕ) (v : ListsOf) → v ≡ record { numbers = n; lists = free_alone (numbers_from 0 n) } → AreLists 4 v → Kept (replicate n blank) v
all_kept n v e kept = record {
  numbers = ap (λ (w : ListsOf). w.numbers) e ∙ sym (length-replicate n blank);
  lists = kept;
  listed = λ j k f at.
      let h = alone (numbers_from 0 n) j k f (ap (λ (w : ListsOf). number_at w.lists j k) (sym e) ∙ at) in
      ap (λ (r : Record). belongs r j) (all_blank n f) ∙ ap (λ (i : ℕ). belongs blank i) h.0;
  there = λ f low idle.
      let inside : f < n = omega (arith, low, length-replicate {A = Record} n blank) in
      let zero_plus : 0 + f ≡ f = omega arith in
      (1, f, ap (λ (w : ListsOf). number_at w.lists 1 f) e ∙ numbers_at 0 n f inside ∙ ap (λ (q : ℕ). Some q) zero_plus);
  owned = λ f. ap is_owned (all_blank n f);
}
