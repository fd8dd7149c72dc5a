-- What stands on the lists, for the readers.
use Rattle.std.proofs.Common.{◌≡◌, ℕ, zero, suc, ◌+◌, ◌<◌, Bool, true, false, List, length, Option, Some, None, ap, ◌∙◌, subst, arith, length-set}
use Rattle.std.specs.Prelude.{option_map, slice_get, slice_set}
use Rattle.std.proofs.lemmas.List.Sums.{count_by-le-length}
use Rattle.mm_types.specs.{Frame, Record}
use Rattle.mm_page_lists.specs.{ListsOf, number_at}
use Rattle.mm_page_lists.proofs.{list_within}
use Rattle.mm_slots.specs.{free_count}
use Rattle.mm_slots.proofs.{count_changed}
use Rattle.mm_replay.specs.{Kept, table_from_lists, frames_on, IsBehind, AreApartFrom, FrameList, frame}
use Rattle.mm_replay.specs.declared.four_lists.FrameList.TheVariants as list

-- ---- lists

pub framed_behind : {A : Type 0} (lists : A → List ℕ) (f : ℕ) (o : Option ℕ) (r : Option Frame) → r ≡ option_map frame o → ((j : A) (k : ℕ) → slice_get (lists j) k ≡ Some f → o ≡ slice_get (lists j) (k + 1))
    → (((j : A) (k : ℕ) → slice_get (lists j) k ≡ Some f → ⊥) → o ≡ None) → IsBehind lists f r
framed_behind lists f o r e behind none = record {
  behind = λ j k at. e ∙ ap (λ (x : Option ℕ). option_map frame x) (behind j k at);
  none = λ h. e ∙ ap (λ (x : Option ℕ). option_map frame x) (none h);
}

module _ (records : List Record) (v : ListsOf) (s : Kept records v) (f : ℕ) (o : Option ℕ)
    (behind : (j k : ℕ) → number_at v.lists j k ≡ Some f → o ≡ number_at v.lists j (k + 1))
    (none : ((j k : ℕ) → number_at v.lists j k ≡ Some f → ⊥) → o ≡ None) where
  next_there : (j : FrameList) (k : ℕ) → slice_get (frames_on (table_from_lists records v) j) k ≡ Some f → o ≡ slice_get (frames_on (table_from_lists records v) j) (k + 1)
  next_there list.Zeroed k e = behind 0 k e
  next_there list.Free k e = behind 1 k e
  next_there list.Standby k e = behind 2 k e
  next_there list.Modified k e = behind 3 k e

  nowhere : ((j : FrameList) (k : ℕ) → slice_get (frames_on (table_from_lists records v) j) k ≡ Some f → ⊥) → (j k : ℕ) → number_at v.lists j k ≡ Some f → ⊥
  nowhere h zero k e = h list.Zeroed k e
  nowhere h (suc zero) k e = h list.Free k e
  nowhere h (suc (suc zero)) k e = h list.Standby k e
  nowhere h (suc (suc (suc zero))) k e = h list.Modified k e
  nowhere h (suc (suc (suc (suc j)))) k e = let low = list_within v.lists (suc (suc (suc (suc j)))) k f e in absurd (omega (arith, low, s.lists.counted))

  pub behind_frame : (r : Option Frame) → r ≡ option_map frame o → IsBehind (frames_on (table_from_lists records v)) f r
  behind_frame r e = framed_behind (frames_on (table_from_lists records v)) f o r e next_there (λ h. none (nowhere h))

-- ---- slots

module _ (free others : List Bool) (lowest : Option ℕ) (s : ℕ) (e : lowest ≡ Some s) (a : AreApartFrom free lowest others) where
  apart : AreApartFrom free (Some s) others
  apart = subst (λ (o : Option ℕ). AreApartFrom free o others) e a

  -- the lowest free slot is counted apart
  pub one_apart : free_count free ≡ free_count others + 1
  one_apart =
      let n = count_changed free s true false apart.is_lowest.is_free in
      let m : free_count others ≡ free_count (slice_set free s false) = ap free_count apart.others_are in
      omega (arith, n, m)

  pub few_apart : free_count others < length others
  few_apart =
      let n = count_by-le-length (λ (b : Bool). b) free in
      let m : length others ≡ length (slice_set free s false) = ap length apart.others_are in
      omega (arith, n, m, one_apart, length-set free s false)
