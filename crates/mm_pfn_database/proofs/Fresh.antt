-- All frames are free.
use Rattle.std.proofs.Common.{◌≡◌, ℕ, zero, suc, ◌+◌, ◌<◌, ◌^◌, List, length, get_or, replicate, Some, None, refl, sym, ap, ◌∙◌, subst, arith}
use Rattle.std.specs.Prelude.{slice_get}
use Rattle.std.proofs.lemmas.List.{get_or-replicate, length-replicate}
use Rattle.mm_types.specs.{Record}
use Rattle.mm_move_rules.specs.{blank, numbers_from}
use Rattle.mm_page_lists.specs.{ListsOf, AreApart, IsOnNone, number_at}
use Rattle.mm_pfn_database.specs.{Standing, standing_at, list_for, AreListed, AreFrames, free_only}
use Rattle.mm_pfn_database.specs.declared.standing.Standing.TheVariants.{Free}
use Rattle.mm_pfn_database.proofs.Placings.{as_empty}
use Rattle.mm_move_rules.proofs.{numbers_in, numbers_at}

pub only_free : (xs : List ℕ) (j k g : ℕ) → number_at (free_only xs) j k ≡ Some g → (j ≡ 1) × (slice_get xs k ≡ Some g)
only_free xs zero k g e = let bad : None ≡ Some g = e in cc
only_free xs (suc zero) k g e = (refl, e)
only_free xs (suc (suc zero)) k g e = let bad : None ≡ Some g = e in cc
only_free xs (suc (suc (suc zero))) k g e = let bad : None ≡ Some g = e in cc
only_free xs (suc (suc (suc (suc j)))) k g e = let bad : None ≡ Some g = e in cc

pub not_yet : (n i : ℕ) → IsOnNone (free_only (numbers_from 0 i)) i
not_yet n i j k e = let h = numbers_in 0 i k i (only_free (numbers_from 0 i) j k i e).1 in omega arith

free_list : (n f : ℕ) → f < n → list_for (standing_at (replicate n Free) f) (get_or (replicate n blank) f blank) ≡ Some 1
free_list n f low = ap (λ (s : Standing). list_for s (get_or (replicate n blank) f blank)) (get_or-replicate n f Free _ low)

pub all_free : (n : ℕ) (lists : ListsOf) → n < 2 ^ 32 → lists ≡ record { numbers = n; lists = free_only (numbers_from 0 n) } → AreApart lists → AreFrames (replicate n blank) (replicate n Free) lists (replicate n None)
all_free n lists small e apart =
    let many : length (replicate {A = Record} n blank) ≡ n = length-replicate n blank in
    record {
      small = omega (arith, small, many);
      standings = length-replicate n Free ∙ sym many;
      pages = length-replicate n None ∙ sym many;
      numbers = ap (λ (v : ListsOf). v.numbers) e ∙ sym many;
      four = ap (λ (v : ListsOf). length v.lists) e;
      apart = apart;
      listed = subst (λ (v : ListsOf). AreListed (replicate n blank) (replicate n Free) v.lists) (sym e) (record {
        held = λ j k f at.
            let h = only_free (numbers_from 0 n) j k f at in
            let low : f < n = omega (arith, numbers_in 0 n k f h.1) in
            free_list n f low ∙ ap (λ (q : ℕ). Some q) (sym h.0);
        there = λ f j low at.
            let inside : f < n = omega (arith, low, many) in
            let one : Some 1 ≡ Some j = sym (free_list n f inside) ∙ at in
            let j_is : 1 ≡ j = cc in
            (f, ap (λ (q : ℕ). number_at (free_only (numbers_from 0 n)) q f) (sym j_is) ∙ numbers_at 0 n f inside ∙ ap (λ (q : ℕ). Some q) (zero_plus f));
      });
      holds = λ f h.
          let low : f < n = omega (arith, h, many) in
          rw (get_or-replicate n f Free _ low, get_or-replicate n f blank _ low) (as_empty Free blank _ (λ e. cc) refl (λ e. cc));
    }
  where
    zero_plus : (f : ℕ) → 0 + f ≡ f
    zero_plus f = omega arith
