-- The blocks of a new file, written one after another.
use Rattle.std.proofs.Common.{◌≡◌, ◌≢◌, ◌≤◌, ◌⊎◌, ℕ, ◌+◌, ◌<◌, Bool, true, false, List, [], ◌∷◌, ◌++◌, length, Some, refl, sym, ap, ◌∙◌, subst, inl, inr, arith}
use Rattle.std.specs.Prelude.{slice_get, slice_set}
use Rattle.std.proofs.Math.ListN.{length-set}
use Rattle.mm_types.specs.declared.devices.Direction.TheVariants as way
use Rattle.mm_types.proofs.{same_or_not, get_set_same, get_set_other}
use Rattle.mm_world.specs.{Tally, Page}
use Rattle.std.specs.Prelude.{Result, Ok, Err, OnErr, is_ok}
use Rattle.mm_devices.specs.{DeviceOf, Serves, CallFailed}
use Rattle.mm_devices.proofs.{serves_failed, all_served_then, all_served_one}
use Rattle.mm_store.specs.{with_outcome, tallied}
use Rattle.mm_store.proofs.{tallied_then}
use Rattle.mm_unpaged.specs.{FilePage, WroteDevice, Stored}

-- ---- what stands in the blocks

module _ (first i : ℕ) (pages : List FilePage) (old mid new : List Page) (page : Page) where
  pub stored_more : Stored first i pages old mid → new ≡ slice_set mid (first + i) page → first + i < length mid → ((p : FilePage) → slice_get pages i ≡ Some p → p.page ≡ page) → Stored first (i + 1) pages old new
  stored_more s e near is = record {
    long = ap length e ∙ length-set mid (first + i) page ∙ s.long;
    done = done;
    others = others;
  }
    where
      done : (k : ℕ) (p : FilePage) → k < i + 1 → slice_get pages k ≡ Some p → slice_get new (first + k) ≡ Some p.page
      done k p h at = elim (same_or_not k i) [
        | inl last ↦
            ap (λ ps. slice_get ps (first + k)) e ∙ ap (λ (n : ℕ). slice_get (slice_set mid (first + i) page) (first + n)) last
            ∙ get_set_same mid (first + i) page near ∙ ap Some (sym (is p (subst (λ (n : ℕ). slice_get pages n ≡ Some p) last at)))
        | inr other ↦
            let apart : first + k ≢ first + i = λ same. other (omega (arith, same)) in
            ap (λ ps. slice_get ps (first + k)) e ∙ get_set_other mid (first + i) (first + k) page apart
            ∙ s.done k p (omega (arith, h, other)) at
      ]

      others : (block : ℕ) → (block < first) ⊎ (first + (i + 1) ≤ block) → slice_get new block ≡ slice_get old block
      others block h =
          let apart : block ≢ first + i = λ same. (elim h [ inl low ↦ omega (arith, low, same) | inr high ↦ omega (arith, high, same) ]) in
          ap (λ ps. slice_get ps block) e ∙ get_set_other mid (first + i) block page apart
          ∙ s.others block (elim h [ inl low ↦ inl low | inr high ↦ inr (omega (arith, high)) ])

-- ---- which calls were made

-- a write that did not succeed
pub failed_write : {T E : Type 0} (r : Result T E) (block : ℕ) (named : Bool) (a b : DeviceOf) → Serves (record { way = way.Write; block = block; succeeded = is_ok r; named = named }) a b → OnErr r (CallFailed a b)
failed_write (Ok v) block named a b h = tt
failed_write (Err e) block named a b h = serves_failed _ a b h refl

pub wrote_one : (a b : DeviceOf) (t u : Tally) (block : ℕ) (ok named : Bool) → Serves (record { way = way.Write; block = block; succeeded = ok; named = named }) a b → u ≡ with_outcome ok t → WroteDevice a b t u
wrote_one a b t u block ok named s e = record {
  calls = record { way = way.Write; block = block; succeeded = ok; named = named } ∷ [];
  served = all_served_one _ a b s;
  counted = e;
  none_read = λ r. refl;
}

pub wrote_then : (a b c : DeviceOf) (t u v : Tally) → WroteDevice a b t u → WroteDevice b c u v → WroteDevice a c t v
wrote_then a b c t u v p q = record {
  calls = p.calls ++ q.calls;
  served = all_served_then p.calls q.calls a b c p.served q.served;
  counted = q.counted ∙ ap (tallied way.Write q.calls) p.counted ∙ sym (tallied_then way.Write p.calls q.calls t);
  none_read = λ r. tallied_then way.Read p.calls q.calls r ∙ ap (tallied way.Read q.calls) (p.none_read r) ∙ q.none_read r;
}

-- ---- how many failed

pub none_failed : (t u : Tally) (ok : Bool) → ok ≡ true → u ≡ with_outcome ok t → u.failed ≡ t.failed
none_failed t u true is e = ap (λ (x : Tally). x.failed) e
none_failed t u false is e = cc
