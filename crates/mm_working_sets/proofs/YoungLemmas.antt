-- No page is older than a number: what a change of the ages leaves of that, and what it tells of the page that goes first.
use Rattle.std.proofs.Common.{◌≡◌, ℕ, ◌+◌, ◌<◌, ◌≤◌, min, Option, Some, None, refl, sym, ap, ◌∙◌, inl, inr, arith}
use Rattle.std.specs.Prelude.{option_map}
use Rattle.std.specs.Ordering.{nat_cmp}
use Rattle.std.specs.FinMap as finite
use Rattle.std.specs.FinMap.{FinMap}
use Rattle.mm_types.specs.{Vpn}
use Rattle.mm_working_sets.specs.{older, AgesBy, NoneOlder, GoesFirst, IsBelow}
use Rattle.mm_working_sets.proofs.MapLemmas.{put, kept}

pub young_empty : (ages : FinMap nat_cmp ℕ) → ages ≡ finite.empty → NoneOlder 0 ages
young_empty ages is = record {
  known = omega arith;
  young = λ v age e. (let bad : None ≡ Some age = sym (ap (λ m. finite.get m v) is ∙ finite.get-empty nat_cmp v) ∙ e in cc);
}

module _ (most : ℕ) (old new : FinMap nat_cmp ℕ) (is : NoneOlder most old) where
  pub young_insert : (k : ℕ) → new ≡ finite.insert old k 0 → NoneOlder most new
  young_insert k e = record {
    known = is.known;
    young = λ v age held. elim (put old k 0 v age (sym (ap (λ m. finite.get m v) e) ∙ held)) [
      | inl here ↦ omega (arith, here.1)
      | inr other ↦ is.young v age other.1
    ];
  }

  pub young_remove : (k : ℕ) → new ≡ finite.remove old k → NoneOlder most new
  young_remove k e = record {
    known = is.known;
    young = λ v age held. is.young v age (kept old k v age (sym (ap (λ m. finite.get m v) e) ∙ held)).1;
  }

  pub young_older : (more : ℕ) → more ≡ min (most + 1) 7 → AgesBy older old new → NoneOlder more new
  young_older more e ages = record {
    known = omega (arith, e);
    young = λ v age held. by v age (finite.get old v) refl (sym (ages v) ∙ held);
  } where
    by : (v age : ℕ) (o : Option ℕ) → finite.get old v ≡ o → option_map older o ≡ Some age → age ≤ more
    by v age None f h = cc
    by v age (Some b) f h =
        let aged : min (b + 1) 7 ≡ age = cc in
        omega (arith, aged, e, is.young v b f)

-- where no age is above a limit, the first of those below it is the first of all
pub first_of_all : (ages : ℕ → Option ℕ) (limit : ℕ) → limit ≤ 8 → ((w b : ℕ) → ages w ≡ Some b → b < limit) → (r : Option Vpn) → GoesFirst ages (IsBelow limit) r → GoesFirst ages (IsBelow 8) r
first_of_all ages limit few low None none = λ w b held below. none w b held (low w b held)
first_of_all ages limit few low (Some x) is = record {
  age = is.age;
  held = is.held;
  one = omega (arith, few, is.one);
  first = λ w b held below. is.first w b held (low w b held);
}
