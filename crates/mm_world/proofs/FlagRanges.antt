-- A list of flags, a range of which changed, place by place.
use Rattle.std.proofs.Common.{◌≡◌, ◌≢◌, ℕ, zero, suc, ◌+◌, ◌-◌, ◌≤◌, ◌<◌, Bool, true, false, Option, Some, None, List, [], ◌∷◌, refl, sym, ◌∙◌, ap, cond, arith, option_map, slice_get, map, nat_lt}
use Rattle.std.specs.Prelude.{◌==◌, ◌||◌}
use Rattle.std.specs.List.{list_any}
use Rattle.std.specs.Cmp.{unsigned_Decides}
pub use Rattle.std.proofs.lemmas.Bool.{eqb-true as same_page, eq-eqb as equal}
use Rattle.mm_types.specs.{address_of, page_of}
use Rattle.mm_world.specs.{change_range, unwritten, Each}
use Rattle.mm_world.proofs.Regions.{less, not_less}

module _ {A : Type 0} (change : A → A) where
  of_none : (first count i : ℕ) → slice_get (change_range change first count []) i ≡ None
  of_none zero zero i = refl
  of_none zero (suc count) i = refl
  of_none (suc first) zero i = refl
  of_none (suc first) (suc count) i = refl

  pub got_before : (first count : ℕ) (xs : List A) (i : ℕ) → i < first → slice_get (change_range change first count xs) i ≡ slice_get xs i
  got_before first count [] i low = of_none first count i
  got_before zero count (x ∷ xs) i low = absurd (omega (arith, low))
  got_before (suc first) count (x ∷ xs) zero low = refl
  got_before (suc first) count (x ∷ xs) (suc i) low = got_before first count xs i (omega (arith, low))

  pub got_within : (first count : ℕ) (xs : List A) (i : ℕ) → first ≤ i → i < first + count → slice_get (change_range change first count xs) i ≡ option_map change (slice_get xs i)
  got_within first count [] i low high = of_none first count i
  got_within (suc first) count (x ∷ xs) zero low high = absurd (omega (arith, low))
  got_within (suc first) count (x ∷ xs) (suc i) low high = got_within first count xs i (omega (arith, low)) (omega (arith, high))
  got_within zero zero (x ∷ xs) i low high = absurd (omega (arith, high))
  got_within zero (suc count) (x ∷ xs) zero low high = refl
  got_within zero (suc count) (x ∷ xs) (suc i) low high = got_within zero count xs i (omega arith) (omega (arith, high))

  pub got_behind : (first count : ℕ) (xs : List A) (i : ℕ) → first + count ≤ i → slice_get (change_range change first count xs) i ≡ slice_get xs i
  got_behind first count [] i low = of_none first count i
  got_behind (suc first) count (x ∷ xs) zero low = absurd (omega (arith, low))
  got_behind (suc first) count (x ∷ xs) (suc i) low = got_behind first count xs i (omega (arith, low))
  got_behind zero zero (x ∷ xs) i low = refl
  got_behind zero (suc count) (x ∷ xs) zero low = absurd (omega (arith, low))
  got_behind zero (suc count) (x ∷ xs) (suc i) low = got_behind zero count xs i (omega (arith, low))

-- ---- pages that are unwritten one by one

pub page_of-address_of : (page : ℕ) → page_of (address_of page) ≡ page
page_of-address_of page = omega arith

pub any_address : (page : ℕ) (pages : List ℕ) → list_any (λ q. page_of q == page) (map address_of pages) ≡ list_any (λ q. q == page) pages
any_address page [] = refl
any_address page (q ∷ pages) =
    ap (λ (n : ℕ). (n == page) || list_any (λ q. page_of q == page) (map address_of pages)) (page_of-address_of q)
    ∙ ap (λ (b : Bool). (q == page) || b) (any_address page pages)

-- a flag, unwritten where the test holds
abbrev pub cleared : Bool → Option Bool → Option Bool
cleared clears flag = option_map (λ was. cond clears false was) flag

pub not_cleared : (o : Option Bool) → o ≡ cleared false o
not_cleared None = refl
not_cleared (Some x) = refl

cleared_twice : (a b : Bool) (o : Option Bool) → cleared b (cleared a o) ≡ cleared (a || b) o
cleared_twice a b None = refl
cleared_twice true true (Some x) = refl
cleared_twice _ _ (Some x) = cc

one_cleared : (base page q : ℕ) (ws : List Bool) (t : Bool) → (q == page) ≡ t → base ≤ page → base ≤ q → slice_get (change_range (λ was. false) (q - base) 1 ws) (page - base) ≡ cleared t (slice_get ws (page - base))
one_cleared base page q ws true e low from =
    let same = same_page q page e in
    got_within (λ was. false) (q - base) 1 ws (page - base) (omega (arith, same)) (omega (arith, same))
one_cleared base page q ws false e low from =
    let other : q ≢ page = λ same. (let bad : true ≡ false = sym ((unsigned_Decides q page).1 same) ∙ e in cc) in
    by_side (nat_lt (page - base) (q - base)) refl other ∙ not_cleared (slice_get ws (page - base))
  where
    by_side : (t : Bool) → nat_lt (page - base) (q - base) ≡ t → q ≢ page → slice_get (change_range (λ was. false) (q - base) 1 ws) (page - base) ≡ slice_get ws (page - base)
    by_side true t other = got_before (λ was. false) (q - base) 1 ws (page - base) (less (page - base) (q - base) t)
    by_side false t other =
        got_behind (λ was. false) (q - base) 1 ws (page - base) (omega (arith, not_less (page - base) (q - base) t, other, low, from))

pub got_unwritten : (base page : ℕ) (pages : List ℕ) (ws : List Bool) → base ≤ page → Each (λ q. base ≤ q) pages → slice_get (unwritten base pages ws) (page - base) ≡ cleared (list_any (λ q. q == page) pages) (slice_get ws (page - base))
got_unwritten base page [] ws low from = not_cleared (slice_get ws (page - base))
got_unwritten base page (q ∷ pages) ws low from =
    got_unwritten base page pages (change_range (λ was. false) (q - base) 1 ws) low from.1
    ∙ ap (λ (o : Option Bool). cleared (list_any (λ q. q == page) pages) o) (one_cleared base page q ws (q == page) refl low from.0)
    ∙ cleared_twice (q == page) (list_any (λ q. q == page) pages) (slice_get ws (page - base))
