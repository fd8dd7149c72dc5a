-- What look-ups among the regions that `mm_vad` keeps are among those that are shown, and the region around a range.
use Rattle.std.proofs.Common.{◌≡◌, ℕ, Bool, true, false, cond, List, [], ◌∷◌, length, Option, Some, None, refl, sym, ap, ◌∙◌, subst, slice_set, option_map, suc, ◌+◌, arith, count_by, nat_lt, not, ◌<◌, ◌≤◌, nat_le, ◌&&◌}
use Rattle.std.specs.Prelude.{find, All, insert, remove}
use Rattle.std.proofs.lemmas.List.{length-map}
use Rattle.std.proofs.lemmas.List.Elements.{All-head, All-tail}
use Rattle.std.specs.List.{position_or_len}
use Rattle.std.proofs.lemmas.List.Sums.{sum_by-cons}
use Rattle.std.proofs.lemmas.Bool.{leb-true, eqb-true}
use Rattle.mm_types.specs.{Range, holds_page, lies_within, end_of, page_of, address_of}
use Rattle.mm_vad.specs.{Region, region_holds, region_at, change_region, region_range as kept_pages, LieApart, region_ranges as kept_ranges}
use Rattle.mm_vad.proofs.{change_here, change_later}
use Rattle.mm_vad.specs.Regions as vad
use Rattle.mm_world.specs.{RegionOf, pages_of, Found, one_later, region_with, first_where, ranges_of, add_region, region_around, LaidOut}
use Rattle.mm_world.proofs.{map-insert, map-remove, and-true, less, holds, inside, Within, found_stands, Inside}
use Rattle.mm_address_spaces.specs.{shown_row, region_of, shown_regions, both_where, surrounds, is_based}

-- what was found one place later
pub record Later {A : Type 0} (o : Option (Found A)) (r : Found A) : Type 0 where
  pub found : Found A
  pub is : o ≡ Some found
  pub same : one_later found ≡ r

pub later : {A : Type 0} (o : Option (Found A)) (r : Found A) → option_map one_later o ≡ Some r → Later o r
later None r e = cc
later (Some f) r e = record { found = f; is = refl; same = cc }

pub shown_pages : (g : Region) → length g.rows ≡ g.pages → pages_of (region_of g) ≡ kept_pages g
shown_pages g whole = ap (λ (n : ℕ). record { first = g.base.0; count = n }) (length-map g.rows (shown_row g.kind) ∙ whole)

-- the region in which a page lies, as it is kept
pub record Here (gs : List Region) (page : ℕ) (r : Found (RegionOf (Unit {0}))) : Type 0 where
  pub region : Region
  pub found : region_at gs page ≡ Some region
  pub is : region_of region ≡ r.thing
  pub changed : (change : Region → Region) → shown_regions (change_region change gs page) ≡ slice_set (shown_regions gs) r.place (region_of (change region))

here_first : (x : Region) (xs : List Region) (page : ℕ) → region_holds page x ≡ true → Here (x ∷ xs) page (record { place = 0; thing = region_of x })
here_first x xs page t = record {
  region = x;
  found = ap (λ (b : Bool). cond b (Some x) (find (region_holds page) xs)) t;
  is = refl;
  changed = λ change. ap shown_regions (change_here change page x xs t);
}

here_later : (x : Region) (xs : List Region) (page : ℕ) (r : Found (RegionOf (Unit {0}))) → region_holds page x ≡ false → Here xs page r → Here (x ∷ xs) page (one_later r)
here_later x xs page r f h = record {
  region = h.region;
  found = ap (λ (b : Bool). cond b (Some x) (find (region_holds page) xs)) f ∙ h.found;
  is = h.is;
  changed = λ change. ap shown_regions (change_later change page x xs f) ∙ ap (λ rs. region_of x ∷ rs) (h.changed change);
}

pub here : (gs : List Region) (page : ℕ) (r : Found (RegionOf (Unit {0}))) → All (λ g. length g.rows ≡ g.pages) gs → region_with (shown_regions gs) page ≡ Some r → Here gs page r
here [] page r a e = cc
here (x ∷ xs) page r a e =
    let held : holds_page (pages_of (region_of x)) page ≡ region_holds page x = ap (λ (p : Range). holds_page p page) (shown_pages x (All-head (λ (g : Region). length g.rows ≡ g.pages) x xs a)) in
    by_test (region_holds page x) refl (ap (λ (b : Bool). cond b (Some (record { place = 0; thing = region_of x })) (option_map one_later (region_with (shown_regions xs) page))) (sym held) ∙ e)
    (λ f is. here xs page f (All-tail (λ (g : Region). length g.rows ≡ g.pages) x xs a) is)
  where
    by_test : (b : Bool) → region_holds page x ≡ b → cond b (Some (record { place = 0; thing = region_of x })) (option_map one_later (region_with (shown_regions xs) page)) ≡ Some r → ((f : Found (RegionOf (Unit {0}))) → region_with (shown_regions xs) page ≡ Some f → Here xs page f) → Here (x ∷ xs) page r
    by_test true t k rest =
        let same : record { place = 0; thing = region_of x } ≡ r = cc in
        subst (Here (x ∷ xs) page) same (here_first x xs page t)
    by_test false f k rest =
        let l = later (region_with (shown_regions xs) page) r k in
        subst (Here (x ∷ xs) page) l.same (here_later x xs page l.found f (rest l.found l.is))

-- ---- what the regions of a `mm_vad::Space` say of the regions that are shown

abbrev pub Whole : List Region → Type 0
Whole rs = All (λ r. length r.rows ≡ r.pages) rs

pub whole_head : (r : Region) (rs : List Region) → Whole (r ∷ rs) → length r.rows ≡ r.pages
whole_head r rs w = All-head (λ (r : Region). length r.rows ≡ r.pages) r rs w

pub whole_tail : (r : Region) (rs : List Region) → Whole (r ∷ rs) → Whole rs
whole_tail r rs w = All-tail (λ (r : Region). length r.rows ≡ r.pages) r rs w

-- ---- pages

pub ranges_shown : (rs : List Region) → Whole rs → ranges_of (shown_regions rs) ≡ vad.region_ranges rs
ranges_shown [] w = refl
ranges_shown (r ∷ rs) w =
    ap (λ (x : Range). x ∷ ranges_of (shown_regions rs)) (shown_pages r (whole_head r rs w))
    ∙ ap (λ (xs : List Range). vad.region_range r ∷ xs) (ranges_shown rs (whole_tail r rs w))

-- ---- searches

-- a region, with its place
abbrev pub place_of : (Region → Bool) → List Region → Region → Found (RegionOf (Unit {0}))
place_of t rs r = record { place = position_or_len t rs; thing = region_of r }

at_later : (t : Region → Bool) (x : Region) (xs : List Region) (o : Option Region) → t x ≡ false → option_map one_later (option_map (place_of t xs) o) ≡ option_map (place_of t (x ∷ xs)) o
at_later t x xs None e = refl
at_later t x xs (Some r) e =
    let next : suc (position_or_len t xs) ≡ 1 + position_or_len t xs = omega arith in
    let later = ap (λ (b : Bool). cond (not b) (1 + position_or_len t xs) 0) e in
    ap (λ (n : ℕ). Some (let made : Found (RegionOf (Unit {0})) = record { place = n; thing = region_of r } in made)) (next ∙ sym later)

-- the first region that passes a test is the one that is found by a test that says the same
pub first_shown : (test : RegionOf (Unit {0}) → Bool) (t : Region → Bool) (rs : List Region) → Whole rs → ((r : Region) → length r.rows ≡ r.pages → test (region_of r) ≡ t r) → first_where test (shown_regions rs) ≡ option_map (place_of t rs) (find t rs)
first_shown test t [] w same = refl
first_shown test t (x ∷ xs) w same =
    let later = first_shown test t xs (whole_tail x xs w) same in
    let here = same x (whole_head x xs w) in
    ap (λ (b : Bool). cond b (Some (let made : Found (RegionOf (Unit {0})) = record { place = 0; thing = region_of x } in made)) (option_map one_later (first_where test (shown_regions xs)))) here
    ∙ elim (t x) as (λ b. t x ≡ b → cond b (Some (let made : Found (RegionOf (Unit {0})) = record { place = 0; thing = region_of x } in made)) (option_map one_later (first_where test (shown_regions xs))) ≡ option_map (place_of t (x ∷ xs)) (cond b (Some x) (find t xs))) [
      | true ↦ λ e. ap (λ (b : Bool). Some (let made : Found (RegionOf (Unit {0})) = record { place = cond (not b) (1 + position_or_len t xs) 0; thing = region_of x } in made)) (sym e)
      | false ↦ λ e. ap (option_map one_later) later ∙ at_later t x xs (find t xs) e
    ] refl

-- the region with a page
pub with_shown : (rs : List Region) (page : ℕ) → Whole rs → region_with (shown_regions rs) page ≡ option_map (place_of (vad.region_holds page) rs) (vad.region_at rs page)
with_shown rs page w = first_shown (λ r. holds_page (pages_of r) page) (vad.region_holds page) rs w (λ r k. ap (λ (x : Range). holds_page x page) (shown_pages r k))

-- ---- one region more, one less

below_shown : (base : ℕ) (rs : List Region) → count_by (λ r. nat_lt r.base base) (shown_regions rs) ≡ count_by (λ r. nat_lt r.base.0 base) rs
below_shown base [] = refl
below_shown base (r ∷ rs) =
    sum_by-cons (λ (x : RegionOf (Unit {0})). cond (nat_lt x.base base) 1 0) (region_of r) (shown_regions rs)
    ∙ ap (λ (n : ℕ). cond (nat_lt r.base.0 base) 1 0 + n) (below_shown base rs)
    ∙ sym (sum_by-cons (λ (x : Region). cond (nat_lt x.base.0 base) 1 0) r rs)

pub add_shown : (rs : List Region) (r : Region) → shown_regions (vad.add_region rs r) ≡ add_region (region_of r) (shown_regions rs)
add_shown rs r =
    map-insert region_of rs (count_by (λ (x : Region). nat_lt x.base.0 r.base.0) rs) r
    ∙ ap (λ (n : ℕ). insert (shown_regions rs) n (region_of r)) (sym (below_shown r.base.0 rs))

pub remove_shown : (rs : List Region) (base : ℕ) → shown_regions (vad.remove_region rs base) ≡ remove (shown_regions rs) (position_or_len (vad.begins_at base) rs)
remove_shown rs base = map-remove region_of rs (position_or_len (vad.begins_at base) rs)

-- ---- searches in regions that are laid out, and the region around a range, also after its rows are changed

-- what was found, where it passes one more test
abbrev pub kept_if : {A : Type 0} → (A → Bool) → Option (Found A) → Option (Found A)
kept_if t None = None
kept_if t (Some f) = cond (t f.thing) (Some f) None

-- what passes one more test was found
pub was_found : {A : Type 0} (t : A → Bool) (o : Option (Found A)) (r : Found A) → kept_if t o ≡ Some r → (o ≡ Some r) × (t r.thing ≡ true)
was_found t None r e = cc
was_found {A} t (Some f) r e =
    elim (t f.thing) as (λ b. t f.thing ≡ b → cond b (Some f) None ≡ Some r → (Some f ≡ Some r) × (t r.thing ≡ true)) [
      | true ↦ λ p k. (let same : f ≡ r = cc in (k, ap (λ (g : Found A). t g.thing) (sym same) ∙ p))
      | false ↦ λ p k. (cc)
    ] refl e

kept_later : {A : Type 0} (t : A → Bool) (o : Option (Found A)) → kept_if t (option_map one_later o) ≡ option_map one_later (kept_if t o)
kept_later t None = refl
kept_later t (Some f) = elim (t f.thing) as (λ b. cond b (Some (one_later f)) None ≡ option_map one_later (cond b (Some f) None)) [ true ↦ refl | false ↦ refl ]

pub holds_from : (r : Range) (page : ℕ) → holds_page r page ≡ true → r.first ≤ page
holds_from r page e = leb-true _ _ (and-true (nat_le r.first page) (nat_lt page (end_of r)) e).0

pub holds_below : (r : Range) (page : ℕ) → holds_page r page ≡ true → page < end_of r
holds_below r page e = less _ _ (and-true (nat_le r.first page) (nat_lt page (end_of r)) e).1

module _ {B : Type 0} where
  -- only a region that holds the page passes
  abbrev pub OnlyAt : ℕ → (RegionOf B → Bool) → Type 0
  OnlyAt page t = (r : RegionOf B) → 1 ≤ length r.rows → t r ≡ true → holds_page (pages_of r) page ≡ true

  -- the regions begin at `low` or later, each behind the end of the one before, with a page at least
  abbrev pub Rising : ℕ → List (RegionOf B) → Type 0
  Rising low [] = Unit {0}
  Rising low (r ∷ rs) = (low ≤ r.base) × (1 ≤ length r.rows) × Rising (end_of (pages_of r)) rs

  pub rising_laid : (from : ℕ) (rs : List (RegionOf B)) → LaidOut from rs → Rising from rs
  rising_laid from [] h = tt
  rising_laid from (r ∷ rs) h = (h.0.later, h.0.some, rising_laid (end_of (pages_of r)) rs h.1)

  abbrev first_one : RegionOf B → Found (RegionOf B)
  first_one x = record { place = 0; thing = x }

  none_behind : (t : RegionOf B → Bool) (page from : ℕ) (rs : List (RegionOf B)) → OnlyAt page t → Rising from rs → page < from → first_where t rs ≡ None
  none_behind t page from [] only h low = refl
  none_behind t page from (x ∷ xs) only h low =
      let later = none_behind t page (end_of (pages_of x)) xs only h.2 (omega (arith, low, h.0)) in
      elim (t x) as (λ b. t x ≡ b → cond b (Some (first_one x)) (option_map one_later (first_where t xs)) ≡ None) [
        | true ↦ λ e. absurd (omega (arith, low, h.0, holds_from (pages_of x) page (only x h.1 e)))
        | false ↦ λ e. ap (option_map one_later) later
      ] refl

  pub first_of_page : (t : RegionOf B → Bool) (page from : ℕ) (rs : List (RegionOf B)) → OnlyAt page t → Rising from rs → first_where t rs ≡ kept_if t (region_with rs page)
  first_of_page t page from [] only h = refl
  first_of_page t page from (x ∷ xs) only h = by_holds (holds_page (pages_of x) page) refl (first_of_page t page (end_of (pages_of x)) xs only h.2)
    where
      by_holds : (b : Bool) → holds_page (pages_of x) page ≡ b → first_where t xs ≡ kept_if t (region_with xs page) → cond (t x) (Some (first_one x)) (option_map one_later (first_where t xs)) ≡ kept_if t (cond b (Some (first_one x)) (option_map one_later (region_with xs page)))
      by_holds true e later =
          ap (λ o. cond (t x) (Some (first_one x)) (option_map one_later o))
          (none_behind t page (end_of (pages_of x)) xs only h.2 (holds_below (pages_of x) page e))
      by_holds false e later =
          elim (t x) as (λ b. t x ≡ b → cond b (Some (first_one x)) (option_map one_later (first_where t xs)) ≡ kept_if t (option_map one_later (region_with xs page))) [
            | true ↦ λ k. (let bad : true ≡ false = sym (only x h.1 k) ∙ e in cc)
            | false ↦ λ k. ap (option_map one_later) later ∙ sym (kept_later t (region_with xs page))
          ] refl

  -- the region with each page of a range is the one around the range
  pub with_around : (low : ℕ) (rs : List (RegionOf B)) (range : Range) (page : ℕ) (r : Found (RegionOf B)) → Rising low rs → region_around rs range ≡ Some r → Within range page → region_with rs page ≡ Some r
  with_around low rs range page r h e a =
      (was_found (λ x. lies_within range (pages_of x)) (region_with rs page) r
      (sym (first_of_page (λ x. lies_within range (pages_of x)) page low rs
      (λ x some t. let i = inside range (pages_of x) t in holds (pages_of x) page (omega (arith, a.low, i.low)) (omega (arith, a.high, i.high))) h) ∙ e)).0

-- ---- a second test beside

module _ (t : RegionOf (Unit {0}) → Bool) where
  pub both_around : (from : ℕ) (rs : List (RegionOf (Unit {0}))) (range : Range) → LaidOut from rs → 1 ≤ range.count → both_where t (surrounds range) rs ≡ kept_if (λ x. t x && surrounds range x) (region_with rs range.first)
  both_around from rs range h some =
      first_of_page (λ x. t x && surrounds range x) range.first from rs
      (λ r has e.
      let k = and-true (nat_le r.base range.first) (nat_le (end_of range) (end_of (pages_of r))) (and-true (t r) (surrounds range r) e).1 in
      holds (pages_of r) range.first (leb-true _ _ k.0) (omega (arith, leb-true _ _ k.1, some)))
      (rising_laid from rs h)

  pub both_based : (from : ℕ) (rs : List (RegionOf (Unit {0}))) (addr : ℕ) → LaidOut from rs → both_where t (is_based addr) rs ≡ kept_if (λ x. t x && is_based addr x) (region_with rs (page_of addr))
  both_based from rs addr h =
      first_of_page (λ x. t x && is_based addr x) (page_of addr) from rs
      (λ r has e.
      let k = eqb-true (address_of r.base) addr (and-true (t r) (is_based addr r) e).1 in
      holds (pages_of r) (page_of addr) (omega (arith, k)) (omega (arith, k, has)))
      (rising_laid from rs h)

-- ---- the region around a range, also after its rows are changed

module _ {B : Type 0} where
  abbrev at_first : RegionOf B → Found (RegionOf B)
  at_first x = record { place = 0; thing = x }

  pub is_around : (rs : List (RegionOf B)) (range : Range) (r : Found (RegionOf B)) → region_around rs range ≡ Some r → Inside range (pages_of r.thing)
  is_around rs range r e = inside range (pages_of r.thing) (found_stands _ rs r e).passes

  -- another region of the same pages in its place is around the range
  pub around_set : (rs : List (RegionOf B)) (range : Range) (r : Found (RegionOf B)) (new : RegionOf B) → region_around rs range ≡ Some r → new.base ≡ r.thing.base → length new.rows ≡ length r.thing.rows → region_around (slice_set rs r.place new) range ≡ Some (record { place = r.place; thing = new })
  around_set [] range r new e base rows = cc
  around_set (x ∷ rs) range r new e base rows = by_test (lies_within range (pages_of x)) refl e (λ f is same_base same_rows. around_set rs range f new is same_base same_rows)
    where
      by_test : (b : Bool) → lies_within range (pages_of x) ≡ b → cond b (Some (at_first x)) (option_map one_later (region_around rs range)) ≡ Some r → ((f : Found (RegionOf B)) → region_around rs range ≡ Some f → new.base ≡ f.thing.base → length new.rows ≡ length f.thing.rows → region_around (slice_set rs f.place new) range ≡ Some (record { place = f.place; thing = new })) → region_around (slice_set (x ∷ rs) r.place new) range ≡ Some (record { place = r.place; thing = new })
      by_test true t k rest =
          let same : at_first x ≡ r = cc in
          let pages : pages_of new ≡ pages_of r.thing = λ i. record { first = base i; count = rows i } in
          let held : lies_within range (pages_of new) ≡ true = ap (lies_within range) pages ∙ ap (λ (f : Found (RegionOf B)). lies_within range (pages_of f.thing)) (sym same) ∙ t in
          subst (λ (f : Found (RegionOf B)). region_around (slice_set (x ∷ rs) f.place new) range ≡ Some (record { place = f.place; thing = new })) same
          (ap (λ (b : Bool). cond b (Some (at_first new)) (option_map one_later (region_around rs range))) held)
      by_test false f k rest =
          let l = later (region_around rs range) r k in
          let again = rest l.found l.is (base ∙ ap (λ (f : Found (RegionOf B)). f.thing.base) (sym l.same)) (rows ∙ ap (λ (f : Found (RegionOf B)). length f.thing.rows) (sym l.same)) in
          subst (λ (f : Found (RegionOf B)). region_around (slice_set (x ∷ rs) f.place new) range ≡ Some (record { place = f.place; thing = new })) l.same
          (ap (λ (b : Bool). cond b (Some (at_first x)) (option_map one_later (region_around (slice_set rs l.found.place new) range))) f
          ∙ ap (option_map one_later) again)

-- the regions that are kept rise where they are shown
pub rising_shown : (low : ℕ) (gs : List Region) → All (λ g. length g.rows ≡ g.pages) gs → LieApart low (kept_ranges gs) → Rising low (shown_regions gs)
rising_shown low [] a h = tt
rising_shown low (x ∷ xs) a h =
    let whole : length x.rows ≡ x.pages = All-head (λ (g : Region). length g.rows ≡ g.pages) x xs a in
    let pages = shown_pages x whole in
    let ends : end_of (pages_of (region_of x)) ≡ x.base.0 + x.pages = ap end_of pages in (
      h.0.from,
      omega (arith, h.0.some, ap (λ (r : Range). r.count) pages),
      subst (λ (n : ℕ). Rising n (shown_regions xs)) (sym ends) (rising_shown (x.base.0 + x.pages) xs (All-tail (λ (g : Region). length g.rows ≡ g.pages) x xs a) h.1),
    )
