-- What a look-up of a page finds in the regions that are kept.
use Rattle.std.proofs.Common.{◌≡◌, ℕ, zero, suc, ◌+◌, ◌<◌, ◌≤◌, Bool, true, false, cond, List, [], ◌∷◌, length, map, Option, Some, None, option_map, is_some, refl, ap, ◌∙◌, subst, arith, slice_get, nat_le, nat_lt, ◌&&◌, ◌||◌, not}
use Rattle.std.specs.Prelude.{find, All, ◌==◌}
use Rattle.std.specs.List.{list_all}
use Rattle.std.proofs.lemmas.Bool.{leb-true, le-leb, eqb-true, and_parts, and_right}
use Rattle.std.proofs.lemmas.Option.{slice_get-map}
use Rattle.std.proofs.lemmas.List.Elements.{All-head, All-tail}
use Rattle.mm_types.specs.{Kind, ViewAccess, Range, holds_page, lies_within, end_of, page_of, first_user_page}
use Rattle.mm_types.specs.declared.views.Kind.TheVariants as kind
use Rattle.mm_types.specs.declared.views.ViewAccess.TheVariants as view
use Rattle.mm_vad.specs.{FollowsFrom, Row, Region}
use Rattle.mm_vad.specs.Regions as vad
use Rattle.mm_vad.proofs.{row_there, each_region}
use Rattle.mm_world.specs.{RegionOf, RowOf, pages_of, Found, region_with, is_private, private_at, private_around, view_at, view_around, is_one_of}
use Rattle.mm_world.specs.{private_protections, IsSpace, RowsFit, RowFits, held_protections}
use Rattle.mm_world.proofs.{found_stands, each-at, less}
use Rattle.mm_address_spaces.specs.{shown_row, region_of, shown_regions, info_of, found_info, IsKeptSpace, IsRegionAt, IsAround, NoneAround, IsBased}
use Rattle.mm_address_spaces.specs.{NoneBased, both_where, found_if, surrounds, is_based}
use Rattle.mm_address_spaces.proofs.Around.{shown_pages}
use Rattle.mm_address_spaces.proofs.Around.{place_of, with_shown}
use Rattle.mm_address_spaces.proofs.Around.{kept_if, both_around, both_based}

abbrev Regions : Type 0
Regions = List (RegionOf (Unit {0}))

-- what is true of each region is true of the one that is found, and it passes the test
pub found_has : (P : Region → Type 0) (t : Region → Bool) (rs : List Region) (r : Region) → All P rs → find t rs ≡ Some r → (t r ≡ true) × P r
found_has P t [] r w e = cc
found_has P t (x ∷ xs) r w e =
    elim (t x) as (λ b. t x ≡ b → cond b (Some x) (find t xs) ≡ Some r → (t r ≡ true) × P r) [
      | true ↦ λ p k. (
          let same : x ≡ r = cc in
          subst (λ (y : Region). (t y ≡ true) × P y) same (p, All-head P x xs w))
      | false ↦ λ p k. found_has P t xs r (All-tail P x xs w) k
    ] refl e

-- the region that is found at a page
pub is_at : (vs : List Region) (page : ℕ) (r : Region) → IsKeptSpace vs → vad.region_at vs page ≡ Some r → IsRegionAt (shown_regions vs) page r
is_at vs page r k e =
    let there = with_shown vs page k.whole.whole ∙ ap (option_map (place_of (vad.region_holds page) vs)) e in
    let stands = found_stands (λ x. holds_page (pages_of x) page) (shown_regions vs) (place_of (vad.region_holds page) vs r) there in
    let row = row_there vs page r k.whole.whole e in
    record {
      found = place_of (vad.region_holds page) vs r;
      there = there;
      is_shown = refl;
      rows = (found_has (λ (x : Region). length x.rows ≡ x.pages) (vad.region_holds page) vs r k.whole.whole e).1;
      flags = (found_has (λ (x : Region). vad.HasFlags x.pages x) (vad.region_holds page) vs r k.whole.flags e).1;
      low = row.0;
      high = row.1;
      within = (found_has (λ x. FollowsFrom first_user_page (vad.region_range x)) (vad.region_holds page) vs r (each_region vs k.whole) e).1.within;
      fit = each-at RowsFit (shown_regions vs) _ (region_of r) k.sound.rows stands.there;
    }

pub none_at : (vs : List Region) (page : ℕ) → IsKeptSpace vs → vad.region_at vs page ≡ None → region_with (shown_regions vs) page ≡ None
none_at vs page k e = with_shown vs page k.whole.whole ∙ ap (option_map (place_of (vad.region_holds page) vs)) e

-- ---- its rows

pub has_row : {A : Type 0} (xs : List A) (i : ℕ) → i < length xs → (x : A) × (slice_get xs i ≡ Some x)
has_row [] i h = absurd (omega (arith, h))
has_row (x ∷ xs) zero h = (x, refl)
has_row (x ∷ xs) (suc i) h = has_row xs i (omega (arith, h))

low_among : (xs : List ℕ) (n : ℕ) → list_all (λ a. nat_lt a 0x100) xs ≡ true → is_one_of xs n ≡ true → n < 0x100
low_among [] n low e = cc
low_among (a ∷ xs) n low e =
    let k = and_parts (nat_lt a 0x100) (list_all (λ a. nat_lt a 0x100) xs) low in
    elim (a == n) as (λ b. (a == n) ≡ b → (b || is_one_of xs n) ≡ true → n < 0x100) [
      | true ↦ λ is h. omega (arith, less a 0x100 k.0, eqb-true a n is)
      | false ↦ λ is h. low_among xs n k.1 h
    ] refl e

pub private_low : (n : ℕ) → is_one_of private_protections n ≡ true → n < 0x100
private_low n e = low_among private_protections n refl e

held_low : (access : ViewAccess) (own : Option (Unit {0})) (marked : Bool) (n : ℕ) → is_one_of (held_protections access own marked) n ≡ true → n < 0x100
held_low access None true n e = low_among (1 ∷ 2 ∷ 8 ∷ []) n refl e
held_low access (Some b) true n e = low_among (1 ∷ 2 ∷ 4 ∷ []) n refl e
held_low view.Read own false n e = low_among (1 ∷ 2 ∷ []) n refl e
held_low view.Write own false n e = low_among (1 ∷ 2 ∷ 4 ∷ []) n refl e
held_low view.Copy own false n e = cc

pub fit_low : (k : Kind) (row : RowOf (Unit {0})) → RowFits k row → row.prot < 0x100
fit_low kind.Private row h = by_own row.own refl
  where
    by_own : (o : Option (Unit {0})) → row.own ≡ o → row.prot < 0x100
    by_own None e = let is : row.prot ≡ 0 = ap (λ (r : RowOf (Unit {0})). r.prot) (h.reserved e) in omega (arith, is)
    by_own (Some u) e = private_low row.prot (h.committed (ap is_some e))
fit_low (kind.View v) row h = held_low v.access row.own row.marked row.prot h.held

-- the protection of a row of a region is a byte, without its guard
pub row_low : (rs : Regions) (page i : ℕ) (r : Region) (row : Row) → IsRegionAt rs page r → slice_get r.rows i ≡ Some row → row.prot.0 < 0x100
row_low rs page i r row at e =
    let there : slice_get (map (shown_row r.kind) r.rows) i ≡ Some (shown_row r.kind row) = slice_get-map (shown_row r.kind) r.rows i ∙ ap (option_map (shown_row r.kind)) e in
    fit_low r.kind (shown_row r.kind row) (each-at (RowFits r.kind) (map (shown_row r.kind) r.rows) _ _ at.fit there)

-- ---- what lies around a range, and what has a base

pub long : (a b : ℕ) → b < a → nat_le a b ≡ false
long a b h =
    elim (nat_le a b) as (λ z. nat_le a b ≡ z → z ≡ false) [
      | true ↦ λ e. absurd (omega (arith, h, leb-true a b e))
      | false ↦ λ e. refl
    ] refl

both-left : (a b : Bool) → b ≡ true → (a && b) ≡ a
both-left true b e = e
both-left false b e = refl

module _ (rs : Regions) (sound : IsSpace rs) where
  surrounded : (range : Range) (r : Region) (at : IsRegionAt rs range.first r) → surrounds range at.found.thing ≡ nat_le (end_of range) (r.base.0 + r.pages)
  surrounded range r at =
      ap (surrounds range) at.is_shown
      ∙ ap (λ (x : Range). lies_within range x) (shown_pages r at.rows)
      ∙ ap (λ (b : Bool). b && nat_le (end_of range) (r.base.0 + r.pages)) (le-leb r.base.0 range.first at.low)

  -- a search that only the region with one page can pass, whatever else is asked
  module _ (test : RegionOf (Unit {0}) → Bool) (page : ℕ) (one : (t : RegionOf (Unit {0}) → Bool) → both_where t test rs ≡ kept_if (λ x. t x && test x) (region_with rs page)) where
    found_at : (f : Found (RegionOf (Unit {0}))) → region_with rs page ≡ Some f → test f.thing ≡ true → (t : RegionOf (Unit {0}) → Bool) → both_where t test rs ≡ found_if (t f.thing) f
    found_at f there passes t = one t ∙ ap (kept_if (λ x. t x && test x)) there ∙ ap (λ b. found_if b f) (both-left (t f.thing) (test f.thing) passes)

    fails_at : (f : Found (RegionOf (Unit {0}))) → region_with rs page ≡ Some f → test f.thing ≡ false → (t : RegionOf (Unit {0}) → Bool) → both_where t test rs ≡ None
    fails_at f there fails t = one t ∙ ap (kept_if (λ x. t x && test x)) there ∙ ap (λ b. found_if b f) (and_right (t f.thing) (test f.thing) fails)

    none_there : region_with rs page ≡ None → (t : RegionOf (Unit {0}) → Bool) → both_where t test rs ≡ None
    none_there e t = one t ∙ ap (kept_if (λ x. t x && test x)) e

  module _ (range : Range) (some : 1 ≤ range.count) where
    in_range : (t : RegionOf (Unit {0}) → Bool) → both_where t (surrounds range) rs ≡ kept_if (λ x. t x && surrounds range x) (region_with rs range.first)
    in_range t = both_around t first_user_page rs range sound.laid_out some

    pub around_some : (r : Region) → IsRegionAt rs range.first r → end_of range ≤ r.base.0 + r.pages → IsAround rs range r
    around_some r at high =
        let only = found_at (surrounds range) range.first in_range at.found at.there (surrounded range r at ∙ le-leb (end_of range) (r.base.0 + r.pages) high) in
        record { at = at; high = omega (arith, high, at.low, at.rows); around = only (λ x. true); only = only }

    pub around_short : (r : Region) → IsRegionAt rs range.first r → nat_le (end_of range) (r.base.0 + r.pages) ≡ false → NoneAround rs range
    around_short r at short =
        let only = fails_at (surrounds range) range.first in_range at.found at.there (surrounded range r at ∙ short) in
        record { around = only (λ x. true); only = only }

    pub around_none : region_with rs range.first ≡ None → NoneAround rs range
    around_none e = let only = none_there (surrounds range) range.first in_range e in record { around = only (λ x. true); only = only }

  module _ (addr : ℕ) where
    at_base : (t : RegionOf (Unit {0}) → Bool) → both_where t (is_based addr) rs ≡ kept_if (λ x. t x && is_based addr x) (region_with rs (page_of addr))
    at_base t = both_based t first_user_page rs addr sound.laid_out

    pub based_some : (r : Region) (at : IsRegionAt rs (page_of addr) r) → is_based addr (region_of r) ≡ true → IsBased rs addr r
    based_some r at e = record { at = at; only = found_at (is_based addr) (page_of addr) at_base at.found at.there (ap (is_based addr) at.is_shown ∙ e) }

    pub based_other : (r : Region) (at : IsRegionAt rs (page_of addr) r) → is_based addr (region_of r) ≡ false → NoneBased rs addr
    based_other r at e = record { only = fails_at (is_based addr) (page_of addr) at_base at.found at.there (ap (is_based addr) at.is_shown ∙ e) }

    pub based_none : region_with rs (page_of addr) ≡ None → NoneBased rs addr
    based_none e = record { only = none_there (is_based addr) (page_of addr) at_base e }

-- ---- what is told of them

told_by : {C : Type 0} (f : RegionOf (Unit {0}) → C) (t : RegionOf (Unit {0}) → Bool) (x : Found (RegionOf (Unit {0}))) (r : Region) → x.thing ≡ region_of r → option_map (λ (y : Found (RegionOf (Unit {0}))). f y.thing) (found_if (t x.thing) x) ≡ cond (t (region_of r)) (Some (f (region_of r))) None
told_by f t x r e = by_test (t x.thing) ∙ (λ i. cond (t (e i)) (Some (f (e i))) None)
  where
    by_test : (b : Bool) → option_map (λ (y : Found (RegionOf (Unit {0}))). f y.thing) (found_if b x) ≡ cond b (Some (f x.thing)) None
    by_test true = refl
    by_test false = refl

module _ (rs : Regions) (range : Range) (r : Region) (h : IsAround rs range r) where
  pub is_in_private : is_some (private_around rs range) ≡ is_private r.kind
  is_in_private =
      ap is_some (h.only (λ x. is_private x.kind))
      ∙ ap (λ (x : RegionOf (Unit {0})). is_some (found_if (is_private x.kind) h.at.found)) h.at.is_shown
      ∙ elim (is_private r.kind) as (λ b. is_some (found_if b h.at.found) ≡ b) [ true ↦ refl | false ↦ refl ]

  pub view_around_told : option_map found_info (view_around rs range) ≡ cond (not (is_private r.kind)) (Some (info_of (region_of r))) None
  view_around_told = ap (option_map found_info) (h.only (λ x. not (is_private x.kind))) ∙ told_by info_of (λ x. not (is_private x.kind)) h.at.found r h.at.is_shown

module _ (rs : Regions) (addr : ℕ) (r : Region) (h : IsBased rs addr r) where
  pub view_at_told : option_map found_info (view_at rs addr) ≡ cond (not (is_private r.kind)) (Some (info_of (region_of r))) None
  view_at_told = ap (option_map found_info) (h.only (λ x. not (is_private x.kind))) ∙ told_by info_of (λ x. not (is_private x.kind)) h.at.found r h.at.is_shown

  pub private_at_told : option_map (λ (x : Found (RegionOf (Unit {0}))). pages_of x.thing) (private_at rs addr) ≡ cond (is_private r.kind) (Some (pages_of (region_of r))) None
  private_at_told = ap (option_map (λ (x : Found (RegionOf (Unit {0}))). pages_of x.thing)) (h.only (λ x. is_private x.kind)) ∙ told_by pages_of (λ x. is_private x.kind) h.at.found r h.at.is_shown
