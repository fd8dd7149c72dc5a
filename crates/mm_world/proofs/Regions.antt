-- Regions stay laid out when one is added, removed, or changed in its rows.
use Rattle.std.proofs.Common.{◌≡◌, ℕ, zero, suc, ◌+◌, ◌*◌, ◌%◌, ◌≤◌, ◌<◌, Bool, true, false, Option, Some, None, List, [], ◌∷◌, refl, sym, ◌∙◌, ap, subst, cond, arith, length, set, slice_get, ◌&&◌, not, count_by, option_map, nat_lt, ◌⊎◌, inl, inr, nat_le}
use Rattle.std.specs.Prelude.{insert, remove, ◌==◌, option_and_then}
use Rattle.std.specs.List.{list_any}
use Rattle.std.specs.Option.{IfSome}
use Rattle.std.proofs.lemmas.Option.{IfSome_then}
use Rattle.std.proofs.lemmas.Bool.{leb-false, le-leb, not-true}
use Rattle.std.proofs.lemmas.List.Sums.{sum_by-cons}
use Rattle.mm_types.specs.{Range, end_of, meets, is_free, are_user_pages, end_of_user_pages, granule_pages, granule_range, lowest_gap, least_from}
use Rattle.mm_types.specs.{holds_page, first_user_page}
use Rattle.mm_world.specs.{RegionOf, pages_of, is_private, add_region, ranges_of, placed, change_flags, FlagsFit, RegionFits, LaidOut, WorldOf}
use Rattle.mm_world.specs.{ProcessOf, process_of, Found, one_later, region_with}
use Rattle.mm_types.proofs.{both, not_true}
pub use Rattle.mm_types.proofs.{less, parts as and-true}
pub use Rattle.std.proofs.lemmas.Bool.{or_parts as or-false}
use Rattle.mm_world.proofs.Ranges.{within, holds_not, apart, apart_too}
use Rattle.mm_world.specs.WellFormed.{WellFormed}

pub not_less : (a b : ℕ) → nat_lt a b ≡ false → b ≤ a
not_less a b e = let h = leb-false (suc a) b e in omega (arith, h)

-- ranges with a page each that do not meet: one lies behind the other
pub record Apart (a b : Range) : Type 0 where
  pub before : b.first < a.first → end_of b ≤ a.first
  pub behind : a.first ≤ b.first → end_of a ≤ b.first

apart_by : (a b : Range) (x y : Bool) → nat_lt a.first (end_of b) ≡ x → nat_lt b.first (end_of a) ≡ y → (x && y) ≡ false → 1 ≤ a.count → 1 ≤ b.count → Apart a b
apart_by a b true true ex ey e some_a some_b = cc
apart_by a b true false ex ey e some_a some_b =
    let low : end_of a ≤ b.first = not_less b.first (end_of a) ey in
    record { before = λ h. absurd (omega (arith, low, h, some_a)); behind = λ h. low }
apart_by a b false y ex ey e some_a some_b =
    let low : end_of b ≤ a.first = not_less a.first (end_of b) ex in
    record { before = λ h. low; behind = λ h. absurd (omega (arith, low, h, some_b)) }

module _ {B : Type 0} where
  pub laid_lower : (from from' : ℕ) (rs : List (RegionOf B)) → from' ≤ from → LaidOut from rs → LaidOut from' rs
  laid_lower from from' [] low h = omega (arith, low, h)
  laid_lower from from' (r ∷ rs) low h = (record { later = omega (arith, low, h.0.later); on_granule = h.0.on_granule; some = h.0.some; flags = h.0.flags }, h.1)

  abbrev is_below : ℕ → RegionOf B → Bool
  is_below bound r = nat_lt r.base bound

  abbrev one_below : ℕ → RegionOf B → ℕ
  one_below bound r = cond (is_below bound r) 1 0

  count_more : (bound : ℕ) (r : RegionOf B) (rs : List (RegionOf B)) (b : Bool) → is_below bound r ≡ b → count_by (is_below bound) (r ∷ rs) ≡ cond b 1 0 + count_by (is_below bound) rs
  count_more bound r rs b e =
      let whole : count_by (is_below bound) (r ∷ rs) ≡ cond (is_below bound r) 1 0 + count_by (is_below bound) rs = sum_by-cons (one_below bound) r rs in
      subst (λ b. count_by (is_below bound) (r ∷ rs) ≡ cond b 1 0 + count_by (is_below bound) rs) e whole

  none_below_by : (bound from : ℕ) (r : RegionOf B) (rs : List (RegionOf B)) (b : Bool) → is_below bound r ≡ b → bound ≤ r.base → count_by (is_below bound) rs ≡ 0 → count_by (is_below bound) (r ∷ rs) ≡ 0
  none_below_by bound from r rs true e low h = absurd (omega (arith, less r.base bound e, low))
  none_below_by bound from r rs false e low h = count_more bound r rs false e ∙ ap (λ (n : ℕ). 0 + n) h

  none_below : (bound from : ℕ) (rs : List (RegionOf B)) → bound ≤ from → LaidOut from rs → count_by (is_below bound) rs ≡ 0
  none_below bound from [] low h = refl
  none_below bound from (r ∷ rs) low h =
      none_below_by bound from r rs _ refl (omega (arith, low, h.0.later)) (none_below bound (end_of (pages_of r)) rs (omega (arith, low, h.0.later)) h.1)

  pub laid_add : (from : ℕ) (new : RegionOf B) (rs : List (RegionOf B)) → RegionFits from new → end_of (pages_of new) ≤ end_of_user_pages → LaidOut from rs → list_any (meets (pages_of new)) (ranges_of rs) ≡ false → LaidOut from (add_region new rs)
  laid_add from new [] fits inside h free = (fits, inside)
  laid_add from new (r ∷ rs) fits inside h free = by_test (λ fits'. laid_add (end_of (pages_of r)) new rs fits' inside h.1 no_meets.1) (is_below new.base r) refl
    where
      no_meets : (meets (pages_of new) (pages_of r) ≡ false) × (list_any (meets (pages_of new)) (ranges_of rs) ≡ false)
      no_meets = or-false (meets (pages_of new) (pages_of r)) (list_any (meets (pages_of new)) (ranges_of rs)) free

      apart : Apart (pages_of new) (pages_of r)
      apart = apart_by (pages_of new) (pages_of r) _ _ refl refl no_meets.0 fits.some h.0.some

      k : ℕ
      k = count_by (is_below new.base) rs

      by_test : (RegionFits (end_of (pages_of r)) new → LaidOut (end_of (pages_of r)) (insert rs k new)) → (b : Bool) → is_below new.base r ≡ b → LaidOut from (insert (r ∷ rs) (count_by (is_below new.base) (r ∷ rs)) new)
      by_test later true e =
          let fits' : RegionFits (end_of (pages_of r)) new = record { later = apart.before (less r.base new.base e); on_granule = fits.on_granule; some = fits.some; flags = fits.flags } in
          let whole : LaidOut from (insert (r ∷ rs) (suc k) new) = (h.0, later fits') in
          subst (λ n. LaidOut from (insert (r ∷ rs) n new)) (let same : suc k ≡ count_by (is_below new.base) (r ∷ rs) = omega (arith, count_more new.base r rs true e) in same) whole
      by_test later false e =
          let above : new.base ≤ r.base = not_less r.base new.base e in
          let none : k ≡ 0 = none_below new.base (end_of (pages_of r)) rs (omega (arith, above)) h.1 in
          let next : RegionFits (end_of (pages_of new)) r = record { later = apart.behind above; on_granule = h.0.on_granule; some = h.0.some; flags = h.0.flags } in
          let whole : LaidOut from (insert (r ∷ rs) 0 new) = (fits, (next, h.1)) in
          subst (λ n. LaidOut from (insert (r ∷ rs) n new)) (let same : 0 ≡ count_by (is_below new.base) (r ∷ rs) = omega (arith, count_more new.base r rs false e, none) in same) whole

  pub laid_remove : (from : ℕ) (rs : List (RegionOf B)) (i : ℕ) → LaidOut from rs → LaidOut from (remove rs i)
  laid_remove from [] zero h = h
  laid_remove from [] (suc i) h = h
  laid_remove from (r ∷ rs) zero h = laid_lower (end_of (pages_of r)) from rs (omega (arith, h.0.later)) h.1
  laid_remove from (r ∷ rs) (suc i) h = (h.0, laid_remove (end_of (pages_of r)) rs i h.1)

  -- ---- the flags of a region that is changed

  pub flags_stay : (r new : RegionOf B) → new.watched ≡ r.watched → length new.rows ≡ length r.rows → new.kind ≡ r.kind → FlagsFit r → FlagsFit new
  flags_stay r new watched rows same fit =
      subst (λ (o : Option (List Bool)). IfSome o (λ ws. (length ws ≡ length new.rows) × (is_private new.kind ≡ true))) (sym watched)
      (IfSome_then r.watched {P = λ ws. (length ws ≡ length r.rows) × (is_private r.kind ≡ true)} {Q = λ ws. (length ws ≡ length new.rows) × (is_private new.kind ≡ true)} fit
      (λ ws h. (h.0 ∙ sym rows, ap is_private same ∙ h.1)))

  pub no_flags : (r : RegionOf B) → r.watched ≡ None → FlagsFit r
  no_flags r none = subst (λ (o : Option (List Bool)). IfSome o (λ ws. (length ws ≡ length r.rows) × (is_private r.kind ≡ true))) (sym none) tt

  pub flags_changed : (change : List Bool → List Bool) (r : RegionOf B) → ((flags : List Bool) → length (change flags) ≡ length flags) → FlagsFit r → FlagsFit (change_flags change r)
  flags_changed change r long fit = by_watched r.watched fit
    where
      by_watched : (o : Option (List Bool)) → IfSome o (λ ws. (length ws ≡ length r.rows) × (is_private r.kind ≡ true)) → IfSome (option_map change o) (λ ws. (length ws ≡ length r.rows) × (is_private r.kind ≡ true))
      by_watched None had = tt
      by_watched (Some old) had = (long old ∙ had.0, had.1)

  -- a region with the same pages in the place of one
  pub laid_set : (from : ℕ) (rs : List (RegionOf B)) (i : ℕ) (r new : RegionOf B) → slice_get rs i ≡ Some r → new.base ≡ r.base → length new.rows ≡ length r.rows → (FlagsFit r → FlagsFit new) → LaidOut from rs → LaidOut from (set rs i new)
  laid_set from [] i r new there base rows flags h = cc
  laid_set from (x ∷ rs) zero r new there base rows flags h =
      let same : x ≡ r = cc in
      let base' : new.base ≡ x.base = base ∙ ap (λ (r : RegionOf B). r.base) (sym same) in
      let rows' : length new.rows ≡ length x.rows = rows ∙ ap (λ (r : RegionOf B). length r.rows) (sym same) in (
        record { later = omega (arith, base', h.0.later); on_granule = ap (λ (n : ℕ). n % granule_pages) base' ∙ h.0.on_granule; some = omega (arith, rows', h.0.some); flags = flags (subst FlagsFit same h.0.flags) },
        laid_lower (end_of (pages_of x)) (end_of (pages_of new)) rs (omega (arith, base', rows')) h.1,
      )
  laid_set from (x ∷ rs) (suc i) r new there base rows flags h = (h.0, laid_set (end_of (pages_of x)) rs i r new there base rows flags h.1)

  -- a region among them
  pub laid_at : (from : ℕ) (rs : List (RegionOf B)) (i : ℕ) (r : RegionOf B) → LaidOut from rs → slice_get rs i ≡ Some r → RegionFits from r
  laid_at from [] i r h e = cc
  laid_at from (x ∷ rs) zero r h e = subst (λ r. RegionFits from r) (let same : x ≡ r = cc in same) h.0
  laid_at from (x ∷ rs) (suc i) r h e =
      let k = laid_at (end_of (pages_of x)) rs i r h.1 e in
      record { later = omega (arith, h.0.later, k.later); on_granule = k.on_granule; some = k.some; flags = k.flags }

-- ---- where a new region is placed

pub least_passes : (test : ℕ → Bool) (count start g : ℕ) → least_from test count start ≡ Some g → test g ≡ true
unfolding least_from
least_passes test zero start g e = cc
least_passes test (suc count) start g e = by_test (least_passes test count (start + 1) g) (test start) refl e
  where
    by_test : (least_from test count (start + 1) ≡ Some g → test g ≡ true) → (b : Bool) → test start ≡ b → cond b (Some start) (least_from test count (start + 1)) ≡ Some g → test g ≡ true
    by_test later true here e = ap test (let same : g ≡ start = cc in same) ∙ here
    by_test later false here e = later e

pub record IsPlaced (taken : List Range) (range : Range) : Type 0 where
  pub on_granule : range.first % granule_pages ≡ 0
  pub user : are_user_pages range ≡ true
  pub free : list_any (meets range) taken ≡ false

pub free_of : (taken : List Range) (range : Range) → range.first % granule_pages ≡ 0 → is_free taken range ≡ true → IsPlaced taken range
free_of taken range granule e =
    let h = and-true (are_user_pages range) (not (list_any (meets range) taken)) e in
    record { on_granule = granule; user = h.0; free = not-true (list_any (meets range) taken) h.1 }

pub record PlacedAt (taken : List Range) (wanted : Range) (count : ℕ) (range : Range) : Type 0 where
  pub placed : IsPlaced taken range
  pub size : (range.count ≡ count) ⊎ (range.count ≡ wanted.count)

at_gap : (taken : List Range) (wanted : Range) (count : ℕ) (range : Range) (g : Option ℕ) → ((n : ℕ) → g ≡ Some n → is_free taken (granule_range count n) ≡ true) → option_map (λ first. record { first = first; count = count }) (option_map (λ g. g * granule_pages) g) ≡ Some range → PlacedAt taken wanted count range
at_gap taken wanted count range None passes e = cc
at_gap taken wanted count range (Some n) passes e =
    let found : Range = record { first = n * granule_pages; count = count } in
    let same : found ≡ range = cc in
    subst (λ range. PlacedAt taken wanted count range) same (record { placed = free_of taken found (omega arith) (passes n refl); size = inl refl })

at_wanted : (taken : List Range) (wanted : Range) (count : ℕ) (range : Range) (b : Bool) → is_free taken wanted ≡ b → wanted.first % granule_pages ≡ 0 → cond b (Some wanted) None ≡ Some range → PlacedAt taken wanted count range
at_wanted taken wanted count range true free granule e =
    subst (λ range. PlacedAt taken wanted count range) (let same : wanted ≡ range = cc in same) (record { placed = free_of taken wanted granule free; size = inr refl })
at_wanted taken wanted count range false free granule e = cc

pub placed_is : (taken : List Range) (addr : ℕ) (wanted : Range) (count : ℕ) (range : Range) → wanted.first % granule_pages ≡ 0 → placed taken addr wanted count ≡ Some range → PlacedAt taken wanted count range
placed_is taken addr wanted count range granule e = by_addr (addr == 0) e
  where
    by_addr : (b : Bool) → cond b (option_map (λ first. record { first = first; count = count }) (lowest_gap taken count)) (cond (is_free taken wanted) (Some wanted) None) ≡ Some range → PlacedAt taken wanted count range
    by_addr true e = at_gap taken wanted count range _ (λ n is. least_passes (λ n. is_free taken (granule_range count n)) _ 0 n is) e
    by_addr false e = at_wanted taken wanted count range _ refl granule e

-- ---- what it means that regions are laid out: no page lies in two, and each lies on a granule within the user pages

module _ {B : Type 0} where
  one_place : (from page i j : ℕ) (rs : List (RegionOf B)) (a b : RegionOf B) → LaidOut from rs → slice_get rs i ≡ Some a → slice_get rs j ≡ Some b → holds_page (pages_of a) page ≡ true → holds_page (pages_of b) page ≡ true → i ≡ j
  one_place from page zero (suc j) (r ∷ rs) a b h at_i at_j in_a in_b =
      let same : r ≡ a = cc in
      let later = (laid_at (end_of (pages_of r)) rs j b h.1 at_j).later in
      let ends : end_of (pages_of r) ≡ end_of (pages_of a) = ap (λ (x : RegionOf B). end_of (pages_of x)) same in
      absurd (omega (arith, (within (pages_of a) page in_a).high, (within (pages_of b) page in_b).low, later, ends))
  one_place from page (suc i) zero (r ∷ rs) a b h at_i at_j in_a in_b =
      let same : r ≡ b = cc in
      let later = (laid_at (end_of (pages_of r)) rs i a h.1 at_i).later in
      let ends : end_of (pages_of r) ≡ end_of (pages_of b) = ap (λ (x : RegionOf B). end_of (pages_of x)) same in
      absurd (omega (arith, (within (pages_of b) page in_b).high, (within (pages_of a) page in_a).low, later, ends))
  one_place from page (suc i) (suc j) (r ∷ rs) a b h at_i at_j in_a in_b =
      ap suc (one_place (end_of (pages_of r)) page i j rs a b h.1 at_i at_j in_a in_b)
  one_place from page _ _ _ a b h at_i at_j in_a in_b = cc

  ends_low : (from i : ℕ) (rs : List (RegionOf B)) (r : RegionOf B) → LaidOut from rs → slice_get rs i ≡ Some r → end_of (pages_of r) ≤ end_of_user_pages
  ends_low from i [] r h e = cc
  ends_low from zero (x ∷ []) r h e = let same : x ≡ r = cc in omega (arith, h.1, ap (λ (x : RegionOf B). end_of (pages_of x)) same)
  ends_low from zero (x ∷ y ∷ rs) r h e =
      let same : x ≡ r = cc in
      omega (arith, ends_low (end_of (pages_of x)) zero (y ∷ rs) y h.1 refl, h.1.0.later, ap (λ (x : RegionOf B). end_of (pages_of x)) same)
  ends_low from (suc i) (x ∷ rs) r h e = ends_low (end_of (pages_of x)) i rs r h.1 e

  pub same_place : (w : WorldOf B) (pid page i j : ℕ) (p : ProcessOf B) (a b : RegionOf B) → WellFormed w → process_of w pid ≡ Some p → slice_get p.regions i ≡ Some a → slice_get p.regions j ≡ Some b → holds_page (pages_of a) page ≡ true → holds_page (pages_of b) page ≡ true → i ≡ j
  same_place w pid page i j p a b h lives = one_place first_user_page page i j p.regions a b (h.spaces pid p lives).laid_out

  pub is_placed : (w : WorldOf B) (pid i : ℕ) (p : ProcessOf B) (r : RegionOf B) → WellFormed w → process_of w pid ≡ Some p → slice_get p.regions i ≡ Some r → (r.base % granule_pages ≡ 0) × (are_user_pages (pages_of r) ≡ true)
  is_placed w pid i p r h lives at =
      let laid = (h.spaces pid p lives).laid_out in
      let fits = laid_at first_user_page p.regions i r laid at in
      (fits.on_granule, both (nat_le first_user_page r.base) (nat_le (end_of (pages_of r)) end_of_user_pages) (le-leb _ _ fits.later) (le-leb _ _ (ends_low first_user_page i p.regions r laid at)))

-- ---- what the region that holds a page has for it, after a change of the regions

-- two tests that do not both pass, in either order
swap : {X : Type 0} (a b : Bool) (p q o : X) → (a ≡ true → b ≡ false) → cond a p (cond b q o) ≡ cond b q (cond a p o)
swap true true p q o never = let bad : true ≡ false = never refl in cc
swap _ _ p q o never = cc

unless : {X : Type 0} (b : Bool) (p o : Option X) → (b ≡ true → o ≡ None) → o ≡ cond b None (cond b p o)
unless true p o none = none refl
unless false p o none = refl

abbrev held : {B : Type 0} → RegionOf B → ℕ → Bool
held r page = holds_page (pages_of r) page

module _ {B : Type 0} where
  -- a region behind another has none of its pages
  pub behind : (from i page : ℕ) (x r : RegionOf B) (rs : List (RegionOf B)) → LaidOut from (x ∷ rs) → slice_get rs i ≡ Some r → holds_page (pages_of x) page ≡ true → holds_page (pages_of r) page ≡ false
  behind from i page x r rs h at e =
      let fits = laid_at (end_of (pages_of x)) rs i r h.1 at in
      holds_not (pages_of r) page (λ w. absurd (omega (arith, (within (pages_of x) page e).high, w.low, fits.later)))

  pub record SamePages (r new : RegionOf B) : Type 0 where
    pub base : new.base ≡ r.base
    pub rows : length new.rows ≡ length r.rows

  pub same_holds : (r new : RegionOf B) (page : ℕ) → SamePages r new → holds_page (pages_of new) page ≡ holds_page (pages_of r) page
  same_holds r new page same i = holds_page (record { first = same.base i; count = same.rows i }) page

-- what the region that holds a page has for it
abbrev pub has : {B X : Type 0} → (RegionOf B → Option X) → List (RegionOf B) → ℕ → Option X
has f rs page = option_and_then (λ (r : Found (RegionOf _)). f r.thing) (region_with rs page)

module _ {B X : Type 0} (f : RegionOf B → Option X) where
  pub has-cons : (r : RegionOf B) (rs : List (RegionOf B)) (page : ℕ) → has f (r ∷ rs) page ≡ cond (holds_page (pages_of r) page) (f r) (has f rs page)
  has-cons r rs page = by_test (holds_page (pages_of r) page) (region_with rs page)
    where
      by_test : (b : Bool) (o : Option (Found (RegionOf B))) → option_and_then (λ (r : Found (RegionOf B)). f r.thing) (cond b (Some (record { place = 0; thing = r })) (option_map one_later o)) ≡ cond b (f r) (option_and_then (λ (r : Found (RegionOf B)). f r.thing) o)
      by_test true o = refl
      by_test false None = refl
      by_test false (Some x) = refl

  later : (r : RegionOf B) (rs : List (RegionOf B)) (page : ℕ) → holds_page (pages_of r) page ≡ false → has f (r ∷ rs) page ≡ has f rs page
  later r rs page e = has-cons r rs page ∙ ap (λ b. cond b (f r) (has f rs page)) e

  -- regions that are laid out from behind a page on have nothing for it
  has_behind : (from page : ℕ) (rs : List (RegionOf B)) → LaidOut from rs → page < from → has f rs page ≡ None
  has_behind from page [] h low = refl
  has_behind from page (r ∷ rs) h low =
      later r rs page (holds_not (pages_of r) page (λ w. absurd (omega (arith, w.low, h.0.later, low))))
      ∙ has_behind (end_of (pages_of r)) page rs h.1 (omega (arith, h.0.later, low))

  -- nor have those that do not meet a range, for its pages
  pub has_free : (new : RegionOf B) (rs : List (RegionOf B)) (page : ℕ) → list_any (meets (pages_of new)) (ranges_of rs) ≡ false → holds_page (pages_of new) page ≡ true → has f rs page ≡ None
  has_free new [] page free e = refl
  has_free new (r ∷ rs) page free e =
      let no_meets = or-false (meets (pages_of new) (pages_of r)) (list_any (meets (pages_of new)) (ranges_of rs)) free in
      later r rs page (apart_too (pages_of new) (pages_of r) page no_meets.0 e) ∙ has_free new rs page no_meets.1 e

  -- a region in front of both lists
  in_front : (x : RegionOf B) (rs ss : List (RegionOf B)) (page : ℕ) (b : Bool) (new : Option X) → (holds_page (pages_of x) page ≡ true → b ≡ false) → has f ss page ≡ cond b new (has f rs page) → has f (x ∷ ss) page ≡ cond b new (has f (x ∷ rs) page)
  in_front x rs ss page b new never rest =
      has-cons x ss page ∙ ap (λ o. cond (held x page) (f x) o) rest ∙ swap (held x page) b (f x) new (has f rs page) never
      ∙ ap (λ o. cond b new o) (sym (has-cons x rs page))

  pub has_added : (new : RegionOf B) (rs : List (RegionOf B)) (i page : ℕ) → list_any (meets (pages_of new)) (ranges_of rs) ≡ false → has f (insert rs i new) page ≡ cond (holds_page (pages_of new) page) (f new) (has f rs page)
  has_added new rs zero page free = has-cons new rs page
  has_added new [] (suc i) page free = has-cons new [] page
  has_added new (r ∷ rs) (suc i) page free =
      let no_meets = or-false (meets (pages_of new) (pages_of r)) (list_any (meets (pages_of new)) (ranges_of rs)) free in
      in_front r rs (insert rs i new) page (held new page) (f new) (apart (pages_of new) (pages_of r) page no_meets.0) (has_added new rs i page no_meets.1)

  pub has_removed : (from i page : ℕ) (r : RegionOf B) (rs : List (RegionOf B)) → LaidOut from rs → slice_get rs i ≡ Some r → has f (remove rs i) page ≡ cond (holds_page (pages_of r) page) None (has f rs page)
  has_removed from i page r [] h at = cc
  has_removed from zero page r (x ∷ rs) h at =
      let same : x ≡ r = cc in
      unless (held x page) (f x) (has f rs page) (λ e. has_behind (end_of (pages_of x)) page rs h.1 (within (pages_of x) page e).high)
      ∙ ap (λ o. cond (held x page) None o) (sym (has-cons x rs page)) ∙ ap (λ (r : RegionOf B). cond (held r page) None (has f (x ∷ rs) page)) same
  has_removed from (suc i) page r (x ∷ rs) h at =
      in_front x rs (remove rs i) page (held r page) None (behind from i page x r rs h at) (has_removed (end_of (pages_of x)) i page r rs h.1 at)

  -- the page's bytes are those of the region that holds it
  pub has_at : (from i page : ℕ) (rs : List (RegionOf B)) (r : RegionOf B) → LaidOut from rs → slice_get rs i ≡ Some r → holds_page (pages_of r) page ≡ true → has f rs page ≡ f r
  has_at from i page [] r h at e = cc
  has_at from zero page (x ∷ rs) r h at e =
      let same : r ≡ x = cc in
      ap (λ (x : RegionOf B). has f (x ∷ rs) page) (sym same) ∙ has-cons r rs page ∙ ap (λ b. cond b (f r) (has f rs page)) e
  has_at from (suc i) page (x ∷ rs) r h at e =
      later x rs page (not_true (holds_page (pages_of x) page) (λ t. let bad : true ≡ false = sym e ∙ behind from i page x r rs h at t in cc))
      ∙ has_at (end_of (pages_of x)) i page rs r h.1 at e

  pub has_set : (from i page : ℕ) (rs : List (RegionOf B)) (r new : RegionOf B) → LaidOut from rs → slice_get rs i ≡ Some r → SamePages r new → has f (set rs i new) page ≡ cond (holds_page (pages_of r) page) (f new) (has f rs page)
  has_set from i page [] r new h at same = cc
  has_set from zero page (x ∷ rs) r new h at same =
      let is : r ≡ x = cc in
      has-cons new rs page ∙ ap (λ b. cond b (f new) (has f rs page)) (same_holds r new page same)
      ∙ (elim (held r page) as (λ b. cond b (f new) (has f rs page) ≡ cond b (f new) (cond b (f r) (has f rs page))) [ true ↦ refl | false ↦ refl ])
      ∙ ap (λ o. cond (held r page) (f new) o) (sym (has-cons r rs page) ∙ ap (λ (x : RegionOf B). has f (x ∷ rs) page) is)
  has_set from (suc i) page (x ∷ rs) r new h at same =
      in_front x rs (set rs i new) page (held r page) (f new) (behind from i page x r rs h at) (has_set (end_of (pages_of x)) i page rs r new h.1 at same)

  -- what holds of the old and the new where they are the same, and of the region that changed
  module _ (R : Option X → Option X → Type 0) (same : (o : Option X) → R o o) where
    by_test : (b : Bool) (o p n : Option X) → n ≡ cond b p o → (b ≡ true → R o p) → R o n
    by_test true o p n e here = subst (λ n. R o n) (sym e) (here refl)
    by_test false o p n e here = subst (λ n. R o n) (sym e) (same o)

    pub added_keeps : (new : RegionOf B) (rs : List (RegionOf B)) (i page : ℕ) → list_any (meets (pages_of new)) (ranges_of rs) ≡ false → R None (f new) → R (has f rs page) (has f (insert rs i new) page)
    added_keeps new rs i page free here =
        by_test (held new page) (has f rs page) (f new) _ (has_added new rs i page free) (λ e. subst (λ o. R o (f new)) (sym (has_free new rs page free e)) here)

    pub removed_keeps : (from i page : ℕ) (r : RegionOf B) (rs : List (RegionOf B)) → LaidOut from rs → slice_get rs i ≡ Some r → ((o : Option X) → R o None) → R (has f rs page) (has f (remove rs i) page)
    removed_keeps from i page r rs h at none = by_test (held r page) (has f rs page) None _ (has_removed from i page r rs h at) (λ e. none (has f rs page))

    pub set_keeps : (from i page : ℕ) (rs : List (RegionOf B)) (r new : RegionOf B) → LaidOut from rs → slice_get rs i ≡ Some r → SamePages r new → R (f r) (f new) → R (has f rs page) (has f (set rs i new) page)
    set_keeps from i page rs r new h at pages here =
        by_test (held r page) (has f rs page) (f new) _ (has_set from i page rs r new h at pages) (λ e. subst (λ o. R o (f new)) (sym (has_at from i page rs r h at e)) here)
