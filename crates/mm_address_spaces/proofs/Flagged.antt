-- Watched regions among those that are kept, their flags changed, and their written pages in rising order.
use Rattle.std.proofs.Common.{◌≡◌, ℕ, zero, suc, ◌+◌, ◌-◌, ◌*◌, ◌<◌, ◌≤◌, Bool, true, false, cond, List, [], ◌∷◌, ◌++◌, length, get_or, map, take, drop, refl, sym, ap, ◌∙◌, arith, append_assoc, append-nil, add-zero, Option, Some, None, is_some, subst, slice_set, ◌&&◌}
use Rattle.std.proofs.lemmas.List.{length-take, length-drop, get_or-take, get_or-drop, drop-drop, drop-take, take_all, length-map}
use Rattle.std.specs.Prelude.{IsSomeAnd, IfSome, option_map, unwrap_or}
use Rattle.mm_types.specs.{address_of, page_of, Range, holds_page, lies_within, first_user_page}
use Rattle.mm_types.proofs.{parts, some_found}
use Rattle.mm_bits.specs.{IsLowestFrom, NoneWithin}
use Rattle.mm_bits.proofs.{none_before}
use Rattle.mm_vad.specs.{bit_flag, LieAmong, Region}
use Rattle.mm_vad.specs.Regions as vad
use Rattle.mm_world.proofs.{page_of-address_of, found_stands, flags_changed, inside, Inside, length-change_range, space_set, length-unwritten}
use Rattle.mm_world.specs.{written_from, RegionOf, pages_of, Found, region_with, change_range, change_flags, mark_written, written_in, unwritten}
use Rattle.mm_world.specs.{watched_around, IsSpace}
use Rattle.mm_address_spaces.specs.{shown_row, region_of, shown_regions, IsKeptSpace, IsAround, found_if, surrounds}
use Rattle.mm_address_spaces.proofs.Around.{here}
use Rattle.mm_address_spaces.proofs.Around.{both_around, was_found}
use Rattle.mm_address_spaces.proofs.Kept.{found_has}
use Rattle.mm_address_spaces.proofs.RowsKept.{Same}

no_page : (page : ℕ) (bits : List Bool) → ((i : ℕ) → i < length bits → get_or bits i false ≡ false) → written_from page bits ≡ []
no_page page [] none = refl
no_page page (b ∷ bits) none =
    ap (λ (x : Bool). cond x (page ∷ written_from (page + 1) bits) (written_from (page + 1) bits)) (none 0 (omega arith))
    ∙ no_page (page + 1) bits (λ i h. none (suc i) (omega arith))

first_page : (page : ℕ) (bits : List Bool) (i : ℕ) → i < length bits → get_or bits i false ≡ true → ((k : ℕ) → k < i → get_or bits k false ≡ false) → written_from page bits ≡ (page + i) ∷ written_from (page + i + 1) (drop (suc i) bits)
first_page page [] i h e before = absurd (omega arith)
first_page page (b ∷ bits) zero h e before =
    ap (λ (x : Bool). cond x (page ∷ written_from (page + 1) bits) (written_from (page + 1) bits)) e
    ∙ ap (λ (p : ℕ). p ∷ written_from (p + 1) bits) (sym (add-zero page))
first_page page (b ∷ bits) (suc i) h e before =
    let same : page + 1 + i ≡ page + suc i = omega arith in
    ap (λ (x : Bool). cond x (page ∷ written_from (page + 1) bits) (written_from (page + 1) bits)) (before 0 (omega arith))
    ∙ first_page (page + 1) bits i (omega arith) e (λ k below. before (suc k) (omega arith))
    ∙ ap (λ (p : ℕ). p ∷ written_from (p + 1) (drop (suc i) bits)) same

-- the written pages from place `at` on and below `end`
abbrev pub written_between : List Bool → ℕ → ℕ → ℕ → List ℕ
written_between written base at end = written_from (base + at) (take (end - at) (drop at written))

module _ (written : List Bool) (base at end : ℕ) (within : end ≤ length written) where
  piece_at : (k : ℕ) → k < end - at → get_or (take (end - at) (drop at written)) k false ≡ get_or written (at + k) false
  piece_at k h = get_or-take (end - at) (drop at written) k false h ∙ get_or-drop at written k false

  length-piece : length (take (end - at) (drop at written)) ≡ end - at
  length-piece = omega (arith, length-take (end - at) (drop at written), length-drop at written)

  pub none_between : NoneWithin (bit_flag written) at end → written_between written base at end ≡ []
  none_between none = no_page (base + at) (take (end - at) (drop at written)) (λ i h. piece_at i (omega (arith, length-piece)) ∙ none.inside (at + i) (omega arith) (omega (arith, length-piece)))

  pub next_between : (i : ℕ) → i < end → IsLowestFrom (bit_flag written) at i → written_between written base at end ≡ (base + i) ∷ written_between written base (i + 1) end
  next_between i within_end next =
      let k = i - at in
      let there : at + k ≡ i = omega (arith, next.low) in
      let fewer : end - at ≡ suc k + (end - (i + 1)) = omega (arith, next.low, within_end) in
      let later : at + suc k ≡ i + 1 = omega (arith, next.low) in
      let place : base + at + k ≡ base + i = omega (arith, next.low) in
      let place' : base + at + k + 1 ≡ base + (i + 1) = omega (arith, next.low) in
      let behind : drop (suc k) (take (end - at) (drop at written)) ≡ take (end - (i + 1)) (drop (i + 1) written) =
      ap (λ (n : ℕ). drop (suc k) (take n (drop at written))) fewer
      ∙ drop-take (suc k) (end - (i + 1)) (drop at written)
      ∙ ap (take (end - (i + 1))) (drop-drop (suc k) at written ∙ ap (λ (n : ℕ). drop n written) later) in
      first_page (base + at) (take (end - at) (drop at written)) k (omega (arith, length-piece, next.low, within_end))
      (piece_at k (omega (arith, next.low, within_end)) ∙ ap (bit_flag written) there ∙ next.held)
      (λ j h. piece_at j (omega (arith, next.low, within_end)) ∙ (none_before (bit_flag written) at i next).inside (at + j) (omega arith) (omega arith))
      ∙ ap (λ (p : ℕ). p ∷ written_from (base + at + k + 1) (drop (suc k) (take (end - at) (drop at written)))) place
      ∙ ap (λ (p : ℕ). (base + i) ∷ written_from p (drop (suc k) (take (end - at) (drop at written)))) place'
      ∙ ap (λ (bits : List Bool). (base + i) ∷ written_from (base + (i + 1)) bits) behind

-- what is told so far and what is left to tell
pub told_more : (pages whole rest later : List ℕ) (page count k : ℕ) → k < count → rest ≡ page ∷ later → pages ++ map address_of (take (count - k) rest) ≡ whole → (pages ++ (page * 4096) ∷ []) ++ map address_of (take (count - (k + 1)) later) ≡ whole
told_more pages whole rest later page count k h e told =
    let less : count - k ≡ suc (count - (k + 1)) = omega arith in
    append_assoc pages ((page * 4096) ∷ []) (map address_of (take (count - (k + 1)) later))
    ∙ ap (λ (ps : List ℕ). pages ++ map address_of ps) (sym (ap (λ (n : ℕ). take n (page ∷ later)) less))
    ∙ ap (λ (ps : List ℕ). pages ++ map address_of (take (count - k) ps)) (sym e)
    ∙ told

pub told_all : (pages whole rest : List ℕ) (left : ℕ) → rest ≡ [] → pages ++ map address_of (take left rest) ≡ whole → pages ≡ whole
told_all pages whole rest left none told =
    sym (append-nil pages)
    ∙ ap (λ (ps : List ℕ). pages ++ map address_of ps) (sym (ap (take left) none ∙ take_all left [] (omega arith)))
    ∙ told

pub told_enough : (pages whole rest : List ℕ) (left : ℕ) → left ≡ 0 → pages ++ map address_of (take left rest) ≡ whole → pages ≡ whole
told_enough pages whole rest left none told =
    sym (append-nil pages) ∙ ap (λ (n : ℕ). pages ++ map address_of (take n rest)) (sym none) ∙ told

-- the written pages among some from `first` on, by places in the region
pub in_places : (flags : List Bool) (base first n most : ℕ) → base ≤ first → take most (written_between flags base (first - base) (first - base + n)) ≡ take most (written_from first (take n (drop (first - base) flags)))
in_places flags base first n most h =
    let at = first - base in
    let page : base + at ≡ first = omega arith in
    let many : at + n - at ≡ n = omega arith in
    ap (λ (p : ℕ). take most (written_from p (take (at + n - at) (drop at flags)))) page
    ∙ ap (λ (k : ℕ). take most (written_from first (take k (drop at flags)))) many

-- ---- where they lie

pub pages_again : (pages : List ℕ) → map page_of (map address_of pages) ≡ pages
pages_again [] = refl
pages_again (page ∷ pages) = ap (λ (p : ℕ). p ∷ map page_of (map address_of pages)) (page_of-address_of page) ∙ ap (λ (ps : List ℕ). page ∷ ps) (pages_again pages)

written_among : (first n page : ℕ) (bits : List Bool) → first ≤ page → page + length bits ≤ first + n → LieAmong first n (map address_of (written_from page bits))
written_among first n page [] low high = tt
written_among first n page (true ∷ bits) low high =
    (omega (arith, low, page_of-address_of page), omega (arith, high, page_of-address_of page), written_among first n (page + 1) bits (omega (arith, low)) (omega (arith, high)))
written_among first n page (false ∷ bits) low high = written_among first n (page + 1) bits (omega (arith, low)) (omega (arith, high))

take_among : (first n k : ℕ) (pages : List ℕ) → LieAmong first n (map address_of pages) → LieAmong first n (map address_of (take k pages))
take_among first n (suc k) (page ∷ pages) h = (h.0, h.1, take_among first n k pages h.2)
take_among first n _ _ h = tt

-- the pages that are told of a range lie in its region
pub told_among : (base pages first n most : ℕ) (bits : List Bool) → base ≤ first → first - base + n ≤ pages → LieAmong base pages (map address_of (take most (written_from first (take n bits))))
told_among base pages first n most bits low high =
    take_among base pages most (written_from first (take n bits))
    (written_among base pages first (take n bits) low (omega (arith, high, low, length-take n bits)))

-- ---- watched regions among those that are kept, and their flags, changed

abbrev Regions : Type 0
Regions = List (RegionOf (Unit {0}))

abbrev pub Place : Type 0
Place = Found (RegionOf (Unit {0}))

abbrev has_flags : RegionOf (Unit {0}) → Bool
has_flags x = is_some x.watched

-- ---- what is found

-- the region around the range, where it is watched
pub watched_there : (rs : Regions) (range : Range) (r : Region) (h : IsAround rs range r) → watched_around rs range ≡ found_if (is_some r.watched) h.at.found
watched_there rs range r h = h.only has_flags ∙ ap (λ (x : RegionOf (Unit {0})). found_if (is_some x.watched) h.at.found) h.at.is_shown

-- what is told of the flags of the region around a range
pub told_here : (rs : Regions) (range : Range) (r : Region) (h : IsAround rs range r) (flags : List Bool) (count : ℕ) → r.watched ≡ Some flags
    → option_map (λ (x : Place). map address_of (written_in x.thing range count)) (watched_around rs range) ≡ Some (map address_of (take count (written_from range.first (take range.count (drop (range.first - r.base.0) flags)))))
told_here rs range r h flags count e =
    ap (option_map (λ (x : Place). map address_of (written_in x.thing range count))) (watched_there rs range r h ∙ ap (λ (o : Option (List Bool)). found_if (is_some o) h.at.found) e)
    ∙ ap (λ (x : RegionOf (Unit {0})). Some (map address_of (written_in x range count))) h.at.is_shown
    ∙ ap (λ (o : Option (List Bool)). Some (map address_of (take count (written_from range.first (take range.count (drop (range.first - r.base.0) (unwrap_or o []))))))) e

-- a watched region around a range is the region of its first page
pub record IsWatched (rs : Regions) (range : Range) (r : Place) : Type 0 where
  pub there : region_with rs range.first ≡ Some r
  pub inside : Inside range (pages_of r.thing)

pub is_watched : (rs : Regions) (range : Range) (r : Place) → IsSpace rs → 1 ≤ range.count → watched_around rs range ≡ Some r → IsWatched rs range r
is_watched rs range r sound some e =
    let w = was_found (λ x. has_flags x && surrounds range x) (region_with rs range.first) r (sym (both_around has_flags first_user_page rs range sound.laid_out some) ∙ e) in
    record { there = w.0; inside = inside range (pages_of r.thing) (parts (has_flags r.thing) (lies_within range (pages_of r.thing)) w.1).1 }

-- whether it is watched
pub watched_told : (rs : Regions) (range : Range) (r : Region) → IsAround rs range r → is_some (watched_around rs range) ≡ is_some r.watched
watched_told rs range r h =
    ap is_some (watched_there rs range r h)
    ∙ elim (is_some r.watched) as (λ b. is_some (found_if b h.at.found) ≡ b) [ true ↦ refl | false ↦ refl ]

-- as many flags as pages
pub flags_many : (r : Region) (flags : List Bool) → vad.HasFlags r.pages r → r.watched ≡ Some flags → length flags ≡ r.pages
flags_many r flags h e = subst (λ (o : Option (List Bool)). IfSome o (λ fs. length fs ≡ r.pages)) e h

-- the range is said in two ways
pub watched_as : {vs : List Region} {inner range : Range} {rs : Regions} → Same vs inner rs range → (r : Place) → IsKeptSpace vs → 1 ≤ inner.count → watched_around rs range ≡ Some r → IsWatched (shown_regions vs) inner r
watched_as {vs = vs} {inner = inner} {range = range} {rs = rs} same r k some e =
    is_watched (shown_regions vs) inner r k.sound some (ap (λ (x : Regions). watched_around x inner) same.regions ∙ ap (λ (x : Range). watched_around rs x) same.range_is ∙ e)

-- what was told was told of some region
pub told_of : (f : Place → List ℕ) (o : Option Place) (pages : List ℕ) → Some pages ≡ option_map f o → is_some o ≡ true
told_of f None pages e = cc
told_of f (Some r) pages e = refl

pub told_pages : (f : Place → List ℕ) (o : Option Place) (r : Place) (pages : List ℕ) → Some pages ≡ option_map f o → o ≡ Some r → pages ≡ f r
told_pages f o r pages e is =
    let both : Some pages ≡ Some (f r) = e ∙ ap (option_map f) is in
    cc

-- ---- where a watched range lies in what is kept

-- the region of a page, as it is kept and as it is shown
record KeptAt (vs : List Region) (page : ℕ) (r : Place) : Type 0 where
  region : Region
  found : vad.region_at vs page ≡ Some region
  base : region.base.0 ≡ r.thing.base
  pages : length r.thing.rows ≡ region.pages

kept_at : (vs : List Region) (page : ℕ) (r : Place) → IsKeptSpace vs → region_with (shown_regions vs) page ≡ Some r → KeptAt vs page r
kept_at vs page r k e =
    let h = here vs page r k.whole.whole e in
    let whole = (found_has (λ (x : Region). length x.rows ≡ x.pages) (vad.region_holds page) vs h.region k.whole.whole h.found).1 in
    record {
      region = h.region;
      found = h.found;
      base = ap (λ (x : RegionOf (Unit {0})). x.base) h.is;
      pages = sym (ap (λ (x : RegionOf (Unit {0})). length x.rows) h.is) ∙ length-map h.region.rows (shown_row h.region.kind) ∙ whole;
    }

pub some_at : (vs : List Region) (page : ℕ) → IsKeptSpace vs → is_some (region_with (shown_regions vs) page) ≡ true → is_some (vad.region_at vs page) ≡ true
some_at vs page k some =
    let r = some_found (region_with (shown_regions vs) page) some in
    ap is_some (kept_at vs page r.0 k r.1).found

pub lie_in_region : (vs : List Region) (range : Range) (r : Place) → IsKeptSpace vs → IsWatched (shown_regions vs) range r → vad.LieInRegion vs range.first range.count
lie_in_region vs range r k w =
    let a = kept_at vs range.first r k w.there in
    subst (λ (o : Option Region). IsSomeAnd o (λ g. range.first - g.base.0 + range.count ≤ g.pages)) (sym a.found)
    (omega (arith, w.inside.low, w.inside.high, a.base, a.pages))

pub lie_with_page : (vs : List Region) (range : Range) (r : Place) (count : ℕ) (addresses : List ℕ) → IsKeptSpace vs → IsWatched (shown_regions vs) range r → addresses ≡ map address_of (written_in r.thing range count) → vad.LieWithPage vs range.first addresses
lie_with_page vs range r count addresses k w told =
    let a = kept_at vs range.first r k w.there in
    let among : vad.LieAmong a.region.base.0 a.region.pages (map address_of (written_in r.thing range count)) =
    told_among a.region.base.0 a.region.pages range.first range.count count (drop (range.first - r.thing.base) (unwrap_or r.thing.watched []))
    (omega (arith, w.inside.low, a.base)) (omega (arith, w.inside.low, w.inside.high, a.base, a.pages)) in
    subst (λ (o : Option Region). IsSomeAnd o (λ g. vad.LieAmong g.base.0 g.pages addresses)) (sym a.found)
    (subst (λ (told_addresses : List ℕ). vad.LieAmong a.region.base.0 a.region.pages told_addresses) (sym told) among)

-- ---- flags changed

-- the flags of the region of a page were changed, and nothing else
pub flagged : (change : Region → Region) (flags : List Bool → List Bool) (vs : List Region) (page : ℕ) (r : Place) → ((g : Region) → region_of g ≡ r.thing → region_of (change g) ≡ change_flags flags (region_of g)) → IsKeptSpace vs → region_with (shown_regions vs) page ≡ Some r → shown_regions (vad.change_region change vs page) ≡ slice_set (shown_regions vs) r.place (change_flags flags r.thing)
flagged change flags vs page r same k e =
    let h = here vs page r k.whole.whole e in
    h.changed change ∙ ap (slice_set (shown_regions vs) r.place) (same h.region h.is ∙ ap (change_flags flags) h.is)

pub kept_flags : (vs after : List Region) (flags : List Bool → List Bool) (page : ℕ) (r : Place) → IsKeptSpace vs → region_with (shown_regions vs) page ≡ Some r → ((ws : List Bool) → length (flags ws) ≡ length ws) → shown_regions after ≡ slice_set (shown_regions vs) r.place (change_flags flags r.thing) → vad.IsSpace after → IsKeptSpace after
kept_flags vs after flags page r k e long is whole =
    record {
      sound = subst IsSpace (sym is)
          (space_set (shown_regions vs) r.place r.thing (change_flags flags r.thing) (found_stands (λ x. holds_page (pages_of x) page) (shown_regions vs) r e).there refl refl (flags_changed flags r.thing long) (λ fit. fit) k.sound);
      whole = whole;
    }

-- the pages of a range, the first of which lies in a region, are written or not from now on
pub marked : (b : Bool) (vs after : List Region) (range : Range) (r : Place) → IsKeptSpace vs → region_with (shown_regions vs) range.first ≡ Some r → after ≡ vad.set_marks b vs range.first range.count → shown_regions after ≡ slice_set (shown_regions vs) r.place (mark_written b range r.thing)
marked b vs after range r k e is =
    ap shown_regions is
    ∙ flagged (vad.with_marks b range.first range.count) (change_range (λ was. b) (range.first - r.thing.base) range.count) vs range.first r
    (λ g at. ap (λ (n : ℕ). change_flags (change_range (λ was. b) (range.first - n) range.count) (region_of g)) (ap (λ (x : RegionOf (Unit {0})). x.base) at))
    k e

pub kept_marks : (b : Bool) (vs after : List Region) (range : Range) (r : Place) → IsKeptSpace vs → region_with (shown_regions vs) range.first ≡ Some r → after ≡ vad.set_marks b vs range.first range.count → vad.IsSpace after → IsKeptSpace after
kept_marks b vs after range r k e is whole =
    kept_flags vs after (change_range (λ was. b) (range.first - r.thing.base) range.count) range.first r k e
    (λ ws. length-change_range (λ was. b) (range.first - r.thing.base) range.count ws) (marked b vs after range r k e is) whole

-- the pages that are told of a range are unwritten from now on
pub unwrote : (vs after : List Region) (range : Range) (r : Place) (count : ℕ) (addresses : List ℕ) → IsKeptSpace vs → region_with (shown_regions vs) range.first ≡ Some r → addresses ≡ map address_of (written_in r.thing range count) → after ≡ vad.change_region (vad.with_unwritten addresses) vs range.first → shown_regions after ≡ slice_set (shown_regions vs) r.place (change_flags (unwritten r.thing.base (written_in r.thing range count)) r.thing)
unwrote vs after range r count addresses k e told is =
    let pages = written_in r.thing range count in
    ap shown_regions is
    ∙ flagged (vad.with_unwritten addresses) (unwritten r.thing.base pages) vs range.first r
    (λ g at.
    ap (λ (n : ℕ). change_flags (unwritten n (map page_of addresses)) (region_of g)) (ap (λ (x : RegionOf (Unit {0})). x.base) at)
    ∙ ap (λ (ps : List ℕ). change_flags (unwritten r.thing.base ps) (region_of g)) (ap (map page_of) told ∙ pages_again pages))
    k e

pub kept_unwrote : (vs after : List Region) (range : Range) (r : Place) (count : ℕ) (addresses : List ℕ) → IsKeptSpace vs → region_with (shown_regions vs) range.first ≡ Some r → addresses ≡ map address_of (written_in r.thing range count) → after ≡ vad.change_region (vad.with_unwritten addresses) vs range.first → vad.IsSpace after → IsKeptSpace after
kept_unwrote vs after range r count addresses k e told is whole =
    kept_flags vs after (unwritten r.thing.base (written_in r.thing range count)) range.first r k e
    (λ ws. length-unwritten r.thing.base (written_in r.thing range count) ws) (unwrote vs after range r count addresses k e told is) whole
