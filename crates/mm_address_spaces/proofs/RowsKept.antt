-- Rows of a range: which pass a test, which are equal, and how they change, one page after the other.
use Rattle.std.proofs.Common.{◌≡◌, ℕ, zero, suc, ◌+◌, ◌-◌, ◌≤◌, ◌<◌, Bool, true, false, List, [], ◌∷◌, length, get_or, map, take, drop, Option, Some, None, refl, sym, ap, ◌∙◌, arith, slice_get, is_some, option_map, unwrap_or, ◌&&◌, cond, count_by, ◌++◌, replicate, subst, slice_set, nat_lt, not, nat_le}
use Rattle.std.specs.Cmp.{unsigned_Decides}
use Rattle.std.specs.List.{list_all}
use Rattle.std.specs.Prelude.{◌==◌, IsSomeAnd}
use Rattle.std.proofs.lemmas.Bool.{and_parts, ne_eqb}
use Rattle.std.proofs.lemmas.List.{get_or-drop, length-drop, length-take-le, length-map, get_or-take, get_or-replicate, map-append, take-map, drop-map, drop-drop, take-take, take-replicate, set-set}
use Rattle.std.proofs.lemmas.List.Sums.{sum_by-cons, count_by-le-length, count_by_more_yes, count_by_more_no}
use Rattle.std.proofs.lemmas.Option.{slice_get-map, slice_get-get_or, get_or_from_slice_get}
use Rattle.std.proofs.Math.Seq.{drop-cons}
use Rattle.mm_types.specs.{Kind, Range, first_user_page, end_of_user_pages, View, end_of, base_of}
use Rattle.mm_types.proofs.{some_found, both}
use Rattle.mm_types.specs.declared.views.Kind.TheVariants as kind
use Rattle.mm_vad.specs.{Row, Region, filled_rows, region_at, with_equal_rows, fill_rows, LieInRegion, IsSpace as IsVad, range_at, FollowsFrom}
use Rattle.mm_vad.specs.{SpaceOf, region_holds, region_range as kept_pages}
use Rattle.mm_vad.proofs.{rows_whole, each_region}
use Rattle.mm_world.specs.{RowOf, RegionOf, WorldOf, Found, region_around, is_private, reserved_row, row_at, is_committed, is_committed_at}
use Rattle.mm_world.specs.{every_page, every_page_from, change_range, change_rows, region_with, is_one_of, is_protection_among, private_protections}
use Rattle.mm_world.specs.{protections_of, accepts, protected, IsSpace, PrivateRowFits, ViewRowFits, RowFits, pages_of, first_where}
use Rattle.mm_world.proofs.{map-replicate, found_stands, length-change_range, within, every_page-at, reserved_fits, commit_fits, rows_change}
use Rattle.mm_world.proofs.{view_rows_protected, flags_stay, space_set}
use Rattle.mm_address_spaces.specs.{shown_row, region_of, rows_in_range, rows_of_range, IsAround, RowChange, shown_regions, changed_row, RunChanged, IsInRegion}
use Rattle.mm_address_spaces.specs.{owns, CanChange, IsKeptSpace, owned_in, RowsChanged, CanChangeRows}
use Rattle.mm_address_spaces.proofs.Around.{is_around, Here, here, with_around, around_set, rising_shown}
use Rattle.mm_address_spaces.proofs.Kept.{found_has}
use Rattle.mm_address_spaces.specs.declared.rows.RowChange.TheVariants as change

-- ---- rows

abbrev Test : Type 0
Test = RowOf (Unit {0}) → Bool

abbrev pub shown_rows : Kind → List Row → List (RowOf (Unit {0}))
shown_rows k rows = map (shown_row k) rows

-- the row that is read is the one that is shown, counted from the range's first
pub read_row : (k : Kind) (rows : List Row) (first i : ℕ) (row : Row) → slice_get rows (first + i) ≡ Some row → get_or (drop first (shown_rows k rows)) i reserved_row ≡ shown_row k row
read_row k rows first i row e =
    get_or-drop first (shown_rows k rows) i reserved_row
    ∙ get_or_from_slice_get (shown_rows k rows) (first + i) (shown_row k row) reserved_row (slice_get-map (shown_row k) rows (first + i) ∙ ap (option_map (shown_row k)) e)

pub shown_length : (k : Kind) (rows : List Row) (first : ℕ) → length (drop first (shown_rows k rows)) ≡ length rows - first
shown_length k rows first = length-drop first (shown_rows k rows) ∙ ap (λ (n : ℕ). n - first) (length-map rows (shown_row k))

-- ---- the pages of a range

-- a test of each page's row
abbrev pub at_page : Test → RegionOf (Unit {0}) → ℕ → Bool
at_page p r page = unwrap_or (option_map p (row_at r page)) false

pub every_is_all : (p : Test) (r : RegionOf (Unit {0})) (first count : ℕ) → r.base ≤ first → first + count ≤ r.base + length r.rows → every_page_from (at_page p r) first count ≡ list_all p (take count (drop (first - r.base) r.rows))
every_is_all p r first zero low high = refl
every_is_all p r first (suc count) low high =
    let k = first - r.base in
    let d : RowOf (Unit {0}) = reserved_row in
    let row = get_or r.rows k d in
    let inside : k < length r.rows = omega (arith, low, high) in
    let next : first + 1 - r.base ≡ suc k = omega (arith, low) in
    let here : at_page p r first ≡ p row = ap (λ o. unwrap_or (option_map p o) false) (slice_get-get_or r.rows k d inside) in
    let rest = every_is_all p r (first + 1) count (omega (arith, low)) (omega (arith, high)) in
    ap (λ (b : Bool). b && every_page_from (at_page p r) (first + 1) count) here
    ∙ ap (λ (b : Bool). p row && b) (rest ∙ ap (λ (n : ℕ). list_all p (take count (drop n r.rows))) next)
    ∙ sym (ap (λ rows. list_all p (take (suc count) rows)) (drop-cons r.rows k d inside))

pub every_row : (p : Test) (rs : List (RegionOf (Unit {0}))) (range : Range) (r : Found (RegionOf (Unit {0}))) → region_around rs range ≡ Some r → every_page (at_page p r.thing) range ≡ list_all p (rows_in_range rs range)
every_row p rs range r e =
    let i = is_around rs range r e in
    every_is_all p r.thing range.first range.count i.low i.high ∙ ap (λ o. list_all p (rows_of_range range o)) (sym e)

-- in a private region a page is committed where it has bytes of its own
pub owned_is_committed : (w : WorldOf (Unit {0})) (r : RegionOf (Unit {0})) (page : ℕ) → is_private r.kind ≡ true → is_committed_at w r page ≡ at_page (λ row. is_some row.own) r page
owned_is_committed w r page private = ap (λ o. unwrap_or o false) (by_row (row_at r page))
  where
    by_kind : (k : Kind) (row : RowOf (Unit {0})) → is_private k ≡ true → is_committed w k (page - r.base) row ≡ is_some row.own
    by_kind kind.Private row e = refl
    by_kind (kind.View v) row e = cc

    by_row : (o : Option (RowOf (Unit {0}))) → option_map (is_committed w r.kind (page - r.base)) o ≡ option_map (λ (row : RowOf (Unit {0})). is_some row.own) o
    by_row None = refl
    by_row (Some row) = ap (λ b. Some b) (by_kind r.kind row private)

-- tests that say the same of each page
pub every_alike : (p q : ℕ → Bool) (first count : ℕ) → ((page : ℕ) → first ≤ page → page < first + count → p page ≡ q page) → every_page_from p first count ≡ every_page_from q first count
every_alike p q first zero same = refl
every_alike p q first (suc count) same =
    let rest = every_alike p q (first + 1) count (λ page low high. same page (omega (arith, low)) (omega (arith, high))) in
    ap (λ b. b && every_page_from p (first + 1) count) (same first (omega arith) (omega arith))
    ∙ ap (λ b. q first && b) rest

pub every_owned : (w : WorldOf (Unit {0})) (rs : List (RegionOf (Unit {0}))) (range : Range) (r : Found (RegionOf (Unit {0}))) → region_around rs range ≡ Some r → is_private r.thing.kind ≡ true → every_page (is_committed_at w r.thing) range ≡ list_all (λ (row : RowOf (Unit {0})). is_some row.own) (rows_in_range rs range)
every_owned w rs range r e private =
    every_alike (is_committed_at w r.thing) (at_page (λ row. is_some row.own) r.thing) range.first range.count (λ page low high. owned_is_committed w r.thing page private)
    ∙ every_row (λ row. is_some row.own) rs range r e

-- the region around a range, as it is kept
module _ (rs : List (RegionOf (Unit {0}))) (range : Range) (g : Region) (h : IsAround rs range g) where
  pub thing_is : (r : Found (RegionOf (Unit {0}))) → region_around rs range ≡ Some r → r.thing ≡ region_of g
  thing_is r e =
      let both : Some h.at.found ≡ Some r = sym h.around ∙ e in
      let same : h.at.found ≡ r = cc in
      ap (λ (f : Found (RegionOf (Unit {0}))). f.thing) (sym same) ∙ h.at.is_shown

-- ---- all rows are counted

one_more : (p : Test) (x : RowOf (Unit {0})) (xs : List (RowOf (Unit {0}))) → count_by p (x ∷ xs) ≡ cond (p x) 1 0 + count_by p xs
one_more p x xs = sum_by-cons (λ (r : RowOf (Unit {0})). cond (p r) 1 0) x xs

all_counted : (p : Test) (xs : List (RowOf (Unit {0}))) → list_all p xs ≡ true → count_by p xs ≡ length xs
all_counted p [] e = refl
all_counted p (x ∷ xs) e =
    let h = and_parts (p x) (list_all p xs) e in
    omega (arith, one_more p x xs, ap {B = ℕ} (λ b. cond b 1 0) h.0, all_counted p xs h.1)

counted_all : (p : Test) (xs : List (RowOf (Unit {0}))) → count_by p xs ≡ length xs → list_all p xs ≡ true
counted_all p [] e = refl
counted_all p (x ∷ xs) e = by_test (p x) refl (one_more p x xs) (counted_all p xs)
  where
    by_test : (b : Bool) → p x ≡ b → count_by p (x ∷ xs) ≡ cond b 1 0 + count_by p xs → (count_by p xs ≡ length xs → list_all p xs ≡ true) → (p x && list_all p xs) ≡ true
    by_test true is one later = ap (λ b. b && list_all p xs) is ∙ later (omega (arith, e, one))
    by_test false is one later = absurd (omega (arith, e, one, count_by-le-length p xs))

length_in_range : (rs : List (RegionOf (Unit {0}))) (range : Range) → is_some (region_around rs range) ≡ true → length (rows_in_range rs range) ≡ range.count
length_in_range rs range some =
    let r = some_found (region_around rs range) some in
    let i = is_around rs range r.0 r.1 in
    ap (λ o. length (rows_of_range range o)) r.1
    ∙ length-take-le range.count (drop (range.first - r.0.thing.base) r.0.thing.rows) (omega (arith, length-drop (range.first - r.0.thing.base) r.0.thing.rows, i.low, i.high))

-- the rows of a range that lies in one region
pub counted_in : (p : Test) (rs : List (RegionOf (Unit {0}))) (range : Range) → is_some (region_around rs range) ≡ true → (count_by p (rows_in_range rs range) == range.count) ≡ list_all p (rows_in_range rs range)
counted_in p rs range some =
    let xs = rows_in_range rs range in
    let size = length_in_range rs range some in
    elim (list_all p xs) as (λ b. list_all p xs ≡ b → (count_by p xs == range.count) ≡ b) [
      | true ↦ λ e. (unsigned_Decides (count_by p xs) range.count).1 (all_counted p xs e ∙ size)
      | false ↦ λ e. ne_eqb (count_by p xs) range.count (λ same. let bad : true ≡ false = sym (counted_all p xs (same ∙ sym size)) ∙ e in cc)
    ] refl

-- ---- rows that are equal pass a test together, and are changed together

-- the rows of a range and those after it
abbrev pub behind : Kind → List Row → ℕ → List (RowOf (Unit {0}))
behind k rows first = drop first (shown_rows k rows)

-- the m rows from place first + done on are equal
pub record AreEqual (rows : List Row) (first done m : ℕ) (row : Row) : Type 0 where
  pub inside : first + done + m ≤ length rows
  pub equal : take m (drop (first + done) rows) ≡ replicate m row

pub row_there : (rows : List Row) (first done m : ℕ) (row : Row) → AreEqual rows first done m row → (j : ℕ) → j < m → slice_get rows (first + (done + j)) ≡ Some row
row_there rows first done m row e j low =
    let is : get_or rows (first + (done + j)) row ≡ row =
    ap (λ (q : ℕ). get_or rows q row) (let q : first + (done + j) ≡ first + done + j = omega arith in q)
    ∙ sym (get_or-drop (first + done) rows j row)
    ∙ sym (get_or-take m (drop (first + done) rows) j row low)
    ∙ ap (λ (rs : List Row). get_or rs j row) e.equal
    ∙ get_or-replicate m j row row low in
    slice_get-get_or rows (first + (done + j)) row (omega (arith, e.inside, low)) ∙ ap (λ (r : Row). Some r) is

module _ (p : RowOf (Unit {0}) → Bool) (k : Kind) (rows : List Row) (first done m : ℕ) (row : Row) (e : AreEqual rows first done m row) where
  alike : (j : ℕ) → j < m → p (get_or (behind k rows first) (done + j) reserved_row) ≡ p (shown_row k row)
  alike j low = ap p (read_row k rows first (done + j) row (row_there rows first done m row e j low))

  size : (j : ℕ) → j < m → done + j < length (behind k rows first)
  size j low = omega (arith, shown_length k rows first, e.inside, low)

  pub counted_yes : p (shown_row k row) ≡ true → (n : ℕ) → n ≤ m → count_by p (take (done + n) (behind k rows first)) ≡ count_by p (take done (behind k rows first)) + n
  counted_yes good zero low = omega (arith, ap (λ (q : ℕ). count_by p (take q (behind k rows first))) (let q : done + 0 ≡ done = omega arith in q))
  counted_yes good (suc n) low =
      let more = count_by_more_yes p (behind k rows first) (done + n) reserved_row (size n (omega (arith, low))) (alike n (omega (arith, low)) ∙ good) in
      ap (λ (q : ℕ). count_by p (take q (behind k rows first))) (let q : done + suc n ≡ done + n + 1 = omega arith in q)
      ∙ omega (arith, more, counted_yes good n (omega (arith, low)))

  pub counted_no : p (shown_row k row) ≡ false → (n : ℕ) → n ≤ m → count_by p (take (done + n) (behind k rows first)) ≡ count_by p (take done (behind k rows first))
  counted_no bad zero low = ap (λ (q : ℕ). count_by p (take q (behind k rows first))) (let q : done + 0 ≡ done = omega arith in q)
  counted_no bad (suc n) low =
      ap (λ (q : ℕ). count_by p (take q (behind k rows first))) (let q : done + suc n ≡ done + n + 1 = omega arith in q)
      ∙ count_by_more_no p (behind k rows first) (done + n) reserved_row (size n (omega (arith, low))) (alike n (omega (arith, low)) ∙ bad)
      ∙ counted_no bad n (omega (arith, low))

-- ---- rows that are equal are changed together

three : {A : Type 0} (xs ys zs xs' ys' zs' : List A) → xs ≡ xs' → ys ≡ ys' → zs ≡ zs' → xs ++ ys ++ zs ≡ xs' ++ ys' ++ zs'
three xs ys zs xs' ys' zs' a b c = ap (λ v. v ++ ys ++ zs) a ∙ ap (λ v. xs' ++ v ++ zs) b ∙ ap (λ v. xs' ++ ys' ++ v) c

pub shown_filled : (g : Row → RowOf (Unit {0})) (change : RowOf (Unit {0}) → RowOf (Unit {0})) (rows : List Row) (first n : ℕ) (old new : Row) → take n (drop first rows) ≡ replicate n old → g new ≡ change (g old) → map g (filled_rows rows first n new) ≡ change_range change first n (map g rows)
shown_filled g change rows first n old new equal made =
    map-append g (take first rows ++ replicate n new) (drop (first + n) rows)
    ∙ ap (λ xs. xs ++ map g (drop (first + n) rows)) (map-append g (take first rows) (replicate n new))
    ∙ three (map g (take first rows)) (map g (replicate n new)) (map g (drop (first + n) rows)) (take first (map g rows)) (map change (take n (drop first (map g rows)))) (drop n (drop first (map g rows)))
    (sym (take-map g first rows))
    (map-replicate g n new ∙ ap (replicate n) made ∙ sym (map-replicate change n (g old)) ∙ ap (map change) (sym (map-replicate g n old) ∙ ap (map g) (sym equal) ∙ sym (take-map g n (drop first rows)) ∙ ap (take n) (sym (drop-map g first rows))))
    (sym (drop-map g (first + n) rows) ∙ sym (drop-drop n first (map g rows)))

fewer : (rows : List Row) (n m : ℕ) (old : Row) → n ≤ m → take m rows ≡ replicate m old → take n rows ≡ replicate n old
fewer rows n m old low e = sym (take-take n m rows low) ∙ ap (take n) e ∙ take-replicate n m old low

with_shown : Region → List (RowOf (Unit {0})) → RegionOf (Unit {0})
with_shown g rows = record { base = g.base.0; alloc_prot = g.alloc_prot.0; kind = g.kind; rows = rows; watched = g.watched }

region_filled : (g : Region) (page n : ℕ) (change : RowChange) (old new : Row) → take n (drop (page - g.base.0) g.rows) ≡ replicate n old → shown_row g.kind new ≡ changed_row change g.kind (shown_row g.kind old) → region_of (with_equal_rows page n new g) ≡ change_rows (changed_row change g.kind) (range_at page n) (region_of g)
unfolding with_shown
region_filled g page n change old new equal made = ap (with_shown g) (shown_filled (shown_row g.kind) (changed_row change g.kind) g.rows (page - g.base.0) n old new equal made)

-- so many rows of the region in which the page lies
pub run_changed : (gs : List Region) (page n m : ℕ) (r : Found (RegionOf (Unit {0}))) (h : Here gs page r) (change : RowChange) (old new : Row) → n ≤ m → take m (drop (page - h.region.base.0) h.region.rows) ≡ replicate m old → shown_row h.region.kind new ≡ changed_row change h.region.kind (shown_row h.region.kind old) → shown_regions (fill_rows gs page n new) ≡ slice_set (shown_regions gs) r.place (change_rows (changed_row change r.thing.kind) (range_at page n) r.thing)
run_changed gs page n m r h change old new low equal made =
    h.changed (with_equal_rows page n new)
    ∙ ap (slice_set (shown_regions gs) r.place)
    (subst (λ (t : RegionOf (Unit {0})). region_of (with_equal_rows page n new h.region) ≡ change_rows (changed_row change t.kind) (range_at page n) t) h.is
    (region_filled h.region page n change old new (fewer (drop (page - h.region.base.0) h.region.rows) n m old low equal) made))

pub in_region : (gs : List Region) (page n m : ℕ) (g : Region) → IsVad gs → region_at gs page ≡ Some g → n ≤ m → page - g.base.0 + m ≤ length g.rows → LieInRegion gs page n
in_region gs page n m g sound is low inside =
    let whole : length g.rows ≡ g.pages = rows_whole gs page g sound.whole is in
    subst (λ (o : Option Region). IsSomeAnd o (λ r. page - r.base.0 + n ≤ r.pages)) (sym is) (omega (arith, low, inside, whole))

-- ---- the rows of a range are changed one page after the other, and the regions stay well formed

-- ---- a range of a list

pub change_none : {A : Type 0} (change : A → A) (first : ℕ) (xs : List A) → change_range change first 0 xs ≡ xs
change_none change (suc first) (x ∷ xs) = ap (λ rest. x ∷ rest) (change_none change first xs)
change_none change _ _ = refl

front_more : {A : Type 0} (change : A → A) (count : ℕ) (xs : List A) (x : A) → slice_get (map change (take count xs) ++ drop count xs) count ≡ Some x → map change (take (suc count) xs) ++ drop (suc count) xs ≡ slice_set (map change (take count xs) ++ drop count xs) count (change x)
front_more change zero [] x e = cc
front_more change zero (y ∷ xs) x e = let same : y ≡ x = cc in ap (λ z. change z ∷ xs) same
front_more change (suc count) [] x e = cc
front_more change (suc count) (y ∷ xs) x e = ap (λ rest. change y ∷ rest) (front_more change count xs x e)

-- the place behind the range is changed too
pub change_more : {A : Type 0} (change : A → A) (first count : ℕ) (xs : List A) (k : ℕ) (x : A) → k ≡ first + count → slice_get (change_range change first count xs) k ≡ Some x → change_range change first (suc count) xs ≡ slice_set (change_range change first count xs) k (change x)
change_more change zero count xs k x is e =
    let same : k ≡ count = omega (arith, is) in
    let made = map change (take count xs) ++ drop count xs in
    subst (λ (k : ℕ). slice_get made k ≡ Some x → map change (take (suc count) xs) ++ drop (suc count) xs ≡ slice_set made k (change x)) (sym same) (front_more change count xs x) e
change_more change (suc first) zero [] k x is e = cc
change_more change (suc first) (suc count) [] k x is e = cc
change_more change (suc first) count (y ∷ xs) zero x is e = absurd (omega (arith, is))
change_more change (suc first) count (y ∷ xs) (suc k) x is e = ap (λ rest. y ∷ rest) (change_more change first count xs k x (omega (arith, is)) e)

none_within : {A : Type 0} (xs : List A) (k : ℕ) → slice_get xs k ≡ None → length xs ≤ k
none_within [] k e = omega arith
none_within (x ∷ xs) zero e = cc
none_within (x ∷ xs) (suc k) e = omega (arith, none_within xs k e)

join_more : {A : Type 0} (change : A → A) (first done n : ℕ) (xs : List A) (o : Option A) → first + done + n < length xs → slice_get (change_range change first (done + n) xs) (first + done + n) ≡ o → change_range change (first + done) n (change_range change first done xs) ≡ change_range change first (done + n) xs → change_range change (first + done) (suc n) (change_range change first done xs) ≡ change_range change first (done + suc n) xs
join_more change first done n xs None h e before = absurd (omega (arith, h, none_within (change_range change first (done + n) xs) (first + done + n) e, length-change_range change first (done + n) xs))
join_more {A} change first done n xs (Some x) h e before =
    let k = first + done + n in
    change_more change (first + done) n (change_range change first done xs) k x refl (ap (λ (ys : List A). slice_get ys k) before ∙ e)
    ∙ ap (λ (ys : List A). slice_set ys k (change x)) before
    ∙ sym (change_more change first (done + n) xs k x (omega arith) e)
    ∙ ap (λ (q : ℕ). change_range change first q xs) (let q : suc (done + n) ≡ done + suc n = omega arith in q)

-- a range in two parts
pub change_join : {A : Type 0} (change : A → A) (first done n : ℕ) (xs : List A) → first + done + n ≤ length xs → change_range change (first + done) n (change_range change first done xs) ≡ change_range change first (done + n) xs
change_join change first done zero xs h = change_none change (first + done) (change_range change first done xs) ∙ ap (λ (q : ℕ). change_range change first q xs) (let q : done ≡ done + 0 = omega arith in q)
change_join change first done (suc n) xs h = join_more change first done n xs _ (omega (arith, h)) refl (change_join change first done n xs (omega (arith, h)))

pub set_none : {A : Type 0} (xs : List A) (i : ℕ) (x : A) → slice_get xs i ≡ Some x → slice_set xs i x ≡ xs
set_none [] i x e = cc
set_none (y ∷ xs) zero x e = ap (λ z. z ∷ xs) (let same : x ≡ y = cc in same)
set_none (y ∷ xs) (suc i) x e = ap (λ rest. y ∷ rest) (set_none xs i x e)

-- ---- the loop over the pages

-- the rows of the first pages of the range are changed, and nothing else
pub record Changing (change : RowChange) (range : Range) (done : ℕ) (old new : SpaceOf) : Type 0 where
  pub after : (r : Found (RegionOf (Unit {0}))) → region_around (shown_regions old.regions) range ≡ Some r → shown_regions new.regions ≡ slice_set (shown_regions old.regions) r.place (change_rows (changed_row change r.thing.kind) (range_at range.first done) r.thing)
  pub spare : new.spare ≡ old.spare
  pub kept : IsVad new.regions

with_rows : RegionOf (Unit {0}) → List (RowOf (Unit {0})) → RegionOf (Unit {0})
with_rows r rows = record { base = r.base; alloc_prot = r.alloc_prot; kind = r.kind; rows = rows; watched = r.watched }

pub changing_none : (change : RowChange) (range : Range) (s : SpaceOf) → IsVad s.regions → Changing change range 0 s s
unfolding with_rows
changing_none change range s sound = record {
  after = λ r e.
      sym (ap (λ rows. slice_set (shown_regions s.regions) r.place (with_rows r.thing rows)) (change_none (changed_row change r.thing.kind) (range.first - r.thing.base) r.thing.rows)
      ∙ set_none (shown_regions s.regions) r.place r.thing (found_stands _ (shown_regions s.regions) r e).there);
  spare = refl;
  kept = sound;
}

-- what the region around the range is after some of its rows are changed
module _ (change : RowChange) (range : Range) (done : ℕ) (old now : SpaceOf) (h : Changing change range done old now) (r : Found (RegionOf (Unit {0}))) (e : region_around (shown_regions old.regions) range ≡ Some r) where
  abbrev so_far : RegionOf (Unit {0})
  so_far = change_rows (changed_row change r.thing.kind) (range_at range.first done) r.thing

  pub around_now : region_around (shown_regions now.regions) range ≡ Some (record { place = r.place; thing = so_far })
  around_now =
      ap (λ rs. region_around rs range) (h.after r e)
      ∙ around_set (shown_regions old.regions) range r so_far e refl (length-change_range (changed_row change r.thing.kind) (range.first - r.thing.base) done r.thing.rows)

pub some_now : (change : RowChange) (range : Range) (done k : ℕ) (old now : SpaceOf) → IsInRegion (shown_regions old.regions) range → Changing change range done old now → k < range.count → is_some (region_with (shown_regions now.regions) (range.first + k)) ≡ true
some_now change range done k old now inside h more =
    let r = some_found (region_around (shown_regions old.regions) range) inside in
    ap is_some (with_around first_user_page (shown_regions now.regions) range (range.first + k) _ (rising_shown first_user_page now.regions h.kept.whole h.kept.apart) (around_now change range done old now h r.0 r.1) (record { low = omega arith; high = omega (arith, more) }))

-- so many rows more were changed
pub changing_more : (change : RowChange) (range : Range) (done n : ℕ) (old now new : SpaceOf) → Changing change range done old now → 0 < n → done + n ≤ range.count → RunChanged change (range_at (range.first + done) n) (shown_regions now.regions) (shown_regions new.regions) → new.spare ≡ now.spare → IsVad new.regions → Changing change range (done + n) old new
unfolding with_rows
changing_more change range done n old now new h some more step spare kept = record {
  after = λ r e.
      let f = changed_row change r.thing.kind in
      let rs = shown_regions old.regions in
      let page = range.first + done in
      let part = change_rows f (range_at range.first done) r.thing in
      let first = range.first - r.thing.base in
      let i = is_around rs range r e in
      let rising = rising_shown first_user_page now.regions h.kept.whole h.kept.apart in
      let with_page = with_around first_user_page (shown_regions now.regions) range page (record { place = r.place; thing = part }) rising (around_now change range done old now h r e) (record { low = omega arith; high = omega (arith, some, more) }) in
      let k = page - r.thing.base in
      let made : change_range f k n part.rows ≡ change_range f first (done + n) r.thing.rows =
      ap (λ (q : ℕ). change_range f q n part.rows) (let q : k ≡ first + done = omega (arith, i.low) in q) ∙ change_join f first done n r.thing.rows (omega (arith, i.low, i.high, more)) in
      step (record { place = r.place; thing = part }) with_page
      ∙ ap (λ (xs : List (RegionOf (Unit {0}))). slice_set xs r.place (with_rows r.thing (change_range f k n part.rows))) (h.after r e)
      ∙ set-set rs r.place part (with_rows r.thing (change_range f k n part.rows))
      ∙ ap (λ rows. slice_set rs r.place (with_rows r.thing rows)) made;
  spare = spare ∙ h.spare;
  kept = kept;
}

-- a page of a region is a user page
pub user_page : (gs : List Region) (page : ℕ) → IsVad gs → is_some (region_with (shown_regions gs) page) ≡ true → page < end_of_user_pages
user_page gs page sound some =
    let r = some_found (region_with (shown_regions gs) page) some in
    let h = here gs page r.0 sound.whole r.1 in
    let f = found_has (λ g. FollowsFrom first_user_page (kept_pages g)) (region_holds page) gs h.region (each_region gs sound) h.found in
    omega (arith, (within (kept_pages h.region) page f.0).high, f.1.within)

-- ---- regions stay well formed when rows of them are changed

abbrev pub Regions : Type 0
Regions = List (RegionOf (Unit {0}))

-- ---- one row

unguarded : RowOf (Unit {0}) → RowOf (Unit {0})
unguarded row = record row { guard = false }

private_protected : (prot : ℕ) (row : RowOf (Unit {0})) → is_one_of private_protections (base_of prot) ≡ true → owns row ≡ true → PrivateRowFits row → PrivateRowFits (protected kind.Private prot row)
private_protected prot row e there h =
    record {
      unmarked = h.unmarked;
      reserved = λ n. let bad : true ≡ false = sym there ∙ ap is_some n in cc;
      committed = λ n. e;
    }

-- a region of one row
one_row : View → RowOf (Unit {0}) → RegionOf (Unit {0})
one_row v row = record { base = 0; alloc_prot = 0; kind = kind.View v; rows = row ∷ []; watched = None }

view_protected : (v : View) (prot : ℕ) (row : RowOf (Unit {0})) → is_one_of (protections_of (kind.View v) row) (base_of prot) ≡ true → ViewRowFits v.access row → ViewRowFits v.access (protected (kind.View v) prot row)
unfolding one_row
view_protected v prot row e h =
    (view_rows_protected (one_row v row) v prot (record { first = 0; count = 1 }) refl (h, tt) (omega arith) (both (accepts (one_row v row) prot 0) true e refl)).0

pub fits_after : (c : RowChange) (k : Kind) (row : RowOf (Unit {0})) → CanChange c k row → RowFits k row → RowFits k (changed_row c k row)
unfolding unguarded
fits_after (change.Commit prot) kind.Private row can h = commit_fits tt prot row can.1
fits_after (change.Commit prot) (kind.View v) row can h = let bad : false ≡ true = can.0 in cc
fits_after change.Decommit kind.Private row can h = reserved_fits
fits_after change.Decommit (kind.View v) row can h = let bad : false ≡ true = can in cc
fits_after (change.Protect prot) kind.Private row can h = private_protected prot row can.0 (can.1 refl) h
fits_after (change.Protect prot) (kind.View v) row can h = view_protected v prot row can.0 h
fits_after change.GuardOff kind.Private row can h = record { unmarked = h.unmarked; reserved = λ n. ap unguarded (h.reserved n); committed = h.committed }
fits_after change.GuardOff (kind.View v) row can h = record { copied = h.copied; copy_view = h.copy_view; held = h.held }
fits_after change.Copy kind.Private row can h = let bad : true ≡ false = can.0 in cc
fits_after change.Copy (kind.View v) row can h = copied_fits row.marked can.1
  where
    copied_fits : (marked : Bool) → marked ≡ true → ViewRowFits v.access (record { prot = 0x04; guard = row.guard; marked = marked; own = Some (tt {0}) })
    copied_fits true e = record { copied = λ n. refl; copy_view = λ n. refl; held = refl }
    copied_fits false e = cc

-- ---- the rows of a region

pub sound_rows : (c : RowChange) (rs : Regions) (range : Range) (r : Found (RegionOf (Unit {0}))) → region_around rs range ≡ Some r → ((page : ℕ) (row : RowOf (Unit {0})) → range.first ≤ page → page < end_of range → row_at r.thing page ≡ Some row → CanChange c r.thing.kind row) → IsSpace rs → IsSpace (slice_set rs r.place (change_rows (changed_row c r.thing.kind) range r.thing))
sound_rows c rs range r e can h =
    let f = changed_row c r.thing.kind in
    space_set rs r.place r.thing (change_rows f range r.thing) (found_stands _ rs r e).there refl
    (length-change_range f (range.first - r.thing.base) range.count r.thing.rows)
    (flags_stay r.thing (change_rows f range r.thing) refl (length-change_range f (range.first - r.thing.base) range.count r.thing.rows) refl)
    (λ fit. rows_change f range r.thing fit (is_around rs range r e).low (λ page row low high at fits. fits_after c r.thing.kind row (can page row low high at) fits))
    h

-- ---- what calls give

pub base_allowed : (prot : ℕ) → is_protection_among private_protections prot ≡ true → is_one_of private_protections (base_of prot) ≡ true
base_allowed prot e =
    let small = nat_lt prot 0x200 in
    (and_parts (is_one_of private_protections (base_of prot)) small (and_parts (is_one_of private_protections (base_of prot) && small) (not (prot == 0x101)) e).0).0

-- a row among those that all pass
all_at : (rows : List (RowOf (Unit {0}))) (first count k : ℕ) (row : RowOf (Unit {0})) → list_all owns (take count (drop first rows)) ≡ true → first ≤ k → k < first + count → slice_get rows k ≡ Some row → owns row ≡ true
all_at [] first count k row h low high e = cc
all_at (x ∷ rows) zero zero k row h low high e = absurd (omega (arith, high))
all_at (x ∷ rows) zero (suc count) zero row h low high e =
    let same : x ≡ row = cc in
    ap owns (sym same) ∙ (and_parts (owns x) (list_all owns (take count rows)) h).0
all_at (x ∷ rows) zero (suc count) (suc k) row h low high e = all_at rows zero count k row (and_parts (owns x) (list_all owns (take count rows)) h).1 (omega arith) (omega (arith, high)) e
all_at (x ∷ rows) (suc first) count zero row h low high e = absurd (omega (arith, low))
all_at (x ∷ rows) (suc first) count (suc k) row h low high e = all_at rows first count k row h (omega (arith, low)) (omega (arith, high)) e

pub can_protect : (rs : Regions) (range : Range) (r : Found (RegionOf (Unit {0}))) (prot : ℕ) → region_around rs range ≡ Some r → every_page (accepts r.thing prot) range ≡ true → (is_private r.thing.kind ≡ true → list_all owns (rows_in_range rs range) ≡ true) → (page : ℕ) (row : RowOf (Unit {0})) → range.first ≤ page → page < end_of range → row_at r.thing page ≡ Some row → CanChange (change.Protect prot) r.thing.kind row
can_protect rs range r prot e takes all page row low high at =
    let i = is_around rs range r e in
    let here = every_page-at (accepts r.thing prot) range.first range.count page takes low high in (
      sym (ap (λ o. unwrap_or (option_map (λ (row : RowOf (Unit {0})). is_one_of (protections_of r.thing.kind row) (base_of prot)) o) false) at) ∙ here,
      λ private.
          all_at r.thing.rows (range.first - r.thing.base) range.count (page - r.thing.base) row
          (ap (λ o. list_all owns (rows_of_range range o)) (sym e) ∙ all private)
          (omega (arith, low, i.low)) (omega (arith, low, high, i.low)) at,
    )

-- ---- the regions that are kept stay so when rows of them are written

-- ---- a range

-- the range is said in two ways, and lies in one region
pub record Same (vs : List Region) (inner : Range) (rs : Regions) (range : Range) : Type 0 where
  pub regions : shown_regions vs ≡ rs
  pub range_is : inner ≡ range

module _ (vs : List Region) (inner : Range) (rs : Regions) (range : Range) (same : Same vs inner rs range) where
  pub inside : is_some (region_around rs range) ≡ true → is_some (region_around (shown_regions vs) inner) ≡ true
  inside e = ap (λ (x : Regions). is_some (region_around x inner)) same.regions ∙ ap (λ (x : Range). is_some (region_around rs x)) same.range_is ∙ e

  pub can_inside : (c : RowChange) → CanChangeRows c rs range → CanChangeRows c (shown_regions vs) inner
  can_inside c can = subst (λ (x : Regions). CanChangeRows c x inner) (sym same.regions) (subst (λ (x : Range). CanChangeRows c rs x) (sym same.range_is) can)

pub kept_rows : (vs after : List Region) (c : RowChange) (range : Range) → IsKeptSpace vs → is_some (region_around (shown_regions vs) range) ≡ true → CanChangeRows c (shown_regions vs) range → RowsChanged c range (shown_regions vs) (shown_regions after) → IsVad after → IsKeptSpace after
kept_rows vs after c range k some can changed whole =
    let r = some_found (region_around (shown_regions vs) range) some in
    record { sound = subst IsSpace (sym (changed r.0 r.1)) (sound_rows c (shown_regions vs) range r.0 r.1 (can r.0 r.1) k.sound); whole = whole }

pub all_owned : (rs : Regions) (range : Range) → is_some (region_around rs range) ≡ true → owned_in rs range ≡ range.count → list_all owns (rows_in_range rs range) ≡ true
all_owned rs range some e = sym (counted_in owns rs range some) ∙ (unsigned_Decides (owned_in rs range) range.count).1 e

-- ---- one page

-- the region with a page is the one around the range of it alone
pub one_around : (rs : Regions) (page : ℕ) → region_with rs page ≡ region_around rs (range_at page 1)
one_around rs page =
    let next : suc page ≡ page + 1 = omega arith in
    ap (λ (n : ℕ). first_where (λ (r : RegionOf (Unit {0})). nat_le r.base page && nat_le n (end_of (pages_of r))) rs) next

pub one_changed : (f : RowOf (Unit {0}) → RowOf (Unit {0})) (k : ℕ) (rows : List (RowOf (Unit {0}))) (row : RowOf (Unit {0})) → slice_get rows k ≡ Some row → change_range f k 1 rows ≡ slice_set rows k (f row)
one_changed f k rows row at =
    let same = change_none f k rows in
    change_more f k 0 rows k row (omega arith) (ap (λ (xs : List (RowOf (Unit {0}))). slice_get xs k) same ∙ at)
    ∙ ap (λ (xs : List (RowOf (Unit {0}))). slice_set xs k (f row)) same
