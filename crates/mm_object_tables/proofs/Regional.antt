-- The regions of one process are others: what they have then, and what is charged.
use Rattle.std.proofs.Common.{◌≡◌, ◌≤◌, ◌<◌, ◌+◌, ◌-◌, ℕ, Bool, true, false, Option, Some, None, List, [], ◌∷◌, refl, sym, ◌∙◌, ap, subst, cond, arith, length, set, slice_get, is_some, ◌&&◌, ◌||◌, not, nat_lt, count_by, replicate, option_map, unwrap_or, zero, suc}
use Rattle.std.specs.Prelude.{remove, ◌==◌, ◌%◌, option_and_then, IsSomeAnd}
use Rattle.std.specs.List.{list_any}
use Rattle.std.proofs.lemmas.Bool.{cond_both}
use Rattle.std.proofs.lemmas.List.{length-replicate, get_or-replicate, length-set}
use Rattle.std.proofs.lemmas.List.Sums.{sum_by-cons, sum_by-insert, sum_by-remove}
use Rattle.std.proofs.lemmas.Option.{get_or_from_slice_get, slice_get_within, slice_get-get_or, option_and_then_some}
use Rattle.mm_types.specs.{Key, Pid, Kind, View, Range, holds_page, meets, is_free, are_user_pages, first_user_page, base_of, reserve_type, Place}
use Rattle.mm_types.specs.declared.views.Kind.TheVariants as kind
use Rattle.mm_types.proofs.{or_true, or_false, get_set_same, get_within, same_found, some_map}
use Rattle.mm_world.specs.{ProcessOf, RegionOf, RowOf, pages_of, Found, change_range, process_of, region_with, region_around, ranges_of, set_region}
use Rattle.mm_world.specs.{set_regions, add_region, is_private, charge, region_charge, is_charged, own_page, private_region, new_row, Tables, blank}
use Rattle.mm_world.specs.{is_one_of, is_protection_among, private_protections, reserved_row, commit, protected, change_rows, is_view_of, LaidOut}
use Rattle.mm_world.specs.{FlagsFit, RowsFit, RowFits, Page, filled, area_at, same_key, Committed, Home, home_in, committed_at, set_row, guard_off}
use Rattle.mm_world.specs.{private_key, row_at, held_protections, RegionRefers, first_where, change_flags}
use Rattle.mm_world.specs.WellFormed.{WellFormed}
use Rattle.mm_world.proofs.{charge-set_region, charge-set_regions, charge-remove_region, count_by-none, sum_by-put, each-replicate, own_in, own_free}
use Rattle.mm_world.proofs.{private_kind, flags_stay, and-true, free_of, IsPlaced, reserved_fits, commit_fits, private_flags, RegionChanges}
use Rattle.mm_world.proofs.{RegionGoes, RegionComes, charge-set_row, charge-guard_off, each-at, each-set, Stands, found_stands, committed_is}
use Rattle.mm_world.proofs.{IsCommitted, Inside as Within, flags_changed}
use Rattle.mm_address_spaces.specs.{rows_of_range, PageRow, told_page_row, told_row, RegionsOf}
use Rattle.mm_object_tables.specs.{paging_count, new_pages, newly_marked, new_marks, Effect, Makes, Ends, Leaves, after, Moves, keys_of, key_in, FitsTables}
use Rattle.mm_object_tables.specs.{CanCopy, copied, key_at, one_page_range, with_range_keys, flags_set_in, is_key_in, Process, AreKeptTables, with_space}
use Rattle.mm_object_tables.proofs.Keeping.{StandIn, Held, regions_by, still_kept, shown_with, same_tables, kept_same}
use Rattle.mm_object_tables.proofs.Lists.{get-change_range, count-change_range, count-all, count-same, count-replicate, one_if}
use Rattle.mm_object_tables.proofs.Rows.{own_rows, paging-set_region, paging-add_region, home_key, region_key, key_in_has, has, within, some_cond, SamePages, reserved_set, found_cond, has_set, has_at, has_added, has_removed, Inside, has_own, in_range, place_between, own_of_changed, same_pages, private_charge, outside, moved, regions_set_same, key_at_is}
use Rattle.mm_store.specs.{StoreOf, changed_in, own_key, place_at}
use Rattle.mm_move_rules.specs.{same_place}
use Rattle.mm_move_rules.specs.{changed}
use Rattle.mm_object_tables.specs.declared.tables.Tables.TheInside.{Inside as InTables}
use Rattle.mm_object_tables.proofs.PageByPage.{set_only, own, key_in_only, place_in_only, same_place_is}

pub allowed : (prot : ℕ) → is_protection_among private_protections prot ≡ true → is_one_of private_protections (base_of prot) ≡ true
allowed prot e = (and-true (is_one_of private_protections (base_of prot)) (nat_lt prot 0x200) (and-true (is_one_of private_protections (base_of prot) && nat_lt prot 0x200) (not (prot == 0x101)) e).0).0

pub one_or_other : (b : Bool) → one_if b + one_if (not b) ≡ 1
one_or_other true = refl
one_or_other false = refl

-- ---- a region is another with the same pages

module _ (t : Tables) (p : ProcessOf (Unit {0})) (i : ℕ) (r new : RegionOf (Unit {0})) (at : slice_get p.regions i ≡ Some r) (same : SamePages r new) (kinds : new.kind ≡ r.kind) where
  pub set_stands : (FlagsFit r → FlagsFit new) → is_some new.watched ≡ is_some r.watched → (RowsFit r → RowsFit new) → StandIn t p.regions (set p.regions i new)
  set_stands flags watched fit =
      record {
        edit = λ pid. RegionChanges i r new at (record { base = same.base; kind = kinds; count = same.rows; rows = fit; flags = flags; watched = watched; plain = λ e. cc; charged = tt });
        views = λ n. omega (arith, sum_by-put (λ (r : RegionOf (Unit {0})). one_if (is_view_of n r.kind)) p.regions i r new at, ap (λ k. one_if (is_view_of n k)) kinds);
      }

  -- a key that stays
  pub set_named : (pid v : ℕ) (k : Key) → LaidOut first_user_page p.regions → (holds_page (pages_of r) v ≡ true → region_key t pid v r ≡ Some k → region_key t pid v new ≡ Some k) → key_in t pid p.regions v ≡ Some k → key_in t pid (set p.regions i new) v ≡ Some k
  set_named pid v k laid keeps named =
      let was : has (region_key t pid v) p.regions v ≡ Some k = sym (key_in_has t pid p.regions v) ∙ named in
      key_in_has t pid (set p.regions i new) v ∙ has_set (region_key t pid v) first_user_page i v p.regions r new laid at same
      ∙ cond_both (holds_page (pages_of r) v) (region_key t pid v new) (has (region_key t pid v) p.regions v) (λ o. o ≡ Some k)
      (λ e. keeps e (sym (has_at (region_key t pid v) first_user_page i v p.regions r laid at e) ∙ was)) (λ e. was)

-- ---- marks

marked_or_not : (rows : List (RowOf (Unit {0}))) (v : View) → count_by (is_charged (kind.View v)) rows + count_by (λ row. not row.marked) rows ≡ length rows
marked_or_not [] v = refl
marked_or_not (row ∷ rows) v =
    omega (
      arith,
      sum_by-cons (λ (row : RowOf (Unit {0})). one_if row.marked) row rows,
      sum_by-cons (λ (row : RowOf (Unit {0})). one_if (not row.marked)) row rows,
      marked_or_not rows v,
      one_or_other row.marked,
    )

-- a protection charges the pages that it marks
pub protect_count : (rs : List (RegionOf (Unit {0}))) (range : Range) (r : Found (RegionOf (Unit {0}))) (prot : ℕ) → region_around rs range ≡ Some r → count_by (is_charged r.thing.kind) (change_range (protected r.thing.kind prot) (range.first - r.thing.base) range.count r.thing.rows) ≡ count_by (is_charged r.thing.kind) r.thing.rows + new_marks rs range prot
protect_count rs range r prot found =
    let named : new_marks rs range prot ≡ newly_marked r.thing.kind rs range prot =
    ap (λ o. unwrap_or (option_map (λ (r : Found (RegionOf (Unit {0}))). newly_marked r.thing.kind rs range prot) o) 0) found in
    omega (arith, by_kind r.thing.kind, named)
  where
    rows : List (RowOf (Unit {0}))
    rows = in_range range r.thing

    after_change : (k : Kind) → List (RowOf (Unit {0}))
    after_change k = change_range (protected k prot) (range.first - r.thing.base) range.count r.thing.rows

    by_base : (v : View) (b : Bool) → (base_of prot == 0x08) ≡ b → count_by (is_charged (kind.View v)) (after_change (kind.View v)) ≡ count_by (is_charged (kind.View v)) r.thing.rows + cond b (count_by (λ row. not row.marked) rows) 0
    by_base v true e =
        let all = count-all (is_charged (kind.View v)) (protected (kind.View v) prot) rows (λ row. ap (λ b. row.marked || b) e ∙ or_true row.marked) in
        omega (arith, count-change_range (is_charged (kind.View v)) (protected (kind.View v) prot) (range.first - r.thing.base) range.count r.thing.rows, all, marked_or_not rows v)
    by_base v false e =
        let same = count-same (is_charged (kind.View v)) (protected (kind.View v) prot) rows (λ row. ap (λ b. row.marked || b) e ∙ or_false row.marked) in
        omega (arith, count-change_range (is_charged (kind.View v)) (protected (kind.View v) prot) (range.first - r.thing.base) range.count r.thing.rows, same)

    by_kind : (k : Kind) → count_by (is_charged k) (after_change k) ≡ count_by (is_charged k) r.thing.rows + newly_marked k rs range prot
    by_kind kind.Private =
        let same = count-same has_own (protected kind.Private prot) rows (λ row. refl) in
        omega (arith, count-change_range has_own (protected kind.Private prot) (range.first - r.thing.base) range.count r.thing.rows, same)
    by_kind (kind.View v) =
        let unmarked : newly_marked (kind.View v) rs range prot ≡ cond (base_of prot == 0x08) (count_by (λ row. not row.marked) rows) 0 =
        ap (λ o. cond (base_of prot == 0x08) (count_by (λ row. not row.marked) (rows_of_range range o)) 0) found in
        omega (arith, by_base v (base_of prot == 0x08) refl, unmarked)

-- ---- the rows of a range are changed

module _ (t : Tables) (pid : ℕ) (p : ProcessOf (Unit {0})) (i : ℕ) (r : RegionOf (Unit {0})) (range : Range) (lives : process_of t pid ≡ Some p) (h : WellFormed t) (at : slice_get p.regions i ≡ Some r) (inside : Inside range (pages_of r)) where
  pub change_stands : (change : RowOf (Unit {0}) → RowOf (Unit {0})) → (RowsFit r → RowsFit (change_rows change range r)) → StandIn t p.regions (set p.regions i (change_rows change range r))
  change_stands change fit = set_stands t p i r (change_rows change range r) at (same_pages change range r) refl (flags_stay r (change_rows change range r) refl (same_pages change range r).rows refl) refl fit

  -- a row that is changed keeps its key, of the process with this number
  abbrev pub KeepsKey : (RowOf (Unit {0}) → RowOf (Unit {0})) → ℕ → ℕ → Key → Type 0
  KeepsKey change n v k = (row : RowOf (Unit {0})) → home_key t n v (v - r.base) r.kind row.own ≡ Some k → home_key t n v (v - r.base) r.kind (change row).own ≡ Some k

  by_row : (change : RowOf (Unit {0}) → RowOf (Unit {0})) (n v : ℕ) (k : Key) (b : Bool) (o : Option (RowOf (Unit {0}))) → (b ≡ true → KeepsKey change n v k) → option_and_then (λ row. home_key t n v (v - r.base) r.kind row.own) o ≡ Some k → option_and_then (λ row. home_key t n v (v - r.base) r.kind row.own) (cond b (option_map change o) o) ≡ Some k
  by_row change n v k b None keeps e = cc
  by_row change n v k true (Some row) keeps e = keeps refl row e
  by_row change n v k false (Some row) keeps e = e

  -- the pages of the range have what a row is made to have, and their places stay
  pub change_moves : (change : RowOf (Unit {0}) → RowOf (Unit {0})) (keys : Effect) (clears : Bool) (q : Pid) → ((row : RowOf (Unit {0})) → is_some (change row).own ≡ after keys true (is_some row.own)) → ((v : ℕ) (k : Key) → (clears ≡ true → holds_page range v ≡ false) → holds_page range v ≡ true → KeepsKey change q.0 v k) → Moves t q range keys Leaves clears p.regions (set p.regions i (change_rows change range r))
  change_moves change keys clears q makes keeps =
      record {
        owned = λ v. own_of_changed change keys makes first_user_page i p.regions range r v (h.spaces pid p lives).laid_out at inside;
        reserved = λ v. reserved_set p.regions i v r (change_rows change range r) at (same_pages change range r);
        named = λ v k clear.
            set_named t p i r (change_rows change range r) at (same_pages change range r) refl q.0 v k (h.spaces pid p lives).laid_out (λ held was.
            let w = within (pages_of r) v held in
            ap (λ o. option_and_then (λ row. home_key t q.0 v (v - r.base) r.kind row.own) o) (get-change_range change (range.first - r.base) range.count r.rows (v - r.base))
            ∙ ap (λ b. option_and_then (λ (row : RowOf (Unit {0})). home_key t q.0 v (v - r.base) r.kind row.own) (cond b (option_map change (slice_get r.rows (v - r.base))) (slice_get r.rows (v - r.base)))) (place_between range r.base v inside.low w.low)
            ∙ by_row change q.0 v k (holds_page range v) (slice_get r.rows (v - r.base)) (keeps v k clear) was);
      }

  module _ (private : is_private r.kind ≡ true) where
    commit_keeps : (n v i : ℕ) (k : Kind) (own : Option (Unit {0})) (name : Key) → is_private k ≡ true → home_key t n v i k own ≡ Some name → ◌≡◌ {A = Option (Unit {0})} (Some (unwrap_or own tt)) own
    commit_keeps n v i k (Some x) name private e = refl
    commit_keeps n v i kind.Private None name private e = cc
    commit_keeps n v i (kind.View x) None name private e = cc

    pub commit_moves : (q : Pid) (prot : ℕ) → q.0 ≡ pid → Moves t q range Makes Leaves false p.regions (set p.regions i (change_rows (commit tt prot) range r))
    commit_moves q prot same = change_moves (commit tt prot) Makes false q (λ row. refl) (λ v k clear held row e.
        ap (λ o. home_key t q.0 v (v - r.base) r.kind o) (commit_keeps q.0 v (v - r.base) r.kind row.own k private e) ∙ e)

    pub decommit_charge : charge (set_region t pid p i (change_rows (λ row. reserved_row) range r)) + count_by has_own (in_range range r) ≡ charge t
    decommit_charge =
        omega (
          arith,
          charge-set_region t pid p i r (change_rows (λ row. reserved_row) range r) lives at,
          private_charge r private,
          private_charge (change_rows (λ row. reserved_row) range r) private,
          count-change_range has_own (λ row. reserved_row) (range.first - r.base) range.count r.rows,
          count_by-none has_own (λ row. reserved_row) (in_range range r) (λ row. refl),
        )

    -- all charged pages have keys in the paging file
    pub paging_as_charge : (change : RowOf (Unit {0}) → RowOf (Unit {0})) → paging_count (set_region t pid p i (change_rows change range r)) + charge t ≡ paging_count t + charge (set_region t pid p i (change_rows change range r))
    paging_as_charge change =
        omega (
          arith,
          charge-set_region t pid p i r (change_rows change range r) lives at,
          paging-set_region t pid p i r (change_rows change range r) lives at,
          private_charge r private,
          private_charge (change_rows change range r) private,
        )

  same_own : (k : Kind) (prot : ℕ) (row : RowOf (Unit {0})) → (protected k prot row).own ≡ row.own
  same_own kind.Private prot row = refl
  same_own (kind.View v) prot row = refl

  pub protect_moves : (q : Pid) (prot : ℕ) → Moves t q range Leaves Leaves false p.regions (set p.regions i (change_rows (protected r.kind prot) range r))
  protect_moves q prot =
      change_moves (protected r.kind prot) Leaves false q (λ row. ap is_some (same_own r.kind prot row))
      (λ v k clear held row e. ap (λ o. home_key t q.0 v (v - r.base) r.kind o) (same_own r.kind prot row) ∙ e)

  pub protect_paging : (prot : ℕ) → paging_count (set_region t pid p i (change_rows (protected r.kind prot) range r)) ≡ paging_count t
  protect_paging prot =
      omega (
        arith,
        paging-set_region t pid p i r (change_rows (protected r.kind prot) range r) lives at,
        count-change_range has_own (protected r.kind prot) (range.first - r.base) range.count r.rows,
        count-same has_own (protected r.kind prot) (in_range range r) (λ row. ap is_some (same_own r.kind prot row)),
      )

-- ---- a region is removed

module _ (t : Tables) (pid : ℕ) (p : ProcessOf (Unit {0})) (i : ℕ) (r : RegionOf (Unit {0})) (lives : process_of t pid ≡ Some p) (h : WellFormed t) (at : slice_get p.regions i ≡ Some r) where
  pub release_moves : (q : Pid) → Moves t q (pages_of r) Ends Ends true p.regions (remove p.regions i)
  release_moves q =
      let laid = (h.spaces pid p lives).laid_out in
      record {
        owned = λ v.
            ap is_some (has_removed (λ (r : RegionOf (Unit {0})). own_in r v) first_user_page i v r p.regions laid at)
            ∙ some_cond (holds_page (pages_of r) v) None (own_page p.regions v);
        reserved = λ v. found_cond p.regions (remove p.regions i) v (holds_page (pages_of r) v) None (has_removed (λ (r : RegionOf (Unit {0})). Some r) first_user_page i v r p.regions laid at);
        named = λ v k clears was.
            key_in_has t q.0 (remove p.regions i) v ∙ has_removed (region_key t q.0 v) first_user_page i v r p.regions laid at
            ∙ ap (λ b. cond b None (has (region_key t q.0 v) p.regions v)) (clears refl) ∙ sym (key_in_has t q.0 p.regions v) ∙ was;
      }

  pub release_charge : charge (set_regions t pid p (remove p.regions i)) + region_charge r ≡ charge t
  release_charge = charge-remove_region t pid p i r lives at

  pub release_stands : is_private r.kind ≡ true → StandIn t p.regions (remove p.regions i)
  release_stands private =
      record {
        edit = λ pid. RegionGoes i r at (λ shared x here first. refl) tt;
        views = λ n.
            let f : RegionOf (Unit {0}) → ℕ = λ r. one_if (is_view_of n r.kind) in
            let none = ap (λ k. one_if (is_view_of n k)) (private_kind r.kind private) in
            omega (arith, sum_by-remove f p.regions i r (slice_get_within p.regions i r at), ap f (get_or_from_slice_get p.regions i r r at), none);
      }

-- ---- a region is added

pub not-true : (b : Bool) → not b ≡ true → b ≡ false
not-true true e = cc
not-true false e = refl

-- a free range meets none
pub is_clear : (rs : List (RegionOf (Unit {0}))) (range : Range) → is_free (ranges_of rs) range ≡ true → list_any (meets range) (ranges_of rs) ≡ false
is_clear rs range free = not-true (list_any (meets range) (ranges_of rs)) (and-true (are_user_pages range) (not (list_any (meets range) (ranges_of rs))) free).1

get-replicate : {A : Type 0} (n : ℕ) (x : A) (k : ℕ) → k < n → slice_get (replicate n x) k ≡ Some x
get-replicate n x k h = slice_get-get_or (replicate n x) k x (omega (arith, length-replicate n x)) ∙ ap (λ y. Some y) (get_or-replicate n k x x h)

-- the rows of a new region fit
pub new_rows_fit : (watched : Bool) (type prot : ℕ) (range : Range) → is_protection_among private_protections prot ≡ true → RowsFit (private_region blank watched type prot range)
new_rows_fit watched type prot range e =
    each-replicate (RowFits kind.Private) range.count (new_row blank type prot)
    (elim (type == reserve_type) as (λ b. RowFits kind.Private (cond b reserved_row (commit (blank 0) prot reserved_row)))
    [ true ↦ reserved_fits | false ↦ commit_fits (blank 0) prot reserved_row (allowed prot e) ])

module _ (t : Tables) (p : ProcessOf (Unit {0})) (new : RegionOf (Unit {0})) (range : Range) (pages : pages_of new ≡ range) (free : is_free (ranges_of p.regions) range ≡ true) where
  abbrev behind : ℕ
  behind = count_by (λ (r : RegionOf (Unit {0})). nat_lt r.base new.base) p.regions

  none_met : list_any (meets (pages_of new)) (ranges_of p.regions) ≡ false
  none_met = ap (λ (r : Range). list_any (meets r) (ranges_of p.regions)) pages ∙ is_clear p.regions range free

  -- its places are bound, and each of its pages has a key or none has
  pub added_moves : (keys : Effect) (q : Pid) → ((v : ℕ) → holds_page range v ≡ true → is_some (own_in new v) ≡ after keys true false) → Moves t q range keys Makes true p.regions (add_region new p.regions)
  added_moves keys q own =
      record {
        owned = λ v.
            ap is_some (has_added (λ (r : RegionOf (Unit {0})). own_in r v) new p.regions behind v none_met
            ∙ ap (λ (r : Range). cond (holds_page r v) (own_in new v) (own_page p.regions v)) pages)
            ∙ by_held (holds_page range v) (own_page p.regions v) (own_in new v) (own v) (λ held. own_free v new p.regions none_met (ap (λ (r : Range). holds_page r v) pages ∙ held));
        reserved = λ v.
            found_cond p.regions (add_region new p.regions) v (holds_page (pages_of new) v) (Some new) (has_added (λ (r : RegionOf (Unit {0})). Some r) new p.regions behind v none_met)
            ∙ ap (λ (r : Range). cond (holds_page r v) true (is_some (region_with p.regions v))) pages;
        named = λ v k clears was.
            key_in_has t q.0 (add_region new p.regions) v ∙ has_added (region_key t q.0 v) new p.regions behind v none_met
            ∙ ap (λ b. cond b (region_key t q.0 v new) (has (region_key t q.0 v) p.regions v)) (ap (λ (r : Range). holds_page r v) pages ∙ clears refl)
            ∙ sym (key_in_has t q.0 p.regions v) ∙ was;
      }
    where
      by_held : (held : Bool) (was now : Option (Unit {0})) → (held ≡ true → is_some now ≡ after keys true false) → (held ≡ true → was ≡ None) → is_some (cond held now was) ≡ after keys held (is_some was)
      by_held true was now made none = made refl ∙ ap (after keys true) (sym (ap is_some (none refl)))
      by_held false was now made none = sym (outside keys (is_some was))

module _ (t : Tables) (pid : ℕ) (p : ProcessOf (Unit {0})) (watched : Bool) (type prot : ℕ) (range : Range) (lives : process_of t pid ≡ Some p) (free : is_free (ranges_of p.regions) range ≡ true) where
  abbrev new : RegionOf (Unit {0})
  new = private_region blank watched type prot range

  abbrev place : ℕ
  place = count_by (λ (r : RegionOf (Unit {0})). nat_lt r.base range.first) p.regions

  pages : pages_of new ≡ range
  pages i = record { first = range.first; count = length-replicate range.count (new_row blank type prot) i }

  -- what a page of the region has
  new_own : (v : ℕ) → holds_page range v ≡ true → is_some (own_in new v) ≡ is_some (new_row blank type prot).own
  new_own v held =
      let w = within range v held in
      ap (λ o. is_some (option_and_then (λ (row : RowOf (Unit {0})). row.own) o)) (get-replicate range.count (new_row blank type prot) (v - range.first) (omega (arith, w.low, w.high)))

  pub reserve_moves : (q : Pid) → Moves t q range (keys_of type) Makes true p.regions (add_region new p.regions)
  reserve_moves q =
      added_moves t p new range pages free (keys_of type) q (λ v held. new_own v held
      ∙ elim (type == reserve_type) as (λ b. is_some (cond b reserved_row (commit (blank 0) prot reserved_row)).own ≡ after (cond b Leaves Makes) true false) [ true ↦ refl | false ↦ refl ])

  new_rows : own_rows new ≡ new_pages type range
  new_rows =
      count-replicate has_own range.count (new_row blank type prot)
      ∙ elim (type == reserve_type) as (λ b. cond (is_some (cond b reserved_row (commit (blank 0) prot reserved_row)).own) range.count 0 ≡ cond b 0 range.count) [ true ↦ refl | false ↦ refl ]

  pub reserve_charge : charge (set_regions t pid p (add_region new p.regions)) ≡ charge t + new_pages type range
  reserve_charge =
      omega (
        arith,
        charge-set_regions t pid p (add_region new p.regions) lives,
        sum_by-insert region_charge p.regions place new,
        private_charge new refl,
        new_rows,
      )

  pub reserve_paging : paging_count (set_regions t pid p (add_region new p.regions)) ≡ paging_count t + new_pages type range
  reserve_paging = omega (arith, paging-add_region t pid p place new lives, new_rows)

  pub reserve_stands : range.first % 16 ≡ 0 → 1 ≤ range.count → is_protection_among private_protections prot ≡ true → StandIn t p.regions (add_region new p.regions)
  reserve_stands granule some e =
      record {
        edit = λ pid. RegionComes new (record {
          placed = subst (λ (r : Range). IsPlaced (ranges_of p.regions) r) (sym pages) (free_of (ranges_of p.regions) range granule free);
          some = omega (arith, some, length-replicate range.count (new_row blank type prot));
          flags = private_flags blank watched type prot range;
          rows = new_rows_fit watched type prot range e;
          refers = λ v is. cc;
          plain = λ e. cc;
          charged = tt;
        });
        views = λ n. omega (arith, sum_by-insert (λ (r : RegionOf (Unit {0})). one_if (is_view_of n r.kind)) p.regions place new);
      }

-- ---- rows that fit

guard_fits : (t : Tables) (i : ℕ) (k : Kind) (row : RowOf (Unit {0})) (home : Home (Unit {0})) → home_in t i k row.own ≡ Some home → RowFits k row → RowFits k (record row { guard = false })
guard_fits t i kind.Private row home there h =
    record {
      unmarked = h.unmarked;
      reserved = λ n. let bad : None ≡ Some home = sym (ap (home_in t i kind.Private) n) ∙ there in cc;
      committed = h.committed;
    }
guard_fits t i (kind.View v) row home there h = record { copied = h.copied; copy_view = h.copy_view; held = h.held }

copy_fits : (k : Kind) (row : RowOf (Unit {0})) → row.marked ≡ true → RowFits k row → RowFits k (record row { own = Some tt; prot = 0x04 })
copy_fits kind.Private row marked h = let bad : true ≡ false = sym marked ∙ h.unmarked in cc
copy_fits (kind.View v) row marked h =
    record {
      copied = λ n. marked;
      copy_view = λ n. marked;
      held = subst (λ m. is_one_of (held_protections {B = Unit {0}} v.access (Some (tt {0})) m) 0x04 ≡ true) (sym marked) refl;
    }

-- a marked row is a view's
not_private : (k : Kind) (row : RowOf (Unit {0})) → row.marked ≡ true → RowFits k row → (v : View) × (k ≡ kind.View v)
not_private kind.Private row marked h = let bad : true ≡ false = sym marked ∙ h.unmarked in absurd (let no : ⊥ = cc in no)
not_private (kind.View v) row marked h = (v, refl)

-- a range of one
one_changed : {A : Type 0} (change : A → A) (xs : List A) (i : ℕ) (x : A) → slice_get xs i ≡ Some x → change_range change i 1 xs ≡ set xs i (change x)
one_changed change [] i x at = cc
one_changed change (y ∷ xs) zero x at = ap (λ y. change y ∷ xs) (let same : y ≡ x = cc in same)
one_changed change (y ∷ xs) (suc i) x at = ap (λ ys. y ∷ ys) (one_changed change xs i x at)

module _ (t : Tables) (q : Pid) (p : ProcessOf (Unit {0})) (page : ℕ) (c : Committed (Unit {0})) (lives : process_of t q.0 ≡ Some p) (there : committed_at t p.regions page ≡ Some c) (h : WellFormed t) where
  abbrev r : RegionOf (Unit {0})
  r = c.region.thing

  abbrev i : ℕ
  i = page - c.region.thing.base

  -- the region, and the regions, with another row of this page
  abbrev with_row : RowOf (Unit {0}) → RegionOf (Unit {0})
  with_row row = record c.region.thing { rows = set c.region.thing.rows (page - c.region.thing.base) row }

  abbrev regions_with : RowOf (Unit {0}) → List (RegionOf (Unit {0}))
  regions_with row = set p.regions c.region.place (with_row row)

  is : IsCommitted t p.regions page c
  is = committed_is t p.regions page c there

  stands : Stands (λ (r : RegionOf (Unit {0})). holds_page (pages_of r) page) p.regions c.region
  stands = found_stands (λ (r : RegionOf (Unit {0})). holds_page (pages_of r) page) p.regions c.region is.region

  inner : Within (one_page_range page) (pages_of r)
  inner = let w = within (pages_of r) page stands.passes in record { low = w.low; high = omega (arith, w.high) }

  fits : RowFits r.kind c.row
  fits = each-at (RowFits r.kind) r.rows i c.row (each-at RowsFit p.regions c.region.place r (h.spaces q.0 p lives).rows stands.there) is.row_there

  same_count : (row : RowOf (Unit {0})) → SamePages r (with_row row)
  same_count row = record { base = refl; rows = length-set r.rows i row }

  row_stands : (row : RowOf (Unit {0})) → RowFits r.kind row → StandIn t p.regions (regions_with row)
  row_stands row fit = set_stands t p c.region.place r (with_row row) stands.there (same_count row) refl (flags_stay r (with_row row) refl (same_count row).rows refl) refl (λ rows. each-set (RowFits r.kind) r.rows i row rows fit)

  -- a row that is changed is the range of one page changed
  row_moves : (change : RowOf (Unit {0}) → RowOf (Unit {0})) (keys : Effect) (clears : Bool) → ((row : RowOf (Unit {0})) → is_some (change row).own ≡ after keys true (is_some row.own)) → ((v : ℕ) (k : Key) → (clears ≡ true → holds_page (one_page_range page) v ≡ false) → holds_page (one_page_range page) v ≡ true → KeepsKey t q.0 p c.region.place r (one_page_range page) lives h stands.there inner change q.0 v k) → Moves t q (one_page_range page) keys Leaves clears p.regions (regions_with (change c.row))
  row_moves change keys clears makes keeps =
      subst (λ rows. Moves t q (one_page_range page) keys Leaves clears p.regions (set p.regions c.region.place (record c.region.thing { rows = rows }))) (one_changed change r.rows i c.row is.row_there)
      (change_moves t q.0 p c.region.place r (one_page_range page) lives h stands.there inner change keys clears q makes keeps)

  row_paging : (row : RowOf (Unit {0})) → paging_count (set_row t q.0 p c.region page row) + one_if (has_own c.row) ≡ paging_count t + one_if (has_own row)
  row_paging row =
      omega (
        arith,
        paging-set_region t q.0 p c.region.place r (with_row row) lives stands.there,
        sum_by-put (λ (row : RowOf (Unit {0})). one_if (has_own row)) r.rows i c.row row is.row_there,
      )

  -- ---- the guard is off

  abbrev off : RowOf (Unit {0})
  off = record c.row { guard = false }

  pub guard_stands : StandIn t p.regions (regions_with off)
  guard_stands = row_stands off (guard_fits t i r.kind c.row c.home is.home_there fits)

  pub guard_charge : charge (guard_off t q.0 p c page) ≡ charge t
  guard_charge = charge-guard_off t q.0 p c page lives there

  pub guard_moved : (contents : Key → Option Page) (s : StoreOf) → FitsTables t contents s → FitsTables (guard_off t q.0 p c page) contents s
  guard_moved contents s f =
      moved t q p (one_page_range page) Leaves Leaves false (regions_with off) contents contents s s lives f
      (record { contents = refl; paging = refl; bound = refl; names = refl; open_same = refl; areas_same = refl; same = refl })
      (row_moves (λ row. record row { guard = false }) Leaves false (λ row. refl) (λ v k clear held row e. e)) (omega (arith, f.counted, row_paging off)) (omega (arith, f.room, guard_charge))

  -- ---- the page has bytes of its own

  module _ (can : CanCopy c) where
    abbrev copy : RowOf (Unit {0})
    copy = record c.row { own = Some tt; prot = 0x04 }

    abbrev u : Tables
    u = set_row t q.0 p c.region page copy

    pub copy_stands : StandIn t p.regions (regions_with copy)
    copy_stands = row_stands copy (copy_fits r.kind c.row can.marked fits)

    copy_view : (v : View) × (r.kind ≡ kind.View v)
    copy_view = not_private r.kind c.row can.marked fits

    pub copy_charge : charge u ≡ charge t
    copy_charge = charge-set_row t q.0 p c page copy lives is (subst (λ k. is_charged k copy ≡ is_charged k c.row) (sym copy_view.1) refl)

    copy_moves : Moves t q (one_page_range page) Makes Leaves true p.regions (regions_with copy)
    copy_moves = row_moves (λ row. record row { own = Some tt; prot = 0x04 }) Makes true (λ row. refl) (λ v k clear held. let bad : true ≡ false = sym held ∙ clear refl in cc)

    copy_key : key_at u (place_at q page) ≡ Some (own_key (place_at q page))
    copy_key =
        key_at_is u (place_at q page) ∙ ap (λ rs. key_in u q.0 rs page) (regions_set_same t q.0 p (regions_with copy) lives)
        ∙ key_in_has u q.0 (regions_with copy) page
        ∙ has_set (region_key u q.0 page) first_user_page c.region.place page p.regions r (with_row copy) (h.spaces q.0 p lives).laid_out stands.there (same_count copy)
        ∙ ap (λ b. cond b (region_key u q.0 page (with_row copy)) (has (region_key u q.0 page) p.regions page)) stands.passes
        ∙ ap (λ o. option_and_then (λ (row : RowOf (Unit {0})). home_key u q.0 page i r.kind row.own) o) (get_set_same r.rows i copy (get_within r.rows i c.row is.row_there))

    -- before the place names the new key
    abbrev unnamed : StoreOf → StoreOf
    unnamed s = record s { names = changed_in q (one_page_range page) s.names None; paging = flags_set_in q (one_page_range page) s.paging true; paging_keys = s.paging_keys + 1 }

    copied_first : (contents : Key → Option Page) (s : StoreOf) → FitsTables t contents s → FitsTables u (with_range_keys q (one_page_range page) contents) (unnamed s)
    copied_first contents s f =
        moved t q p (one_page_range page) Makes Leaves true (regions_with copy) contents (with_range_keys q (one_page_range page) contents) s (unnamed s) lives f
        (record { contents = refl; paging = refl; bound = refl; names = refl; open_same = refl; areas_same = refl; same = refl })
        copy_moves (omega (arith, f.counted, row_paging copy, ap (λ (o : Option (Unit {0})). one_if (is_some o)) can.shared)) (omega (arith, f.room, copy_charge))

    live_too : (contents : Key → Option Page) (bytes : Page) (k : Key) → is_some (changed same_key contents (own q page) (Some bytes) k) ≡ is_some (with_range_keys q (one_page_range page) contents k)
    live_too contents bytes k =
        some_cond (same_key k (own q page)) (Some bytes) (contents k) ∙ ap (λ b. cond b true (is_some (contents k))) (sym (key_in_only q page k))
        ∙ sym (some_cond (is_key_in q (one_page_range page) k) (Some (unwrap_or (contents k) (filled 0))) (contents k))

    pub copy_moved : (contents : Key → Option Page) (s : StoreOf) (bytes : Page) → FitsTables t contents s → FitsTables u (changed same_key contents (private_key q.0 page) (Some bytes)) (copied (place_at q page) s)
    copy_moved contents s bytes f =
        let g = copied_first contents s f in
        assumption (
          λ (k : Key). live_too contents bytes k ∙ g.live k,
          λ (k : Key). ap (λ (h : Key → Bool). h k) (sym (set_only q page s.paging true)) ∙ g.paging k,
          λ (place : Place) (k : Key). named g place k (same_place place (place_at q page)) refl,
          g,
        )
      where
        named : FitsTables u (with_range_keys q (one_page_range page) contents) (unnamed s) → (place : Place) (k : Key) (b : Bool) → same_place place (place_at q page) ≡ b → cond b (Some (own_key (place_at q page))) (s.names place) ≡ Some k → key_at u place ≡ Some k
        named g place k true same e = ap (λ (place : Place). key_at u place) (same_place_is q page place same) ∙ copy_key ∙ e
        named g place k false other e = g.named place k (ap (λ b. cond b None (s.names place)) (place_in_only q page place ∙ other) ∙ e)

    -- the row that a look-up finds is this one
    pub copy_marked : (found : Found (RegionOf (Unit {0}))) (row : RowOf (Unit {0})) → region_with p.regions page ≡ Some found → row_at found.thing page ≡ Some row → (is_private found.thing.kind ≡ false) × (row.marked ≡ true)
    copy_marked found row region at_page =
        let same : c.region ≡ found = same_found (region_with p.regions page) c.region found is.region region in
        let rows : c.row ≡ row =
        same_found (row_at found.thing page) c.row row (ap (λ (r : Found (RegionOf (Unit {0}))). row_at r.thing page) (sym same) ∙ is.row_there) at_page in (
          ap (λ (r : Found (RegionOf (Unit {0}))). is_private r.thing.kind) (sym same) ∙ ap is_private copy_view.1,
          ap (λ (row : RowOf (Unit {0})). row.marked) (sym rows) ∙ can.marked,
        )

-- ---- What look-ups find

pub some_with : {A : Type 0} (o : Option A) (P : A → Type 0) → IsSomeAnd o P → (a : A) × ((o ≡ Some a) × P a)
some_with None P h = absurd h
some_with (Some a) P h = (a, (refl, h))

-- a page of a view lies within its area
pub in_area : (t : Tables) (pid page : ℕ) (p : ProcessOf (Unit {0})) (row : PageRow) → WellFormed t → process_of t pid ≡ Some p → told_page_row p.regions page ≡ Some row → (v : View) → row.kind ≡ kind.View v → v.first + row.index < length (area_at t v.area.0).pages
in_area t pid page p row h lives found v is =
    option_and_then_some (λ (r : Found (RegionOf (Unit {0}))). option_map (told_row r.thing page) (row_at r.thing page)) (region_with p.regions page) row found (λ r there told.
    by_row r there (row_at r.thing page) told)
  where
    by_row : (r : Found (RegionOf (Unit {0}))) → region_with p.regions page ≡ Some r → (o : Option (RowOf (Unit {0}))) → option_map (told_row r.thing page) o ≡ Some row → v.first + row.index < length (area_at t v.area.0).pages
    by_row r there None told = cc
    by_row r there (Some x) told =
        let same : told_row r.thing page x ≡ row = cc in
        let stands = found_stands (λ (r : RegionOf (Unit {0})). holds_page (pages_of r) page) p.regions r there in
        let fits = each-at (RegionRefers t) p.regions r.place r.thing (h.references.processes pid p lives).views stands.there v (ap (λ (w : PageRow). w.kind) same ∙ is) in
        let w = within (pages_of r.thing) page stands.passes in
        omega (arith, fits.within, ap (λ (w : PageRow). w.index) same, w.low, w.high)

-- ---- the tables as they are kept, after a step on one committed row

module _ {i : InTables} {t : Tables} {pid : ℕ} {o : Option Process} {rs : List (RegionOf (Unit {0}))} (h : Held i t pid o rs) (space : RegionsOf) (page : ℕ) (change : RowOf (Unit {0}) → RowOf (Unit {0})) (changed : (r : Found (RegionOf (Unit {0}))) (row : RowOf (Unit {0})) → region_with rs page ≡ Some r → row_at r.thing page ≡ Some row → space.regions ≡ set rs r.place (record r.thing { rows = set r.thing.rows (page - r.thing.base) (change row) })) where
  abbrev with_change : List (RegionOf (Unit {0})) → Committed (Unit {0}) → List (RegionOf (Unit {0}))
  with_change rs k = set rs k.region.place (record k.region.thing { rows = set k.region.thing.rows (page - k.region.thing.base) (change k.row) })

  row_became : (p : ProcessOf (Unit {0})) (k : Committed (Unit {0})) → process_of t pid ≡ Some p → committed_at t p.regions page ≡ Some k → space.regions ≡ with_change p.regions k
  row_became p k lives there =
      let same = regions_by h p lives in
      let is = committed_is t p.regions page k there in
      changed k.region k.row (ap (λ rs. region_with rs page) same ∙ is.region) is.row_there ∙ ap (λ rs. with_change rs k) same

  pub row_changed : (p : ProcessOf (Unit {0})) (k : Committed (Unit {0})) → process_of t pid ≡ Some p → committed_at t p.regions page ≡ Some k → shown_with i (set i.processes.items (pid - 1) (with_space o space)) ≡ set_row t pid p k.region page (change k.row)
  row_changed p k lives there = h.changed space p (with_change p.regions k) (row_became p k lives there) lives

  pub row_kept : (k : Committed (Unit {0})) → committed_at t h.process.regions page ≡ Some k → StandIn t h.process.regions (with_change h.process.regions k) → charge (set_row t pid h.process k.region page (change k.row)) ≡ charge t → AreKeptTables (shown_with i (set i.processes.items (pid - 1) (with_space o space))) i.directory.entries i.commit
  row_kept k there stands same =
      still_kept h space (with_change h.process.regions k) i.commit i.commit.charge (row_became h.process k h.lives there) stands (same ∙ sym h.kept.charged)
      (omega (arith, h.kept.charged, h.kept.sound.charged)) refl refl

-- ---- the flags of a region of a process are others

-- nothing that a store or a count goes by is other
module _ (t : Tables) (q : Pid) (p : ProcessOf (Unit {0})) (i : ℕ) (r : RegionOf (Unit {0})) (change : List Bool → List Bool) (long : (flags : List Bool) → length (change flags) ≡ length flags) (lives : process_of t q.0 ≡ Some p) (at : slice_get p.regions i ≡ Some r) (h : WellFormed t) where
  abbrev flags_new : RegionOf (Unit {0})
  flags_new = change_flags change r

  same : SamePages r flags_new
  same = record { base = refl; rows = refl }

  flags_stand : StandIn t p.regions (set p.regions i flags_new)
  flags_stand = set_stands t p i r flags_new at same refl (flags_changed change r long) (some_map change r.watched) (λ rows. rows)

  flags_charge : charge (set_region t q.0 p i flags_new) ≡ charge t
  flags_charge = omega (arith, charge-set_region t q.0 p i r flags_new lives at)

  own_same : (v : ℕ) → own_page (set p.regions i flags_new) v ≡ own_page p.regions v
  own_same v =
      let laid = (h.spaces q.0 p lives).laid_out in
      has_set (λ (r : RegionOf (Unit {0})). own_in r v) first_user_page i v p.regions r flags_new laid at same
      ∙ cond_both (holds_page (pages_of r) v) (own_in flags_new v) (own_page p.regions v) (λ o. o ≡ own_page p.regions v)
      (λ e. sym (has_at (λ (r : RegionOf (Unit {0})). own_in r v) first_user_page i v p.regions r laid at e)) (λ e. refl)

  flags_moves : Moves t q (pages_of r) Leaves Leaves false p.regions (set p.regions i flags_new)
  flags_moves =
      record {
        owned = λ v. ap is_some (own_same v);
        reserved = λ v. reserved_set p.regions i v r flags_new at same;
        named = λ v k clear. set_named t p i r flags_new at same refl q.0 v k (h.spaces q.0 p lives).laid_out (λ held was. was);
      }

  flags_moved : (contents : Key → Option Page) (s : StoreOf) → FitsTables t contents s → FitsTables (set_region t q.0 p i flags_new) contents s
  flags_moved contents s f =
      moved t q p (pages_of r) Leaves Leaves false (set p.regions i flags_new) contents contents s s lives f
      (record { contents = refl; paging = refl; bound = refl; names = refl; open_same = refl; areas_same = refl; same = refl })
      flags_moves (omega (arith, f.counted, paging-set_region t q.0 p i r flags_new lives at)) (omega (arith, f.room, flags_charge))

-- ---- the tables as they are kept, after a step on the flags of the region that a look-up finds

module _ {i : InTables} {t : Tables} {q : Pid} {o : Option Process} {rs : List (RegionOf (Unit {0}))} (h : Held i t q.0 o rs) (space : RegionsOf) (test : RegionOf (Unit {0}) → Bool) (flags : RegionOf (Unit {0}) → List Bool → List Bool) (long : (r : RegionOf (Unit {0})) (ws : List Bool) → length (flags r ws) ≡ length ws) (changed : (r : Found (RegionOf (Unit {0}))) → first_where test rs ≡ Some r → space.regions ≡ set rs r.place (change_flags (flags r.thing) r.thing)) where
  abbrev with_flags : List (RegionOf (Unit {0})) → Found (RegionOf (Unit {0})) → List (RegionOf (Unit {0}))
  with_flags rs r = set rs r.place (change_flags (flags r.thing) r.thing)

  flags_became : (p : ProcessOf (Unit {0})) (r : Found (RegionOf (Unit {0}))) → process_of t q.0 ≡ Some p → first_where test p.regions ≡ Some r → space.regions ≡ with_flags p.regions r
  flags_became p r lives found =
      let same = regions_by h p lives in
      changed r (ap (first_where test) same ∙ found) ∙ ap (λ rs. with_flags rs r) same

  pub flagged : (p : ProcessOf (Unit {0})) (r : Found (RegionOf (Unit {0}))) → process_of t q.0 ≡ Some p → first_where test p.regions ≡ Some r → shown_with i (set i.processes.items (q.0 - 1) (with_space o space)) ≡ set_region t q.0 p r.place (change_flags (flags r.thing) r.thing)
  flagged p r lives found = h.changed space p (with_flags p.regions r) (flags_became p r lives found) lives

  module _ (r : Found (RegionOf (Unit {0}))) (found : first_where test h.process.regions ≡ Some r) where
    at : slice_get h.process.regions r.place ≡ Some r.thing
    at = (found_stands test h.process.regions r found).there

    pub flags_kept : AreKeptTables (shown_with i (set i.processes.items (q.0 - 1) (with_space o space))) i.directory.entries i.commit
    flags_kept =
        let same = flags_charge t q h.process r.place r.thing (flags r.thing) (long r.thing) h.lives at h.kept.sound in
        still_kept h space (with_flags h.process.regions r) i.commit i.commit.charge (flags_became h.process r h.lives found)
        (flags_stand t q h.process r.place r.thing (flags r.thing) (long r.thing) h.lives at h.kept.sound) (same ∙ sym h.kept.charged)
        (omega (arith, h.kept.charged, h.kept.sound.charged)) refl refl

    pub flags_fit : (contents : Key → Option Page) (s : StoreOf) → FitsTables t contents s → FitsTables (shown_with i (set i.processes.items (q.0 - 1) (with_space o space))) contents s
    flags_fit contents s f =
        subst (λ (t : Tables). FitsTables t contents s) (sym (flagged h.process r h.lives found))
        (flags_moved t q h.process r.place r.thing (flags r.thing) (long r.thing) h.lives at h.kept.sound contents s f)

  -- a step on the region, if one is found
  module _ (kept : first_where test rs ≡ None → space.regions ≡ rs) where
    pub none_found : (p : ProcessOf (Unit {0})) → process_of t q.0 ≡ Some p → first_where test p.regions ≡ None → shown_with i (set i.processes.items (q.0 - 1) (with_space o space)) ≡ t
    none_found p lives none = same_tables h space (kept (ap (first_where test) (regions_by h p lives) ∙ none))

    pub either_kept : AreKeptTables (shown_with i (set i.processes.items (q.0 - 1) (with_space o space))) i.directory.entries i.commit
    either_kept = by_found (first_where test h.process.regions) refl
      where
        by_found : (f : Option (Found (RegionOf (Unit {0})))) → first_where test h.process.regions ≡ f → AreKeptTables (shown_with i (set i.processes.items (q.0 - 1) (with_space o space))) i.directory.entries i.commit
        by_found None none = kept_same h space (kept (ap (first_where test) h.same ∙ none))
        by_found (Some r) found = flags_kept r found

    pub either_fit : (contents : Key → Option Page) (s : StoreOf) → FitsTables t contents s → FitsTables (shown_with i (set i.processes.items (q.0 - 1) (with_space o space))) contents s
    either_fit contents s f = by_found (first_where test h.process.regions) refl
      where
        by_found : (found : Option (Found (RegionOf (Unit {0})))) → first_where test h.process.regions ≡ found → FitsTables (shown_with i (set i.processes.items (q.0 - 1) (with_space o space))) contents s
        by_found None none = subst (λ (t : Tables). FitsTables t contents s) (sym (none_found h.process h.lives none)) f
        by_found (Some r) found = flags_fit r found contents s f
