-- A view more, or pages of a section more.
use Rattle.std.proofs.Common.{◌++◌, ◌≡◌, ℕ, zero, suc, ◌+◌, ◌-◌, ◌≤◌, ◌<◌, true, false, Option, Some, None, List, [], ◌∷◌, refl, sym, ◌∙◌, ap, subst, arith, length, set, get_or, slice_get, is_some, option_map, unwrap_or, cond, not, ◌&&◌, ◌||◌, ◌^◌, Bool, count_by, take, drop, ◌≢◌, nat_lt, replicate}
use Rattle.mm_types.proofs.{none_of, some_get, same_found, and_false, spread, not_true, get_set_other, get_set_same, some_found, differ}
use Rattle.mm_world.specs.{RegionOf, ProcessOf, AreaOf, set_area, area_at, no_area, charge, limit, area_charge, Tables, Page, filled, numbered}
use Rattle.mm_world.specs.{same_key, pages_of, Numbered, blank, is_view_of, LaidOut, RegionRefers, ViewFits, Found, process_of, region_around}
use Rattle.mm_world.specs.{set_regions, change_range, shared_page, commit_shared, is_one_of, is_protection_among, private_protections, accepts}
use Rattle.mm_world.specs.{protected, change_rows, every_page, RowOf, SectionOf, section_of, ranges_of, add_region, is_private, region_charge}
use Rattle.mm_world.specs.{view_region, first_protection, is_copy, RowFits}
use Rattle.mm_world.specs.WellFormed.{WellFormed}
use Rattle.mm_world.proofs.{sum_by-put, AreaChanges, charge-set_region, each-at, Stands, found_stands, length-change_range, view_rows_protected}
use Rattle.mm_world.proofs.{charge-set_regions, each-replicate, numbered_there, no_flags, IsPlaced, free_of, new_view_fits, begins_before}
use Rattle.mm_world.proofs.{RegionComes, any_insert}
use Rattle.mm_object_tables.specs.{paging_count, IsTidy, shown_process, shown_processes, living, Process, is_shared_in, with_live, CanShare, process_regions}
use Rattle.mm_object_tables.specs.{process_handles, with_handles, with_space, Shares, FitsTables, Settled, Carried, store_beside, newly_marked, new_marks}
use Rattle.mm_object_tables.specs.{views_in, views_of, AreKeptTables, Roomier, Leaves, listed_area, Makes, new_pages, handles_in, handles_to, region_of_view}
use Rattle.mm_object_tables.specs.{NewPlaces}
use Rattle.mm_object_tables.proofs.Keeping.{Alike, alike_same, area_more, settle_by, section_settled, area_settled, rest_of, tidy_by, AreasFit, areas_rest, file_at, sound_edit, lives_where, shown_at, shown_set, spaced, handled, regions_as, handles_by, StandIn, kept_after, put_tidy}
use Rattle.std.specs.Prelude.{◌==◌, is_none, IfSome, ◌%◌, option_and_then}
use Rattle.std.specs.Cmp.{unsigned_Decides}
use Rattle.mm_types.specs.{Key, Area, Range, Kind, end_of_user_pages, first_user_page, end_of, lies_within, Pid, View, base_of, is_free, reserve_type}
use Rattle.mm_types.specs.{limit_of}
use Rattle.mm_types.specs.declared.numbers.Key.TheVariants as key
use Rattle.mm_store.specs.{StoreOf, rearranged, AllBound}
use Rattle.mm_move_rules.specs.{changed}
use Rattle.mm_sections.specs.{uncommitted_in, CountedSection, DirectoryOf, HandlesOf, sections_of, one_view_more}
use Rattle.mm_object_tables.proofs.Rows.{some_cond, holds_not, at_added, within, inside, Inside as LiesIn, own_rows, paging-add_region}
use Rattle.mm_object_tables.proofs.Lists.{count-next, is_between, by_cell, numbered_got, get-change_range, count-change_range, count-all, length-range, area_in, same_number, same_some, count-replicate, if_some}
use Rattle.mm_object_tables.proofs.PageByPage.{holds_only, holds_more, same_key_is, come_same, come_one, come_then, rises, places_stored}
use Rattle.std.proofs.lemmas.List.{set-get_or, length-replicate}
use Rattle.std.proofs.lemmas.Option.{slice_get-get_or}
use Rattle.std.proofs.lemmas.List.Sums.{sum_by-cons, count_by-le-length, sum_by-insert}
use Rattle.mm_types.specs.declared.views.Kind.TheVariants as kind
use Rattle.mm_types.specs.declared.moves.LineKind.TheVariants as line_kind
use Rattle.mm_commit_charge.specs.{CommitOf}
use Rattle.mm_address_spaces.specs.{unmarked_in, RegionInfo, RegionsOf, found_info}
use Rattle.mm_object_tables.specs.declared.tables.Tables.TheInside.{Inside}
use Rattle.mm_object_tables.proofs.EndingSettles.{beside_then}
use Rattle.mm_object_tables.proofs.Regional.{allowed, change_stands, protect_count, protect_moves, protect_paging, added_moves}
use Rattle.mm_object_tables.proofs.SectionFits.{now, as_kept, sum_few, no_block, opened_some, IsOld, with_area_of, fits_area, pages_stay, Counts, counts_set, sections_set}
use Rattle.mm_object_tables.proofs.Settled.{paging_few, roomier_settled, settled_by, can_make, settled_as}
use Rattle.mm_world.proofs.Edits.{Regions}

-- ---- by pid

-- what stands at a living process's place
pub living_at : (ps : List (Option Process)) (pid : ℕ) (x : Option Process) → is_some (living ps pid) ≡ true → x ≡ get_or ps (pid - 1) x → living ps pid ≡ option_map shown_process x
living_at ps pid x alive e = let w = lives_where ps pid alive in shown_at ps pid x w.0 w.1 e

-- another is put there
pub put_at : (ps : List (Option Process)) (pid : ℕ) (y : Option Process) → is_some (living ps pid) ≡ true → shown_processes (set ps (pid - 1) y) ≡ set (shown_processes ps) pid (option_map shown_process y)
put_at ps pid y alive = shown_set ps pid y (lives_where ps pid alive).0

-- one with other regions
module _ (ps : List (Option Process)) (pid : ℕ) (x : Option Process) (alive : is_some (living ps pid) ≡ true) (at : x ≡ get_or ps (pid - 1) x) where
  shown_at_place : (r : ProcessOf (Unit {0})) → living ps pid ≡ Some r → option_map shown_process x ≡ Some r
  shown_at_place r lives = sym (living_at ps pid x alive at) ∙ lives

  pub regions_are : (r : ProcessOf (Unit {0})) → living ps pid ≡ Some r → process_regions x ≡ r.regions
  regions_are r lives = regions_as x r (shown_at_place r lives)

  pub changed_in : (space : RegionsOf) (f : List (RegionOf (Unit {0})) → List (RegionOf (Unit {0}))) → space.regions ≡ f (process_regions x) → (r : ProcessOf (Unit {0})) → living ps pid ≡ Some r → shown_processes (set ps (pid - 1) (with_space x space)) ≡ set (shown_processes ps) pid (Some (record r { regions = f r.regions }))
  changed_in space f is r lives = put_at ps pid (with_space x space) alive ∙ ap (set (shown_processes ps) pid) (spaced x space f is r (shown_at_place r lives))

-- the handles of a process that lives, lent from its place
pub record Lent (i : Inside) (t : Tables) (pid : ℕ) (x : Option Process) (hs : Numbered ℕ) : Type 0 where
  pub view : as_kept i ≡ t
  pub lives : is_some (process_of t pid) ≡ true
  pub at : x ≡ get_or i.processes.items (pid - 1) x
  pub are : hs ≡ process_handles x

module _ {i : Inside} {t : Tables} {pid : ℕ} {x : Option Process} {hs : Numbered ℕ} (l : Lent i t pid x hs) where
  alive_here : is_some (living i.processes.items pid) ≡ true
  alive_here = ap (λ (t : Tables). is_some (process_of t pid)) l.view ∙ l.lives

  shown_here : (p : ProcessOf (Unit {0})) → living i.processes.items pid ≡ Some p → option_map shown_process x ≡ Some p
  shown_here p lives = sym (living_at i.processes.items pid x alive_here l.at) ∙ lives

  pub lent_are : (p : ProcessOf (Unit {0})) → process_of t pid ≡ Some p → hs ≡ p.handles
  lent_are p lives = l.are ∙ handles_by x p (shown_here p (ap (λ (t : Tables). process_of t pid) l.view ∙ lives))

  -- it has one more
  pub one_given : (handles : HandlesOf) (number : ℕ) → handles.entries ≡ hs ++ Some number ∷ [] → (p : ProcessOf (Unit {0})) → living i.processes.items pid ≡ Some p
      → shown_processes (set i.processes.items (pid - 1) (with_handles x handles)) ≡ set (shown_processes i.processes.items) pid (Some (record p { handles = p.handles ++ Some number ∷ [] }))
  one_given handles number is p lives =
      put_at i.processes.items pid (with_handles x handles) alive_here
      ∙ ap (set (shown_processes i.processes.items) pid) (handled x handles (λ hs. hs ++ Some number ∷ []) (is ∙ ap (λ hs. hs ++ Some number ∷ []) l.are) p (shown_here p lives))

  -- nothing but room for one is other
  pub room_alone : (handles : HandlesOf) → handles.entries ≡ hs → shown_processes (set i.processes.items (pid - 1) (with_handles x handles)) ≡ shown_processes i.processes.items
  room_alone handles is =
      let p = some_found (living i.processes.items pid) alive_here in
      put_at i.processes.items pid (with_handles x handles) alive_here
      ∙ ap (set (shown_processes i.processes.items) pid) (handled x handles (λ hs. hs) (is ∙ l.are) p.0 (shown_here p.0 p.1) ∙ sym p.1)
      ∙ set-get_or (shown_processes i.processes.items) pid None

-- ---- one area has other pages

module _ (t : Tables) (at : ℕ) (b : AreaOf (Unit {0})) (alike : Alike (area_at t at) b) where
  -- as it was, or the one that is changed
  area_cases : (P : AreaOf (Unit {0}) → Type 0) (n : ℕ) → P (area_at t n) → (n ≡ at → P b) → P (area_at (set_area t at b) n)
  area_cases P n was is = by_list t.areas at n was is
    where
      by_list : (areas : List (AreaOf (Unit {0}))) (at n : ℕ) → P (unwrap_or (slice_get areas n) no_area) → (n ≡ at → P b) → P (unwrap_or (slice_get (set areas at b) n) no_area)
      by_list (a ∷ areas) zero zero was is = is refl
      by_list (a ∷ areas) (suc at) (suc n) was is = by_list areas at n was (λ e. is (ap suc e))
      by_list _ _ _ was is = was

  alike_at : (n : ℕ) → Alike (area_at t n) (area_at (set_area t at b) n)
  alike_at n = area_cases (λ x. Alike (area_at t n) x) n (alike_same (area_at t n)) (λ e. subst (λ (k : ℕ). Alike (area_at t k) b) (sym e) alike)

  set_fits : (area_at t at).file_block ≡ None → IsTidy t → AreasFit t (set t.areas at b) t.blocks_used
  set_fits none h =
      record {
        alike = λ n inside. alike_at n;
        files = λ n first e.
            let f = h.files n first (sym (alike_at n).block ∙ e) in
            let same : area_at (set_area t at b) n ≡ area_at t n =
            area_cases (λ x. x.file_block ≡ Some first → x ≡ area_at t n) n (λ e. refl) (λ is e. (let bad : None ≡ Some first = sym (alike.block ∙ none) ∙ e in cc)) e in
            file_at (set_area t at b) n first (area_at t n) same f.blocks f.some f.committed;
      }

  pub tidy_area : (area_at t at).file_block ≡ None → WellFormed t → IsTidy t → IsTidy (set_area t at b)
  tidy_area none well h =
      tidy_by (set_area t at b)
      (settle_by (set_area t at b) (section_settled t h.settled)
      (λ m. area_more t.sections t.sections m (area_at t m) (area_at (set_area t at b) m) (alike_at m) (λ k. k) (area_settled t h.settled m)))
      (areas_rest t (set t.areas at b) t.blocks_used well.references (set_fits none h) (rest_of t h))

  pub sound_area : charge (set_area t at b) ≤ limit t → WellFormed t → WellFormed (set_area t at b)
  sound_area room h = sound_edit t (set_area t at b) (AreaChanges at b alike.pages tt) room h

  pub charge_area : at < length t.areas → charge (set_area t at b) + area_charge (area_at t at) ≡ charge t + area_charge b
  charge_area h = omega (arith, sum_by-put area_charge t.areas at (area_at t at) b (some_get t.areas at no_area h))

  pub paging_area : at < length t.areas → paging_count (set_area t at b) + area_charge (area_at t at) ≡ paging_count t + area_charge b
  paging_area h = omega (arith, sum_by-put area_charge t.areas at (area_at t at) b (some_get t.areas at no_area h))

-- ---- counts

module _ (a : AreaOf (Unit {0})) where
  next : (first n : ℕ) → first + n < length a.pages → uncommitted_in a first (suc n) ≡ uncommitted_in a first n + cond (is_none (numbered a.pages (first + n))) 1 0
  next first n h = count-next is_none a.pages first n (numbered a.pages (first + n)) (slice_get-get_or a.pages (first + n) None h)

  one : (i : ℕ) → i < length a.pages → uncommitted_in a i 1 ≡ cond (is_none (numbered a.pages i)) 1 0
  one i h =
      let same : i + 0 ≡ i = omega arith in
      next i 0 (omega (arith, h)) ∙ ap {B = ℕ} (λ k. 0 + cond (is_none (numbered a.pages k)) 1 0) same ∙ (let e : 0 + cond (is_none (numbered a.pages i)) 1 0 ≡ cond (is_none (numbered a.pages i)) 1 0 = omega arith in e)

  most : (first n m : ℕ) → n ≤ m → first + m ≤ length a.pages → uncommitted_in a first n ≤ uncommitted_in a first m
  most first n m h inside = rises (uncommitted_in a first) n m h (λ k low. omega (arith, next first k (omega (arith, low, inside))))

-- ---- keys

-- an index among `count` from `first` on is as a page of that range
abbrev pub indices : ℕ → ℕ → Range
indices first count = record { first = first; count = count }

in_one : (area : Area) (i : ℕ) (k : Key) → is_shared_in area i 1 k ≡ same_key k (key.Shared area i)
in_one area i (key.Private p v) = refl
in_one area i (key.Shared a j) = ap (λ b. (a.0 == area.0) && b) (holds_only i j)

in_more : (area : Area) (first n : ℕ) (k : Key) → is_shared_in area first (suc n) k ≡ (is_shared_in area (first + n) 1 k || is_shared_in area first n k)
in_more area first n (key.Private p v) = refl
in_more area first n (key.Shared a i) =
    ap (λ b. (a.0 == area.0) && b) (holds_more (indices first n) n i) ∙ spread (a.0 == area.0) (is_between (first + n) 1 i) (is_between first n i)

none_is : (o : Option (Unit {0})) → is_none o ≡ not (is_some o)
none_is None = refl
none_is (Some x) = refl

-- ---- one page

module _ (area : Area) (i : ℕ) (a : AreaOf (Unit {0})) (c : Key → Option Page) (s : StoreOf) (can : CanShare area i 1 a c s) where
  live : is_some (c (key.Shared area i)) ≡ is_some (numbered a.pages i)
  live = can.live i (omega arith) (omega arith)

  one_more : (b : Bool) → is_some (numbered a.pages i) ≡ b → uncommitted_in a i 1 ≡ cond (not b) 1 0
  one_more b e = one a i (omega (arith, can.inside)) ∙ ap {B = ℕ} (λ b. cond b 1 0) (none_is (numbered a.pages i) ∙ ap not e)

  pub shares_new : (d : Key → Option Page) (z : StoreOf) → is_some (numbered a.pages i) ≡ false → d ≡ changed same_key c (key.Shared area i) (Some (filled 0)) → z ≡ record s { paging = changed same_key s.paging (key.Shared area i) true; paging_keys = s.paging_keys + 1; report = rearranged s.report z.report } → Shares area i 1 a c d s z
  shares_new d z dead contents store =
      come_one (key.Shared area i) (is_shared_in area i 1) (uncommitted_in a i 1) c d s z (in_one area i) (one_more false dead) (none_of (c (key.Shared area i)) (live ∙ dead)) contents store

  pub shares_old : is_some (numbered a.pages i) ≡ true → Shares area i 1 a c c s s
  shares_old alive =
      come_same (is_shared_in area i 1) (uncommitted_in a i 1) c s (one_more true alive) (λ k e.
      let is = same_key_is k (key.Shared area i) (sym (in_one area i k) ∙ e) in
      (ap (λ (k : Key). is_some (c k)) is ∙ live ∙ alive, ap s.paging is ∙ can.paging i (omega arith) (omega arith) ∙ alive))

-- ---- one page after another

module _ (area : Area) (first n : ℕ) (a : AreaOf (Unit {0})) (c d : Key → Option Page) (s z : StoreOf) (so_far : Shares area first n a c d s z) where
  outside : (i : ℕ) → first + n ≤ i → is_shared_in area first n (key.Shared area i) ≡ false
  outside i h = ap (λ b. (area.0 == area.0) && b) (holds_not (indices first n) i (λ w. absurd (omega (arith, w.high, h)))) ∙ and_false (area.0 == area.0)

  not_yet : (i : ℕ) → first + n ≤ i → d (key.Shared area i) ≡ c (key.Shared area i)
  not_yet i h = ap (λ (d : Key → Option Page). d (key.Shared area i)) so_far.contents ∙ ap (λ b. cond b (Some (unwrap_or (c (key.Shared area i)) (filled 0))) (c (key.Shared area i))) (outside i h)

  pub can_next : (count : ℕ) → CanShare area first count a c s → n < count → CanShare area (first + n) 1 a d z
  can_next count can few =
      record {
        inside = omega (arith, can.inside, few);
        opened = ap (λ (x : StoreOf). x.areas area.0) so_far.store ∙ can.opened;
        live = λ i low high. ap is_some (not_yet i low) ∙ can.live i (omega (arith, low)) (omega (arith, high, few));
        paging = λ i low high. ap (λ (x : StoreOf). x.paging (key.Shared area i)) so_far.store ∙ ap (λ b. cond b true (s.paging (key.Shared area i))) (outside i low) ∙ can.paging i (omega (arith, low)) (omega (arith, high, few));
        room = omega (
          arith,
          can.room,
          ap (λ (x : StoreOf). x.paging_keys) so_far.store,
          ap (λ (x : StoreOf). x.room) so_far.store,
          one a (first + n) (omega (arith, can.inside, few)),
          next a first n (omega (arith, can.inside, few)),
          most a first (suc n) count (omega (arith, few)) can.inside,
        );
        called = ap (λ (x : StoreOf). x.kind) so_far.store ∙ can.called;
      }

  pub shares_then : (e : Key → Option Page) (y : StoreOf) → first + n < length a.pages → Shares area (first + n) 1 a d e z y → Shares area first (n + 1) a c e s y
  shares_then e y within b =
      let more : suc n ≡ n + 1 = omega arith in
      subst (λ (k : ℕ). Shares area first k a c e s y) more
      (come_then _ _ (is_shared_in area first (suc n)) (uncommitted_in a first n) (uncommitted_in a (first + n) 1) (uncommitted_in a first (suc n)) (in_more area first n) (omega (arith, one a (first + n) within, next a first n within)) so_far b)

-- ---- views

few_regions : (from : ℕ) (rs : List (RegionOf (Unit {0}))) → LaidOut from rs → length rs + from ≤ end_of_user_pages
few_regions from [] h = omega (arith, h)
few_regions from (r ∷ rs) h = omega (arith, h.0.later, h.0.some, few_regions (end_of (pages_of r)) rs h.1)

-- at most 64 processes, and regions that lie apart
pub views_bound : (t : Tables) (n : ℕ) → WellFormed t → views_of t n < 2 ^ 60
views_bound t n h = omega (arith, sum_few (views_in n) end_of_user_pages t.processes (λ i. by_process i (numbered t.processes i) refl), h.numbers.processes)
  where
    by_process : (i : ℕ) (o : Option (ProcessOf (Unit {0}))) → numbered t.processes i ≡ o → views_in n o ≤ end_of_user_pages
    by_process i None e = omega arith
    by_process i (Some p) e =
        omega (arith, count_by-le-length (λ (r : RegionOf (Unit {0})). is_view_of n r.kind) p.regions, few_regions first_user_page p.regions (h.spaces i p e).laid_out)

-- ---- a protection that is none of a copy marks no row of a view

not_copying : (n : ℕ) → is_one_of private_protections n ≡ true → (n == 8) ≡ false
not_copying n e = not_true (n == 8) (λ same.
    let is : n ≡ 8 = (unsigned_Decides n 8).0 same in
    let none : is_one_of private_protections 8 ≡ false = refl in
    let bad : true ≡ false = sym e ∙ ap (is_one_of private_protections) is ∙ none in
    cc)

-- a protection of private pages marks none
no_marks : (rs : List (RegionOf (Unit {0}))) (range : Range) (r : Found (RegionOf (Unit {0}))) (v : View) (prot : ℕ) → region_around rs range ≡ Some r → r.thing.kind ≡ kind.View v → is_protection_among private_protections prot ≡ true → new_marks rs range prot ≡ 0
no_marks rs range r v prot found is e =
    ap (λ o. unwrap_or (option_map (λ (r : Found (RegionOf (Unit {0}))). newly_marked r.thing.kind rs range prot) o) 0) found
    ∙ ap (λ (k : Kind). newly_marked k rs range prot) is ∙ ap (λ b. cond b (unmarked_in rs range) 0) (not_copying (base_of prot) (allowed prot e))

-- ---- the pages of an area that are committed

count_both : (test : Option (Unit {0}) → Bool) (xs : List (Option (Unit {0}))) → ((x : Option (Unit {0})) → test x ≡ is_some x) → count_by test xs + count_by is_none xs ≡ length xs
count_both test [] same = refl
count_both test (x ∷ xs) same =
    omega (
      arith,
      sum_by-cons (λ (x : Option (Unit {0})). cond (test x) 1 0) x xs,
      sum_by-cons (λ (x : Option (Unit {0})). cond (is_none x) 1 0) x xs,
      ap {B = ℕ} (λ b. cond b 1 0) (same x),
      one x,
      count_both test xs same,
    )
  where
    one : (x : Option (Unit {0})) → cond (is_some x) 1 0 + cond (is_none x) 1 0 ≡ 1
    one None = refl
    one (Some x) = refl

and_right : (b c : Bool) → c ≡ true → (b && c) ≡ b
and_right true c e = e
and_right false c e = refl

-- a page that comes to be, or was
abbrev made : Option (Unit {0}) → Option (Unit {0})
made page = Some (unwrap_or page (blank 0))

module _ (a : AreaOf (Unit {0})) (first count : ℕ) (none : a.file_block ≡ None) (inner : first + count ≤ length a.pages) where
  charged_page : (page : Option (Unit {0})) → (is_some page && is_none a.file_block) ≡ is_some page
  charged_page page = and_right (is_some page) (is_none a.file_block) (ap is_none none)

  area_charge_now : area_charge (commit_shared blank first count a) ≡ area_charge a + uncommitted_in a first count
  area_charge_now =
      omega (
        arith,
        count-change_range (λ (page : Option (Unit {0})). is_some page && is_none a.file_block) made first count a.pages,
        count-all (λ (page : Option (Unit {0})). is_some page && is_none a.file_block) made (take count (drop first a.pages)) (λ page. charged_page (made page)),
        count_both (λ (page : Option (Unit {0})). is_some page && is_none a.file_block) (take count (drop first a.pages)) charged_page,
        length-range a.pages first count inner,
      )

  by_page : (b : Bool) (i : ℕ) (o : Option (Option (Unit {0}))) → slice_get a.pages i ≡ o → is_between first count i ≡ b → is_some (by_cell (cond b (option_map made o) o)) ≡ cond b true (is_some (by_cell o))
  by_page true i None at e =
      let w = within (indices first count) i e in
      let bad : None ≡ Some (get_or a.pages i None) = sym at ∙ slice_get-get_or a.pages i None (omega (arith, w.high, inner)) in
      cc
  by_page true i (Some page) at e = refl
  by_page false i o at e = refl

  page_now : (i : ℕ) → is_some (numbered (commit_shared blank first count a).pages i) ≡ cond (is_between first count i) true (is_some (numbered a.pages i))
  page_now i =
      ap is_some (numbered_got (change_range made first count a.pages) i)
      ∙ ap (λ (o : Option (Option (Unit {0}))). is_some (by_cell o)) (get-change_range made first count a.pages i)
      ∙ by_page (is_between first count i) i (slice_get a.pages i) refl refl
      ∙ ap (λ (o : Option (Unit {0})). cond (is_between first count i) true (is_some o)) (sym (numbered_got a.pages i))

alike_now : (a : AreaOf (Unit {0})) (first count : ℕ) → Alike a (commit_shared blank first count a)
alike_now a first count = record { block = refl; pages = length-change_range made first count a.pages }

-- ---- tables in which pages of an area are committed

abbrev pub with_pages : Tables → ℕ → ℕ → ℕ → Tables
with_pages t area first count = set_area t area (commit_shared blank first count (area_at t area))

module _ (t : Tables) (area : Area) (first count : ℕ) (none : (area_at t area.0).file_block ≡ None) (inner : first + count ≤ length (area_at t area.0).pages) (there : area.0 < length t.areas) where
  charge_pages : charge (with_pages t area.0 first count) ≡ charge t + uncommitted_in (area_at t area.0) first count
  charge_pages =
      let a = area_at t area.0 in
      omega (arith, charge_area t area.0 (commit_shared blank first count a) (alike_now a first count) there, area_charge_now a first count none inner)

  pages_kept : (entries : Numbered CountedSection) (old new : CommitOf) → new.charge ≡ charge t + uncommitted_in (area_at t area.0) first count → new.limit ≡ limit t → charge t + uncommitted_in (area_at t area.0) first count ≤ limit t → AreKeptTables t entries old → AreKeptTables (with_pages t area.0 first count) entries new
  pages_kept entries old new charged limited room h =
      let a = area_at t area.0 in
      record {
        sound = sound_area t area.0 (commit_shared blank first count a) (alike_now a first count) (omega (arith, charge_pages, room)) h.sound;
        tidy = tidy_area t area.0 (commit_shared blank first count a) (alike_now a first count) none h.sound h.tidy;
        counted = λ n c e. let was = h.counted n c e in record { handles = was.handles; views = was.views };
        charged = omega (arith, charged, charge_pages);
        limited = limited;
      }

  -- which keys are those of the pages
  is_here : (k : Area) (i : ℕ) → k.0 ≡ area.0 → is_shared_in area first count (key.Shared k i) ≡ is_between first count i
  is_here k i same = ap (λ b. b && is_between first count i) ((unsigned_Decides k.0 area.0).1 same)

  not_here : (k : Key) → IsOld area.0 k → is_shared_in area first count k ≡ false
  not_here (key.Private pid page) h = refl
  not_here (key.Shared k i) h = ap (λ b. b && is_between first count i) (differ k.0 area.0 h)

  pages_fit : (c d : Key → Option Page) (s z : StoreOf) → FitsTables t c s → 1 ≤ count → Shares area first count (area_at t area.0) c d s z → charge t + uncommitted_in (area_at t area.0) first count ≤ z.room → FitsTables (with_pages t area.0 first count) d z
  pages_fit c d s z f some m room =
      let a = area_at t area.0 in
      let b = commit_shared blank first count a in
      let alike : Alike a b = alike_now a first count in
      let page : (i : ℕ) → is_some (numbered b.pages i) ≡ cond (is_between first count i) true (is_some (numbered a.pages i)) = page_now a first count none inner in
      let not_file : not (is_some a.file_block) ≡ true = ap (λ (o : Option ℕ). not (is_some o)) none in
      let here : area_in (set t.areas area.0 b) area.0 ≡ b = ap (λ o. unwrap_or o no_area) (get_set_same t.areas area.0 b there) in
      let before : (q : ℕ) → q ≢ area.0 → area_in (set t.areas area.0 b) q ≡ area_at t q = λ q other. ap (λ (o : Option (AreaOf (Unit {0}))). unwrap_or o no_area) (get_set_other t.areas area.0 q b other) in
      fits_area t (set t.areas area.0 b) area.0 b t.blocks_used c d s z (record {
        here = here;
        before = before;
        stays = pages_stay t (set t.areas area.0 b) area.0 b t.blocks_used here before (λ i e. page i ∙ ap (λ x. cond (is_between first count i) true x) e ∙ either (is_between first count i));
        live_new = λ k i same.
            ap (λ (d : Key → Option Page). is_some (d (key.Shared k i))) m.contents
            ∙ some_cond (is_shared_in area first count (key.Shared k i)) (Some (unwrap_or (c (key.Shared k i)) (filled 0))) (c (key.Shared k i))
            ∙ ap (λ x. cond x true (is_some (c (key.Shared k i)))) (is_here k i same)
            ∙ ap (λ x. cond (is_between first count i) true x) (f.live (key.Shared k i) ∙ ap (λ (n : ℕ). is_some (shared_page t n i)) same) ∙ sym (page i);
        live_old = λ k old. ap (λ (d : Key → Option Page). is_some (d k)) m.contents ∙ ap (λ x. is_some (cond x (Some (unwrap_or (c k) (filled 0))) (c k))) (not_here k old);
        paging_new = λ k i same.
            ap (λ (x : StoreOf). x.paging (key.Shared k i)) m.store ∙ ap (λ x. cond x true (s.paging (key.Shared k i))) (is_here k i same)
            ∙ ap (λ x. cond (is_between first count i) true x) (
            f.paging (key.Shared k i) ∙ ap (λ (n : ℕ). is_some (shared_page t n i) && not (is_some (area_at t n).file_block)) same
            ∙ and_right (is_some (numbered a.pages i)) (not (is_some a.file_block)) not_file
            )
            ∙ sym (page i) ∙ sym (and_right (is_some (numbered b.pages i)) (not (is_some a.file_block)) not_file);
        paging_old = λ k old. ap (λ (x : StoreOf). x.paging k) m.store ∙ ap (λ x. cond x true (s.paging k)) (not_here k old);
        block_new = λ k i same.
            ap (λ (x : StoreOf). x.block_of (key.Shared k i)) m.store ∙ f.blocks (key.Shared k i)
            ∙ no_block (is_some (shared_page t k.0 i)) i (area_at t k.0).file_block (ap (λ (n : ℕ). (area_at t n).file_block) same ∙ none)
            ∙ sym (no_block (is_some (numbered b.pages i)) i a.file_block none);
        block_old = λ k old. ap (λ (x : StoreOf). x.block_of k) m.store;
        areas_new = ap (λ (x : StoreOf). x.areas area.0) m.store ∙ f.areas area.0 ∙ ap (λ (n : ℕ). cond (n == 0) None (Some n)) (sym alike.pages);
        areas_old = λ q other. ap (λ (x : StoreOf). x.areas q) m.store;
        counted = omega (arith, ap (λ (x : StoreOf). x.paging_keys) m.store, f.counted, paging_area t area.0 b alike there, area_charge_now a first count none inner);
        room = omega (arith, room, charge_pages);
        blocks_used = ap (λ (x : StoreOf). x.blocks_used) m.store ∙ f.used;
        rest = m.store ∙ ap (with_area_of s) (sym m.store);
        stored = ap (λ (x : StoreOf). length x.file_blocks) m.store;
        named_file = ap (λ (x : StoreOf). length x.file_device.named) m.store;
      }) f
    where
      either : (b : Bool) → cond b true true ≡ true
      either true = refl
      either false = refl

  -- they can be committed where there is room for all keys
  pages_can : (c : Key → Option Page) (s : StoreOf) → WellFormed t → FitsTables t c s → 1 ≤ count → charge t + uncommitted_in (area_at t area.0) first count ≤ s.room → s.kind ≡ line_kind.Call → CanShare area first count (area_at t area.0) c s
  pages_can c s h f some room called =
      record {
        inside = inner;
        opened = f.areas area.0 ∙ sym (opened_some (length (area_at t area.0).pages) (omega (arith, inner, some)));
        live = λ i low high. f.live (key.Shared area i);
        paging = λ i low high.
            f.paging (key.Shared area i) ∙ and_right (is_some (shared_page t area.0 i)) (not (is_some (area_at t area.0).file_block)) (ap (λ (o : Option ℕ). not (is_some o)) none);
        room = omega (arith, f.counted, paging_few t h, room);
        called = called;
      }

pub roomier_fits : (t : Tables) (c d : Key → Option Page) (s z : StoreOf) → FitsTables t c s → d ≡ c → z ≡ record s { room = z.room } → s.room ≤ z.room → FitsTables t d z
roomier_fits t c d s z f contents store later = let more : Roomier c d s z = record { contents = contents; store = store; later = later } in (roomier_settled f refl more).fits

-- ---- the rows of a view have a protection before its pages come to be

abbrev with_region : Tables → ℕ → ProcessOf (Unit {0}) → Found (RegionOf (Unit {0})) → ℕ → Range → Tables
with_region t pid p r prot range = set_regions t pid p (set p.regions r.place (change_rows (protected r.thing.kind prot) range r.thing))

-- `count` pages from `first` on of its section lie under the range of a view
record IsViewed (t : Tables) (pid : ℕ) (p : ProcessOf (Unit {0})) (r : Found (RegionOf (Unit {0}))) (v : View) (range : Range) (first count : ℕ) : Type 0 where
  pub lives : process_of t pid ≡ Some p
  pub found : region_around p.regions range ≡ Some r
  pub is_view : r.thing.kind ≡ kind.View v
  pub paging : (area_at t v.area.0).file_block ≡ None
  pub first_is : first ≡ v.first + (range.first - r.thing.base)
  pub count_is : count ≡ range.count

module _ (t : Tables) (pid : Pid) (p : ProcessOf (Unit {0})) (r : Found (RegionOf (Unit {0}))) (v : View) (range : Range) (first count : ℕ) (x : IsViewed t pid.0 p r v range first count) (h : WellFormed t) where
  stands : Stands (λ (r : RegionOf (Unit {0})). lies_within range (pages_of r)) p.regions r
  stands = found_stands (λ (r : RegionOf (Unit {0})). lies_within range (pages_of r)) p.regions r x.found

  inside_view : LiesIn range (pages_of r.thing)
  inside_view = inside range (pages_of r.thing) stands.passes

  fit : ViewFits t v (length r.thing.rows)
  fit = each-at (RegionRefers t) p.regions r.place r.thing (h.references.processes pid.0 p x.lives).views stands.there v x.is_view

  within_area : first + count ≤ length (area_at t v.area.0).pages
  within_area = omega (arith, fit.within, inside_view.low, inside_view.high, x.first_is, x.count_is)

  area_there : v.area.0 < length t.areas
  area_there = omega (arith, h.references.sections v.section.0 fit.section fit.lives, fit.same_area)

  module _ (prot : ℕ) (private : is_protection_among private_protections prot ≡ true) where
    charge_region : charge (with_region t pid.0 p r prot range) ≡ charge t
    charge_region =
        omega (
          arith,
          charge-set_region t pid.0 p r.place r.thing (change_rows (protected r.thing.kind prot) range r.thing) x.lives stands.there,
          protect_count p.regions range r prot x.found,
          no_marks p.regions range r v prot x.found x.is_view private,
        )

    region_kept : (entries : Numbered CountedSection) (commit : CommitOf) → every_page (accepts r.thing prot) range ≡ true → AreKeptTables t entries commit → AreKeptTables (with_region t pid.0 p r prot range) entries commit
    region_kept entries commit takes k =
        let ss = set p.regions r.place (change_rows (protected r.thing.kind prot) range r.thing) in
        let stand : StandIn t p.regions ss =
        change_stands t pid.0 p r.place r.thing range x.lives h stands.there inside_view (protected r.thing.kind prot)
        (λ fits. view_rows_protected r.thing v prot range x.is_view fits inside_view.low takes) in
        kept_after t pid.0 p ss x.lives stand entries commit commit k (k.charged ∙ sym charge_region) k.limited (omega (arith, charge_region, h.charged))

    region_fits : (c : Key → Option Page) (s : StoreOf) → FitsTables t c s → FitsTables (with_region t pid.0 p r prot range) c s
    region_fits c s f =
        (settled_by t pid p range Leaves Leaves false (set p.regions r.place (change_rows (protected r.thing.kind prot) range r.thing)) c c s s x.lives f
        (record { contents = refl; paging = refl; bound = refl; names = refl; open_same = refl; areas_same = refl; same = refl })
        (protect_moves t pid.0 p r.place r.thing range x.lives h stands.there inside_view pid prot)
        (f.counted ∙ sym (protect_paging t pid.0 p r.place r.thing range x.lives h stands.there inside_view prot)) (omega (arith, charge_region, f.room))).fits

-- ---- tables as they are kept

-- pages of a view, `offset` pages behind its first, are to be committed
pub record CommitsView (i : Inside) (t : Tables) (pid : Pid) (range : Range) (prot n : ℕ) (v : View) (offset count : ℕ) (c : Key → Option Page) (s : StoreOf) : Type 0 where
  pub view : as_kept i ≡ t
  pub kept : AreKeptTables (as_kept i) i.directory.entries i.commit
  pub fits : FitsTables t c s
  pub lives : is_some (process_of t pid.0) ≡ true
  pub inside : (p : ProcessOf (Unit {0})) → process_of t pid.0 ≡ Some p → is_some (region_around p.regions range) ≡ true
  pub paging : (p : ProcessOf (Unit {0})) (r : Found (RegionOf (Unit {0}))) (w : View) → process_of t pid.0 ≡ Some p → region_around p.regions range ≡ Some r → r.thing.kind ≡ kind.View w → (area_at t w.area.0).file_block ≡ None
  pub counted : (p : ProcessOf (Unit {0})) (r : Found (RegionOf (Unit {0}))) (w : View) → process_of t pid.0 ≡ Some p → region_around p.regions range ≡ Some r → r.thing.kind ≡ kind.View w → n ≡ uncommitted_in (area_at t w.area.0) (w.first + (range.first - r.thing.base)) range.count
  pub accepted : (p : ProcessOf (Unit {0})) (r : Found (RegionOf (Unit {0}))) → process_of t pid.0 ≡ Some p → region_around p.regions range ≡ Some r → every_page (accepts r.thing prot) range ≡ true
  pub private : is_protection_among private_protections prot ≡ true
  pub room : charge t + n ≤ limit t
  pub told : (p : ProcessOf (Unit {0})) (r : Found (RegionOf (Unit {0}))) → process_of t pid.0 ≡ Some p → region_around p.regions range ≡ Some r → (r.thing.kind ≡ kind.View v) × (offset ≡ range.first - r.thing.base)
  pub count_is : count ≡ range.count
  pub some : 1 ≤ count

-- what becomes of the processes and the areas
pub record Committed (i : Inside) (pid : Pid) (range : Range) (prot : ℕ) (v : View) (offset count : ℕ) (ps : List (Option (ProcessOf (Unit {0})))) (areas : List (AreaOf (Unit {0}))) : Type 0 where
  pub processes : (p : ProcessOf (Unit {0})) (r : Found (RegionOf (Unit {0}))) → living i.processes.items pid.0 ≡ Some p → region_around p.regions range ≡ Some r → ps ≡ set (shown_processes i.processes.items) pid.0 (Some (record p { regions = set p.regions r.place (change_rows (protected r.thing.kind prot) range r.thing) }))
  pub areas_are : areas ≡ set i.areas.items v.area.0 (commit_shared blank (v.first + offset) count (listed_area i.areas.items v.area.0))

-- the process, its region, that it is a view, and how many pages are not committed
abbrev Viewed : Inside → Pid → View → Range → ℕ → ℕ → ℕ → Type 0
Viewed i pid v range n first count =
    (p : ProcessOf (Unit {0})) × (r : Found (RegionOf (Unit {0}))) × IsViewed (as_kept i) pid.0 p r v range first count × (n ≡ uncommitted_in (listed_area i.areas.items v.area.0) first count)

module _ {i : Inside} {t : Tables} {pid : Pid} {range : Range} {prot n : ℕ} {v : View} {offset count : ℕ} {c : Key → Option Page} {s : StoreOf} (a : CommitsView i t pid range prot n v offset count c s) where
  -- the same of the tables by what they are made of
  home : CommitsView i (as_kept i) pid range prot n v offset count c s
  home = subst (λ (t : Tables). CommitsView i t pid range prot n v offset count c s) (sym a.view) a

  viewed : Viewed i pid v range n (v.first + offset) count
  viewed =
      let p = some_found (process_of (as_kept i) pid.0) home.lives in
      let r = some_found (region_around p.0.regions range) (home.inside p.0 p.1) in
      let told = home.told p.0 r.0 p.1 r.1 in
      let first : v.first + offset ≡ v.first + (range.first - r.0.thing.base) = ap (λ (k : ℕ). v.first + k) told.1 in (
        p.0,
        r.0,
        record { lives = p.1; found = r.1; is_view = told.0; paging = home.paging p.0 r.0 v p.1 r.1 told.0; first_is = first; count_is = a.count_is },
        home.counted p.0 r.0 v p.1 r.1 told.0 ∙ (λ j. uncommitted_in (listed_area i.areas.items v.area.0) (sym first j) (sym a.count_is j)),
      )

  inner_here : v.first + offset + count ≤ length (listed_area i.areas.items v.area.0).pages
  inner_here = within_area (as_kept i) pid viewed.0 viewed.1 v range (v.first + offset) count viewed.2 a.kept.sound

  area_listed : v.area.0 < length i.areas.items
  area_listed = area_there (as_kept i) pid viewed.0 viewed.1 v range (v.first + offset) count viewed.2 a.kept.sound

  pub can_share : (d : Key → Option Page) (z : StoreOf) → d ≡ c → z ≡ record s { room = z.room } → s.room ≤ z.room → i.commit.charge + n ≤ z.room → s.kind ≡ line_kind.Call → CanShare v.area (v.first + offset) count (listed_area i.areas.items v.area.0) d z
  can_share d z contents store later room called =
      pages_can (as_kept i) v.area (v.first + offset) count viewed.2.paging inner_here area_listed d z a.kept.sound
      (roomier_fits (as_kept i) c d s z home.fits contents store later) a.some (omega (arith, room, viewed.3, a.kept.charged)) (ap (λ (x : StoreOf). x.kind) store ∙ called)

  module _ (ps : List (Option (ProcessOf (Unit {0})))) (areas : List (AreaOf (Unit {0}))) (b : Committed i pid range prot v offset count ps areas) where
    after_is : now i ps i.directory.entries areas i.directory.files i.blocks_used ≡ with_pages (with_region (as_kept i) pid.0 viewed.0 viewed.1 prot range) v.area.0 (v.first + offset) count
    after_is = λ j. now i (b.processes viewed.0 viewed.1 viewed.2.lives viewed.2.found j) i.directory.entries (b.areas_are j) i.directory.files i.blocks_used

    same_charge : charge (with_region (as_kept i) pid.0 viewed.0 viewed.1 prot range) ≡ charge (as_kept i)
    same_charge = charge_region (as_kept i) pid viewed.0 viewed.1 v range (v.first + offset) count viewed.2 a.kept.sound prot a.private

    pub commits_kept : (new : CommitOf) → new ≡ record (i.commit) { charge = i.commit.charge + n } → AreKeptTables (now i ps i.directory.entries areas i.directory.files i.blocks_used) i.directory.entries new
    commits_kept new taken =
        subst (λ (u : Tables). AreKeptTables u i.directory.entries new) (sym after_is)
        (pages_kept (with_region (as_kept i) pid.0 viewed.0 viewed.1 prot range) v.area (v.first + offset) count viewed.2.paging inner_here area_listed i.directory.entries i.commit new
        (omega (arith, ap (λ (k : CommitOf). k.charge) taken, a.kept.charged, same_charge, viewed.3)) (ap (λ (k : CommitOf). k.limit) taken ∙ a.kept.limited) (omega (arith, home.room, same_charge, viewed.3))
        (region_kept (as_kept i) pid viewed.0 viewed.1 v range (v.first + offset) count viewed.2 a.kept.sound prot a.private i.directory.entries i.commit
        (home.accepted viewed.0 viewed.1 viewed.2.lives viewed.2.found) a.kept))

    pub commits_now : (p : ProcessOf (Unit {0})) (r : Found (RegionOf (Unit {0}))) (w : View) → process_of t pid.0 ≡ Some p → region_around p.regions range ≡ Some r → r.thing.kind ≡ kind.View w → now i ps i.directory.entries areas i.directory.files i.blocks_used ≡ with_pages (with_region t pid.0 p r prot range) w.area.0 (w.first + (range.first - r.thing.base)) range.count
    commits_now p r w lives found is_view =
        let here : living i.processes.items pid.0 ≡ Some p = ap (λ (u : Tables). process_of u pid.0) a.view ∙ lives in
        let told = a.told p r lives found in
        let same : v ≡ w = cc (told.0, is_view) in
        (λ j. now i (b.processes p r here found j) i.directory.entries (b.areas_are j) i.directory.files i.blocks_used)
        ∙ (λ j. with_pages (with_region (a.view j) pid.0 p r prot range) (same j).area.0 ((same j).first + told.1 j) (a.count_is j))

    pub commits_settled : (e d : Key → Option Page) (y z : StoreOf) → e ≡ c → y ≡ record s { room = y.room } → s.room ≤ y.room → i.commit.charge + n ≤ y.room → Shares v.area (v.first + offset) count (listed_area i.areas.items v.area.0) e d y z → Settled (now i ps i.directory.entries areas i.directory.files i.blocks_used) c d s z
    commits_settled e d y z contents store later room m =
        let before = region_fits (as_kept i) pid viewed.0 viewed.1 v range (v.first + offset) count viewed.2 a.kept.sound prot a.private e y
        (roomier_fits (as_kept i) c e s y home.fits contents store later) in
        record {
          fits = subst (λ (u : Tables). FitsTables u d z) (sym after_is)
              (pages_fit (with_region (as_kept i) pid.0 viewed.0 viewed.1 prot range) v.area (v.first + offset) count viewed.2.paging inner_here area_listed e d y z before a.some m
              (omega (arith, room, a.kept.charged, same_charge, viewed.3, ap (λ (x : StoreOf). x.room) m.store)));
          carries = record {
            at = λ k.
                let first = v.first + offset in
                let made : d k ≡ cond (is_shared_in v.area first count k) (Some (unwrap_or (c k) (filled 0))) (c k) =
                ap (λ (d : Key → Option Page). d k) m.contents ∙ ap (λ (e : Key → Option Page). with_live (is_shared_in v.area first count) e k) contents in
                subst (λ (o : Option Page). Carried (c k) o) (sym made) (at_added (is_shared_in v.area first count k) (c k));
          };
          rest = beside_then s y z (store ∙ ap (store_beside s) (sym store)) (m.store ∙ ap (store_beside y) (sym m.store));
        }

-- ---- the region of a new view

abbrev view_row : View → RowOf (Unit {0})
view_row v = record { prot = first_protection v.access; guard = false; marked = is_copy v.access; own = None }

replicated_own : (n k : ℕ) (row : RowOf (Unit {0})) → row.own ≡ None → option_and_then (λ (row : RowOf (Unit {0})). row.own) (slice_get (replicate n row) k) ≡ None
replicated_own zero k row e = refl
replicated_own (suc n) zero row e = e
replicated_own (suc n) (suc k) row e = replicated_own n k row e

made_view : (s : Found SectionOf) (v : View) (range : Range) → s.place ≡ v.section.0 → s.thing.area ≡ v.area.0 → view_region {B = Unit {0}} s v.access v.first range ≡ region_of_view v range
made_view s v range e f = λ i. view_region {B = Unit {0}} (record { place = e i; thing = record { prot = 0; name = None; area = f i } }) v.access v.first range

-- where it stands among the others
abbrev place_in : List (RegionOf (Unit {0})) → Range → ℕ
place_in rs range = count_by (λ (r : RegionOf (Unit {0})). nat_lt r.base range.first) rs

abbrev pub with_view : Tables → ℕ → ProcessOf (Unit {0}) → Range → View → Tables
with_view t pid p range v = set_regions t pid p (add_region (region_of_view v range) p.regions)

-- how many of its pages are charged
abbrev pub marked_of : Range → View → ℕ
marked_of range v = cond (is_copy v.access) range.count 0

module _ (t : Tables) (pid : Pid) (p : ProcessOf (Unit {0})) (range : Range) (v : View) (lives : process_of t pid.0 ≡ Some p) (free : is_free (ranges_of p.regions) range ≡ true) where
  pages : pages_of (region_of_view v range) ≡ range
  pages i = record { first = range.first; count = length-replicate range.count (view_row v) i }

  -- ---- what is counted

  new_charge : region_charge (region_of_view v range) ≡ marked_of range v
  new_charge = count-replicate (λ (row : RowOf (Unit {0})). row.marked) range.count (view_row v)

  charge_now : charge (with_view t pid.0 p range v) ≡ charge t + marked_of range v
  charge_now =
      omega (
        arith,
        charge-set_regions t pid.0 p (add_region (region_of_view v range) p.regions) lives,
        sum_by-insert region_charge p.regions (place_in p.regions range) (region_of_view v range),
        new_charge,
      )

  new_rows : own_rows (region_of_view v range) ≡ 0
  new_rows = count-replicate (λ (row : RowOf (Unit {0})). is_some row.own) range.count (view_row v)

  paging_now : paging_count (with_view t pid.0 p range v) ≡ paging_count t
  paging_now = omega (arith, paging-add_region t pid.0 p (place_in p.regions range) (region_of_view v range) lives, new_rows)

  there : slice_get t.processes pid.0 ≡ Some (Some p)
  there = numbered_there t.processes pid.0 p lives

  views_now : (n : ℕ) (b : Bool) → (v.section.0 == n) ≡ b → views_of (with_view t pid.0 p range v) n ≡ views_of t n + cond b 1 0
  views_now n b e =
      let q : ProcessOf (Unit {0}) = record p { regions = add_region (region_of_view v range) p.regions } in
      let total : views_of (with_view t pid.0 p range v) n + views_in n (Some p) ≡ views_of t n + views_in n (Some q) = sum_by-put (views_in n) t.processes pid.0 (Some p) (Some q) there in
      omega (
        arith,
        total,
        sum_by-insert (λ (r : RegionOf (Unit {0})). cond (is_view_of n r.kind) 1 0) p.regions (place_in p.regions range) (region_of_view v range),
        ap {B = ℕ} (λ b. cond b 1 0) e,
      )

  handles_now : (n : ℕ) → handles_to (with_view t pid.0 p range v) n ≡ handles_to t n
  handles_now n =
      let q : ProcessOf (Unit {0}) = record p { regions = add_region (region_of_view v range) p.regions } in
      omega (arith, sum_by-put (handles_in n) t.processes pid.0 (Some p) (Some q) there)

  counted_now : (entries later : Numbered CountedSection) → later ≡ set entries v.section.0 (option_map one_view_more (numbered entries v.section.0)) → Counts t entries → Counts (with_view t pid.0 p range v) later
  counted_now entries later made h =
      counts_set t (with_view t pid.0 p range v) v.section.0 one_view_more entries later made
      (λ c k. record { handles = k.handles ∙ sym (handles_now v.section.0); views = omega (arith, k.views, views_now v.section.0 true (same_number v.section.0 v.section.0 refl)) })
      (λ n c other k. record { handles = k.handles ∙ sym (handles_now n); views = omega (arith, k.views, views_now n false (differ v.section.0 n (λ same. other (sym same)))) })
      h

  -- ---- the tables stay sound

  sound_now : range.first % 16 ≡ 0 → 1 ≤ range.count → ViewFits t v range.count → charge t + marked_of range v ≤ limit t → WellFormed t → WellFormed (with_view t pid.0 p range v)
  sound_now granule some fit room h =
      let new = region_of_view v range in
      let long = length-replicate range.count (view_row v) in
      sound_edit t (with_view t pid.0 p range v) (Regions pid.0 p (add_region new p.regions) lives (RegionComes new (record {
        placed = subst (λ (r : Range). IsPlaced (ranges_of p.regions) r) (sym pages) (free_of (ranges_of p.regions) range granule free);
        some = omega (arith, some, long);
        flags = no_flags new refl;
        rows = each-replicate (RowFits (kind.View v)) range.count (view_row v) (new_view_fits v.access);
        refers = λ x is.
            let here : View = record { section = record { 0 = v.section.0 }; area = record { 0 = v.area.0 }; first = v.first; access = v.access } in
            let same : here ≡ x = cc in
            subst (λ x. ViewFits t x (length (replicate range.count (view_row v)))) same (subst (λ (n : ℕ). ViewFits t v n) (sym long) fit);
        plain = λ e. cc;
        charged = tt;
      }))) (omega (arith, charge_now, room)) h

  -- ---- the store fits

  -- no page of it is bound
  pub unbound : (c : Key → Option Page) (s : StoreOf) → WellFormed t → FitsTables t c s → s.kind ≡ line_kind.Call → AllBound s pid range false
  unbound c s h f called =
      let none : new_pages reserve_type range ≡ 0 = refl in
      (can_make t pid p c s lives h f range reserve_type (charge t) free (omega (arith, none)) (omega (arith, h.charged, ap limit_of f.machine)) called).unbound

  settled_now : (c d : Key → Option Page) (s z : StoreOf) → FitsTables t c s → d ≡ c → NewPlaces pid range s z → charge t + marked_of range v ≤ z.room → Settled (with_view t pid.0 p range v) c d s z
  settled_now c d s z f contents m room =
      settled_by t pid p range Leaves Makes true (add_region (region_of_view v range) p.regions) c d s z lives f (places_stored m contents) (added_moves t p (region_of_view v range) range pages free Leaves pid (λ w held. ap is_some (replicated_own range.count (w - range.first) (view_row v) refl)))
      (ap (λ (x : StoreOf). x.paging_keys) m.store ∙ f.counted ∙ sym paging_now) (omega (arith, charge_now, room))

-- ---- tables as they are kept

-- a view is added to these tables, whose directory becomes `d` and whose processes show as `ps`
pub record AddsView (i : Inside) (t : Tables) (pid : Pid) (range : Range) (v : View) (d : DirectoryOf) (ps : List (Option (ProcessOf (Unit {0})))) : Type 0 where
  pub view : as_kept i ≡ t
  pub counted : d ≡ record (i.directory) { entries = set i.directory.entries v.section.0 (option_map one_view_more (numbered i.directory.entries v.section.0)) }
  pub made : (q : ProcessOf (Unit {0})) → living i.processes.items pid.0 ≡ Some q → ps ≡ set (shown_processes i.processes.items) pid.0 (Some (record q { regions = add_region (region_of_view v range) q.regions }))
  pub free : (q : ProcessOf (Unit {0})) → process_of t pid.0 ≡ Some q → is_free (ranges_of q.regions) range ≡ true

module _ {i : Inside} {t : Tables} {pid : Pid} {range : Range} {v : View} {d : DirectoryOf} {ps : List (Option (ProcessOf (Unit {0})))} (a : AddsView i t pid range v d ps) (p : ProcessOf (Unit {0})) (lives : process_of t pid.0 ≡ Some p) where
  view_now : now i ps d.entries i.areas.items d.files i.blocks_used ≡ with_view t pid.0 p range v
  view_now =
      let is = a.made p (ap (λ (t : Tables). process_of t pid.0) a.view ∙ lives) in
      let sections : sections_of d.entries ≡ sections_of i.directory.entries =
      ap (λ (d : DirectoryOf). sections_of d.entries) a.counted ∙ sections_set one_view_more (λ c. refl) i.directory.entries v.section.0 in
      (λ j. record (as_kept i) { processes = is j; sections = sections j; files = ap (λ (d : DirectoryOf). d.files) a.counted j })
      ∙ ap (λ (t : Tables). with_view t pid.0 p range v) a.view

  pub view_kept : (n : ℕ) (new : CommitOf) → range.first % 16 ≡ 0 → 1 ≤ range.count → ViewFits t v range.count → charge t + marked_of range v ≤ limit t → n ≡ marked_of range v → new ≡ record (i.commit) { charge = i.commit.charge + n } → AreKeptTables t i.directory.entries i.commit → AreKeptTables (now i ps d.entries i.areas.items d.files i.blocks_used) d.entries new
  view_kept n new granule some fit room charged taken h =
      let free = a.free p lives in
      subst (λ (u : Tables). AreKeptTables u d.entries new) (sym view_now) (record {
        sound = sound_now t pid p range v lives free granule some fit room h.sound;
        tidy = put_tidy t pid.0 p (record p { regions = add_region (region_of_view v range) p.regions }) lives (λ n k. k)
            (λ n. any_insert (λ (r : RegionOf (Unit {0})). is_view_of n r.kind) p.regions (place_in p.regions range) (region_of_view v range)) h.tidy;
        counted = (counted_now t pid p range v lives free i.directory.entries d.entries (ap (λ (d : DirectoryOf). d.entries) a.counted) h.counted);
        charged = omega (arith, ap (λ (k : CommitOf). k.charge) taken, h.charged, charged, charge_now t pid p range v lives free);
        limited = ap (λ (k : CommitOf). k.limit) taken ∙ h.limited;
      })

  pub view_done : (s : Found SectionOf) → ViewFits t v range.count → s.place ≡ v.section.0 → section_of t s.place ≡ Some s.thing → now i ps d.entries i.areas.items d.files i.blocks_used ≡ set_regions t pid.0 p (add_region (view_region s v.access v.first range) p.regions)
  view_done s fit place at =
      let same : s.thing ≡ fit.section = same_found (section_of t s.place) s.thing fit.section at (ap (λ (n : ℕ). section_of t n) place ∙ fit.lives) in
      view_now ∙ ap (λ (r : RegionOf (Unit {0})). set_regions t pid.0 p (add_region r p.regions)) (sym (made_view s v range place (ap (λ (s : SectionOf). s.area) same ∙ fit.same_area)))

  pub view_settled : (c e : Key → Option Page) (s z : StoreOf) → FitsTables t c s → e ≡ c → NewPlaces pid range s z → charge t + marked_of range v ≤ z.room → Settled (now i ps d.entries i.areas.items d.files i.blocks_used) c e s z
  view_settled c e s z f contents m room = settled_as view_now (settled_now t pid p range v lives (a.free p lives) c e s z f contents m room)

pub few_views : (t : Tables) (entries : Numbered CountedSection) (commit : CommitOf) (n : ℕ) → AreKeptTables t entries commit → IfSome (numbered entries n) (λ c. c.views < 2 ^ 60)
few_views t entries commit n h = if_some (numbered entries n) (λ c. c.views < 2 ^ 60) (λ c e. omega (arith, (h.counted n c e).views, views_bound t n h.sound))

-- ---- what is told of a region

told_of : (o : Option (Found (RegionOf (Unit {0})))) (info : RegionInfo) → option_map found_info o ≡ Some info → (r : Found (RegionOf (Unit {0}))) × (o ≡ Some r) × (found_info r ≡ info)
told_of None info e = cc
told_of (Some r) info e = (r, refl, same_some (found_info r) info e)

pub info_inside : (rs : List (RegionOf (Unit {0}))) (range : Range) (info : RegionInfo) → option_map found_info (region_around rs range) ≡ Some info → info.pages.first ≤ range.first
info_inside rs range info e =
    let x = told_of (region_around rs range) info e in
    let s = found_stands (λ (r : RegionOf (Unit {0})). lies_within range (pages_of r)) rs x.0 x.1 in
    omega (arith, ap (λ (i : RegionInfo). i.pages.first) x.2, begins_before range x.0.thing s.passes)

pub info_of_view : (rs : List (RegionOf (Unit {0}))) (range : Range) (info : RegionInfo) → option_map found_info (region_around rs range) ≡ Some info → ((r : Found (RegionOf (Unit {0}))) → region_around rs range ≡ Some r → is_private r.thing.kind ≡ false) → is_private info.kind ≡ false
info_of_view rs range info e view =
    let x = told_of (region_around rs range) info e in
    ap (λ (i : RegionInfo). is_private i.kind) (sym x.2) ∙ view x.0 x.1
