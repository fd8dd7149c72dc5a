-- Regions and rows: what the region that holds a page has for it after a change, which keys live, and what a call does to both.
use Rattle.std.proofs.Common.{◌≡◌, ℕ, Bool, true, false, Option, Some, None, List, refl, sym, ◌∙◌, ap, cond, set, slice_get, is_some, ◌+◌, arith, count_by, ◌≢◌, inl, inr, [], subst, option_map, unwrap_or, ◌-◌, ◌&&◌, ◌≤◌, length, length-set, zero, suc, nat_le, nat_lt, take, drop}
use Rattle.std.specs.Prelude.{option_and_then, remove, insert, ◌==◌}
use Rattle.mm_types.specs.{holds_page, Place, Key, Kind, Pid, Range, Answer, Vpn}
use Rattle.mm_world.specs.{RegionOf, pages_of, Found, region_with, WorldOf, ProcessOf, numbered, RowOf, AreaOf, process_of, set_process, set_regions}
use Rattle.mm_world.specs.{set_region, no_area, is_private, content_of, private_key, own_page, Home, InSection, Committed, committed_in, home_in}
use Rattle.mm_world.specs.{key_of, row_at, Tables, Page, filled, OutcomeOf, charge, is_charged, region_charge, change_rows, LaidOut}
use Rattle.mm_object_tables.proofs.Lists.{found-set, is_between, get-change_range, count-change_range, count-all, count-next, length-range, one_if}
pub use Rattle.mm_world.proofs.Ranges.{Within, within, holds, holds_not, apart, Inside, inside, holds_too}
pub use Rattle.mm_world.proofs.Regions.{SamePages, same_holds, has, has_added, has_removed, has_at, has_set}
use Rattle.std.proofs.lemmas.List.Sums.{sum_by-set, sum_by-remove, sum_by-insert}
use Rattle.std.proofs.lemmas.Option.{get_or_from_slice_get, slice_get_within}
use Rattle.std.proofs.lemmas.List.{get_or-set_same, get_or-set_other}
use Rattle.mm_types.specs.declared.views.Kind.TheVariants as kind
use Rattle.mm_types.proofs.{same_or_not, same_found, and_true, differ, not_true, same_tests, both, is_there, some_found}
use Rattle.mm_world.proofs.{sum_by-put, numbered_inside, and-true, less, own_in, private_kind, length-change_range}
use Rattle.mm_object_tables.specs.{owned_keys, paging_count, is_reserved, key_at, key_in, FitsTables, Called, Settled, key_bytes, Carried, CarriesPages}
use Rattle.mm_object_tables.specs.{is_paging, file_block_in, is_key_in, Effect, Makes, Ends, Leaves, after, contents_by, paging_by, bound_by, names_by}
use Rattle.mm_object_tables.specs.{RangeStored, Moves, passing}
use Rattle.std.specs.Cmp.{unsigned_Decides}
use Rattle.mm_types.specs.declared.numbers.Key.TheVariants as key
use Rattle.mm_store.specs.{StoreOf, is_place_in}
use Rattle.std.proofs.lemmas.Bool.{leb-true, le-leb, cond_both}

pub some_cond : {X : Type 0} (b : Bool) (p o : Option X) → is_some (cond b p o) ≡ cond b (is_some p) (is_some o)
some_cond true p o = refl
some_cond false p o = refl

module _ {B : Type 0} where
  pub reserved_set : (rs : List (RegionOf B)) (i page : ℕ) (r new : RegionOf B) → slice_get rs i ≡ Some r → SamePages r new → is_some (region_with (set rs i new) page) ≡ is_some (region_with rs page)
  reserved_set rs i page r new at same = found-set (λ (r : RegionOf B). holds_page (pages_of r) page) rs i r new at (same_holds r new page same)

  found_has : (o : Option (Found (RegionOf B))) → is_some o ≡ is_some (option_and_then (λ (r : Found (RegionOf B)). Some r.thing) o)
  found_has None = refl
  found_has (Some r) = refl

  -- whether a region has a page, where one is in its place
  pub found_cond : (rs ss : List (RegionOf B)) (page : ℕ) (b : Bool) (p : Option (RegionOf B)) → has (λ (r : RegionOf B). Some r) ss page ≡ cond b p (has (λ (r : RegionOf B). Some r) rs page) → is_some (region_with ss page) ≡ cond b (is_some p) (is_some (region_with rs page))
  found_cond rs ss page b p e =
      found_has (region_with ss page) ∙ ap is_some e ∙ some_cond b p (has (λ (r : RegionOf B). Some r) rs page)
      ∙ ap (λ x. cond b (is_some p) x) (sym (found_has (region_with rs page)))

-- ---- one process has other regions: the regions of each, and how many page-file keys live

module _ {B : Type 0} where
  -- the rows of a region that have bytes of their own
  abbrev pub own_rows : RegionOf B → ℕ
  own_rows r = count_by (λ row. is_some row.own) r.rows

  pub paging-set_process : (w : WorldOf B) (pid : ℕ) (p : ProcessOf B) (q : Option (ProcessOf B)) → process_of w pid ≡ Some p → paging_count (set_process w pid q) + owned_keys (Some p) ≡ paging_count w + owned_keys q
  paging-set_process w pid p q lives = omega (arith, sum_by-set owned_keys w.processes pid q None (numbered_inside w.processes pid p lives), ap owned_keys lives)

  pub paging-set_region : (w : WorldOf B) (pid : ℕ) (p : ProcessOf B) (place : ℕ) (r new : RegionOf B) → process_of w pid ≡ Some p → slice_get p.regions place ≡ Some r → paging_count (set_region w pid p place new) + own_rows r ≡ paging_count w + own_rows new
  paging-set_region w pid p place r new lives there =
      omega (arith, paging-set_process w pid p (Some (record p { regions = set p.regions place new })) lives, sum_by-put own_rows p.regions place r new there)

  pub paging-remove_region : (w : WorldOf B) (pid : ℕ) (p : ProcessOf B) (place : ℕ) (r : RegionOf B) → process_of w pid ≡ Some p → slice_get p.regions place ≡ Some r → paging_count (set_regions w pid p (remove p.regions place)) + own_rows r ≡ paging_count w
  paging-remove_region w pid p place r lives there =
      let old = ap own_rows (get_or_from_slice_get p.regions place r r there) in
      omega (arith, paging-set_process w pid p (Some (record p { regions = remove p.regions place })) lives, sum_by-remove own_rows p.regions place r (slice_get_within p.regions place r there), old)

  pub paging-add_region : (w : WorldOf B) (pid : ℕ) (p : ProcessOf B) (place : ℕ) (new : RegionOf B) → process_of w pid ≡ Some p → paging_count (set_regions w pid p (insert p.regions place new)) ≡ paging_count w + own_rows new
  paging-add_region w pid p place new lives =
      omega (arith, paging-set_process w pid p (Some (record p { regions = insert p.regions place new })) lives, sum_by-insert own_rows p.regions place new)

-- ---- The regions of each process, when those of one are others

module _ {B : Type 0} where
  abbrev pub regions_of : Option (ProcessOf B) → List (RegionOf B)
  regions_of o = unwrap_or (option_map (λ p. p.regions) o) []

  -- no region where the process is not
  abbrev pub regions_in : WorldOf B → ℕ → List (RegionOf B)
  regions_in w pid = regions_of (process_of w pid)

  pub reserved_is : (w : WorldOf B) (place : Place) → is_reserved w place ≡ is_some (region_with (regions_in w place.pid.0) place.vpn.0)
  reserved_is w place =
      elim (process_of w place.pid.0) as (λ o. unwrap_or (option_map (λ (p : ProcessOf B). is_some (region_with p.regions place.vpn.0)) o) false ≡ is_some (region_with (regions_of o) place.vpn.0))
      [ None ↦ refl | Some p ↦ refl ]

  pub content_is : (w : WorldOf B) (pid page : ℕ) → content_of w (private_key pid page) ≡ own_page (regions_in w pid) page
  content_is w pid page =
      elim (process_of w pid) as (λ o. option_and_then (λ (p : ProcessOf B). own_page p.regions page) o ≡ own_page (regions_of o) page)
      [ None ↦ refl | Some p ↦ refl ]

  pub regions_of_process : (w : WorldOf B) (pid : ℕ) (p : ProcessOf B) → process_of w pid ≡ Some p → regions_in w pid ≡ p.regions
  regions_of_process w pid p e = ap regions_of e

  pub process_set_same : (w : WorldOf B) (pid : ℕ) (p : ProcessOf B) (rs : List (RegionOf B)) → process_of w pid ≡ Some p → process_of (set_regions w pid p rs) pid ≡ Some (record p { regions = rs })
  process_set_same w pid p rs e = get_or-set_same w.processes pid (Some (record p { regions = rs })) None (numbered_inside w.processes pid p e)

  pub process_set_other : (w : WorldOf B) (pid q : ℕ) (p : ProcessOf B) (rs : List (RegionOf B)) → q ≢ pid → process_of (set_regions w pid p rs) q ≡ process_of w q
  process_set_other w pid q p rs n = get_or-set_other w.processes pid q (Some (record p { regions = rs })) None n

  pub regions_set_same : (w : WorldOf B) (pid : ℕ) (p : ProcessOf B) (rs : List (RegionOf B)) → process_of w pid ≡ Some p → regions_in (set_regions w pid p rs) pid ≡ rs
  regions_set_same w pid p rs e =
      regions_of_process (set_regions w pid p rs) pid (record p { regions = rs }) (process_set_same w pid p rs e)

  pub regions_set_other : (w : WorldOf B) (pid q : ℕ) (p : ProcessOf B) (rs : List (RegionOf B)) → q ≢ pid → regions_in (set_regions w pid p rs) q ≡ regions_in w q
  regions_set_other w pid q p rs n = ap regions_of (process_set_other w pid q p rs n)

  pub lives_set : (w : WorldOf B) (pid q : ℕ) (p : ProcessOf B) (rs : List (RegionOf B)) → process_of w pid ≡ Some p → is_some (process_of (set_regions w pid p rs) q) ≡ is_some (process_of w q)
  lives_set w pid q p rs e =
      elim (same_or_not q pid) [
        | inl same ↦
            subst (λ (k : ℕ). is_some (process_of (set_regions w pid p rs) k) ≡ is_some (process_of w k)) (sym same)
            (ap is_some (process_set_same w pid p rs e) ∙ sym (ap is_some e))
        | inr other ↦ ap is_some (process_set_other w pid q p rs other)
      ]

  pub process_is : (w : WorldOf B) (pid : ℕ) (p q : ProcessOf B) → process_of w pid ≡ Some p → process_of w pid ≡ Some q → p ≡ q
  process_is w pid p q a b = same_found (process_of w pid) p q a b

-- ---- The keys of committed rows, region by region

abbrev pub home_key : Tables → ℕ → ℕ → ℕ → Kind → Option (Unit {0}) → Option Key
home_key t pid page i k own = option_map (λ home. key_of pid page home) (home_in t i k own)

-- the key of a page in its region
abbrev pub region_key : Tables → ℕ → ℕ → RegionOf (Unit {0}) → Option Key
region_key t pid page r = option_and_then (λ row. home_key t pid page (page - r.base) r.kind row.own) (row_at r page)

-- areas alone matter
home_same : (t u : Tables) (pid page i : ℕ) (k : Kind) (own : Option (Unit {0})) → t.areas ≡ u.areas → home_key t pid page i k own ≡ home_key u pid page i k own
home_same t u pid page i (kind.View v) None e =
    ap (λ (areas : List (AreaOf (Unit {0}))). option_map (λ (home : Home (Unit {0})). key_of pid page home) (option_map (λ (x : Unit {0}). InSection v.area.0 (v.first + i)) (numbered (unwrap_or (slice_get areas v.area.0) no_area).pages (v.first + i)))) e
home_same t u pid page i _ _ e = refl

region_key_same : (t u : Tables) (pid page : ℕ) (r : RegionOf (Unit {0})) → t.areas ≡ u.areas → region_key t pid page r ≡ region_key u pid page r
region_key_same t u pid page r e = λ i. option_and_then (λ (row : RowOf (Unit {0})). home_same t u pid page (page - r.base) r.kind row.own e i) (row_at r page)

pub key_in_has : (t : Tables) (pid : ℕ) (rs : List (RegionOf (Unit {0}))) (page : ℕ) → key_in t pid rs page ≡ has (region_key t pid page) rs page
key_in_has t pid rs page = by_region (region_with rs page)
  where
    by_home : (r : Found (RegionOf (Unit {0}))) (row : RowOf (Unit {0})) (o : Option (Home (Unit {0}))) → option_map (λ c. key_of pid page c.home) (option_map (λ home. let made : Committed (Unit {0}) = record { region = r; row = row; home = home } in made) o) ≡ option_map (λ home. key_of pid page home) o
    by_home r row None = refl
    by_home r row (Some home) = refl

    by_row : (r : Found (RegionOf (Unit {0}))) (o : Option (RowOf (Unit {0}))) → option_map (λ c. key_of pid page c.home) (committed_in t r (page - r.thing.base) o) ≡ option_and_then (λ row. home_key t pid page (page - r.thing.base) r.thing.kind row.own) o
    by_row r None = refl
    by_row r (Some row) = by_home r row (home_in t (page - r.thing.base) r.thing.kind row.own)

    by_region : (o : Option (Found (RegionOf (Unit {0})))) → option_map (λ c. key_of pid page c.home) (option_and_then (λ r. committed_in t r (page - r.thing.base) (row_at r.thing page)) o) ≡ option_and_then (λ (r : Found (RegionOf (Unit {0}))). region_key t pid page r.thing) o
    by_region None = refl
    by_region (Some r) = by_row r (row_at r.thing page)

pub key_in_same : (t u : Tables) (pid : ℕ) (rs : List (RegionOf (Unit {0}))) (page : ℕ) → t.areas ≡ u.areas → key_in t pid rs page ≡ key_in u pid rs page
key_in_same t u pid rs page e =
    let same : has (region_key t pid page) rs page ≡ has (region_key u pid page) rs page = λ i. has (λ (r : RegionOf (Unit {0})). region_key_same t u pid page r e i) rs page in
    key_in_has t pid rs page ∙ same ∙ sym (key_in_has u pid rs page)

pub key_at_is : (t : Tables) (place : Place) → key_at t place ≡ key_in t place.pid.0 (regions_in t place.pid.0) place.vpn.0
key_at_is t place =
    elim (process_of t place.pid.0) as (λ o. option_and_then (λ (p : ProcessOf (Unit {0})). key_in t place.pid.0 p.regions place.vpn.0) o ≡ key_in t place.pid.0 (regions_of o) place.vpn.0)
    [ None ↦ refl | Some p ↦ refl ]

-- a private row has a key where it has bytes
pub private_home : (t : Tables) (pid page i : ℕ) (k : Kind) (own : Option (Unit {0})) → is_private k ≡ true → home_key t pid page i k own ≡ option_map (λ x. private_key pid page) own
private_home t pid page i kind.Private None e = refl
private_home t pid page i kind.Private (Some own) e = refl
private_home t pid page i (kind.View v) own e = cc

-- ---- the bytes of keys that stay are kept

pub at_same : (o : Option Page) → Carried o o
at_same None = refl
at_same (Some x) = refl

pub carries_same : (old new : Key → Option Page) → new ≡ old → CarriesPages old new
carries_same old new e = subst (λ (c : Key → Option Page). CarriesPages old c) (sym e) (record { at = λ k. at_same (old k) })

pub at_added : (b : Bool) (o : Option Page) → Carried o (cond b (Some (unwrap_or o (filled 0))) o)
at_added true None = refl
at_added true (Some x) = refl
at_added false o = at_same o

at_removed : (b : Bool) (o : Option Page) → Carried o (cond b None o)
at_removed true None = refl
at_removed true (Some x) = refl
at_removed false o = at_same o

pub carries_by : (keys : Effect) (pid : Pid) (range : Range) (c : Key → Option Page) → CarriesPages c (contents_by keys pid range c)
carries_by Makes pid range c = record { at = λ k. at_added (is_key_in pid range k) (c k) }
carries_by Ends pid range c = record { at = λ k. at_removed (is_key_in pid range k) (c k) }
carries_by Leaves pid range c = carries_same c c refl

-- ---- what was decided

pub called_by : (q : OutcomeOf (Unit {0})) (t after : Tables) (c d : Key → Option Page) (s z : StoreOf) (a : Answer) → q ≡ record { answer = a; world = after } → FitsTables t c s → Settled after c d s z → Called q t c a after d
called_by q t after c d s z a e f h = record { outcome = e; bytes = λ k. h.carries.at k ∙ (λ i. cond (f.live k i && h.fits.live k i) (key_bytes c k) (filled 0)) }

pub settled_same : (t : Tables) (c : Key → Option Page) (s : StoreOf) → FitsTables t c s → Settled t c c s s
settled_same t c s f = record { fits = f; carries = carries_same c c refl; rest = refl }

-- ---- effects

some_by : (e : Effect) (pid : Pid) (range : Range) (c : Key → Option Page) (k : Key) → is_some (contents_by e pid range c k) ≡ after e (is_key_in pid range k) (is_some (c k))
some_by Makes pid range c k = some_cond (is_key_in pid range k) (Some (unwrap_or (c k) (filled 0))) (c k)
some_by Ends pid range c k = some_cond (is_key_in pid range k) None (c k)
some_by Leaves pid range c k = refl

pub outside : (e : Effect) (before : Bool) → after e false before ≡ before
outside Makes before = refl
outside _ before = refl

-- of a private key
pub private_paging : (t : Tables) (c : Key → Option Page) (s : StoreOf) (q : Pid) (v : Vpn) → FitsTables t c s → s.paging (key.Private q v) ≡ is_some (c (key.Private q v))
private_paging t c s q v f = f.paging (key.Private q v) ∙ and_true (is_some (content_of t (key.Private q v))) ∙ sym (f.live (key.Private q v))

-- ---- one process's regions are others

module _ (t : Tables) (pid : Pid) (p : ProcessOf (Unit {0})) (range : Range) (keys places : Effect) (clears : Bool) (ss : List (RegionOf (Unit {0}))) (c d : Key → Option Page) (s z : StoreOf) (lives : process_of t pid.0 ≡ Some p) (f : FitsTables t c s) (m : RangeStored pid range keys places clears c d s z) (r : Moves t pid range keys places clears p.regions ss) where
  abbrev u : Tables
  u = set_regions t pid.0 p ss

  here : (q : ℕ) → q ≡ pid.0 → regions_in u q ≡ ss
  here q e = ap (λ (k : ℕ). regions_in u k) e ∙ regions_set_same t pid.0 p ss lives

  was_here : (q : ℕ) → q ≡ pid.0 → regions_in t q ≡ p.regions
  was_here q e = ap (λ (k : ℕ). regions_in t k) e ∙ regions_of_process t pid.0 p lives

  -- what a test of regions says of a page of any process from now on, where the effect on those of this process is known
  by_process : (e : Effect) (test : List (RegionOf (Unit {0})) → Bool) (q v : ℕ) (b : Bool) → test ss ≡ after e (holds_page range v) (test p.regions) → b ≡ test (regions_in t q) → after e ((q == pid.0) && holds_page range v) b ≡ test (regions_in u q)
  by_process e test q v b now was =
      elim (same_or_not q pid.0) [
        | inl same ↦
            ap (λ x. after e (x && holds_page range v) b) ((unsigned_Decides q pid.0).1 same)
            ∙ ap (after e (holds_page range v)) (was ∙ ap test (was_here q same)) ∙ sym now ∙ ap test (sym (here q same))
        | inr other ↦
            ap (λ x. after e (x && holds_page range v) b) (differ q pid.0 other) ∙ outside e b ∙ was ∙ ap test (sym (regions_set_other t pid.0 q p ss other))
      ]

  live_now : (k : Key) → is_some (d k) ≡ after keys (is_key_in pid range k) (is_some (c k))
  live_now k = ap (λ (d : Key → Option Page). is_some (d k)) m.contents ∙ some_by keys pid range c k

  paging_now : (k : Key) → z.paging k ≡ after keys (is_key_in pid range k) (s.paging k)
  paging_now k =
      ap (λ (g : Key → Bool). g k) m.paging
      ∙ (elim keys as (λ e. paging_by e pid range s.paging k ≡ after e (is_key_in pid range k) (s.paging k)) [ Makes ↦ refl | Ends ↦ refl | Leaves ↦ refl ])

  bound : (place : Place) → z.bound place ≡ is_reserved u place
  bound place =
      ap (λ (b : Place → Bool). b place) m.bound
      ∙ (elim places as (λ e. bound_by e pid range s.bound place ≡ after e (is_place_in pid range place) (s.bound place)) [ Makes ↦ refl | Ends ↦ refl | Leaves ↦ refl ])
      ∙ by_process places (λ rs. is_some (region_with rs place.vpn.0)) place.pid.0 place.vpn.0 (s.bound place) (r.reserved place.vpn.0) (f.bound place ∙ reserved_is t place)
      ∙ sym (reserved_is u place)

  live : (k : Key) → is_some (d k) ≡ is_some (content_of u k)
  live (key.Private q v) =
      live_now (key.Private q v)
      ∙ by_process keys (λ rs. is_some (own_page rs v.0)) q.0 v.0 (is_some (c (key.Private q v))) (r.owned v.0) (f.live (key.Private q v) ∙ ap is_some (content_is t q.0 v.0))
      ∙ ap is_some (sym (content_is u q.0 v.0))
  live (key.Shared area index) = live_now (key.Shared area index) ∙ outside keys (is_some (c (key.Shared area index))) ∙ f.live (key.Shared area index)

  paging : (k : Key) → z.paging k ≡ is_paging u k
  paging (key.Private q v) =
      paging_now (key.Private q v)
      ∙ ap (after keys (is_key_in pid range (key.Private q v))) (private_paging t c s q v f)
      ∙ sym (live_now (key.Private q v)) ∙ live (key.Private q v) ∙ sym (and_true (is_some (content_of u (key.Private q v))))
  paging (key.Shared area index) = paging_now (key.Shared area index) ∙ outside keys (s.paging (key.Shared area index)) ∙ f.paging (key.Shared area index)

  block : (k : Key) → z.block_of k ≡ file_block_in u k
  block (key.Private q v) = ap (λ (x : StoreOf). x.block_of (key.Private q v)) m.same ∙ f.blocks (key.Private q v)
  block (key.Shared area index) = ap (λ (x : StoreOf). x.block_of (key.Shared area index)) m.same ∙ f.blocks (key.Shared area index)

  -- a name that stood and stands
  stood : (place : Place) (k : Key) (b held : Bool) → is_place_in pid range place ≡ held → names_by b pid range s.names place ≡ Some k → (s.names place ≡ Some k) × (b ≡ true → held ≡ false)
  stood place k true true e named = let bad : None ≡ Some k = sym (ap (λ x. cond x None (s.names place)) e) ∙ named in cc
  stood place k true false e named = (sym (ap (λ x. cond x None (s.names place)) e) ∙ named, λ same. refl)
  stood place k false held e named = (named, λ bad. cc)

  named : (place : Place) (k : Key) → z.names place ≡ Some k → key_at u place ≡ Some k
  named place k e =
      let v = place.vpn.0 in
      let n = stood place k clears (is_place_in pid range place) refl (sym (ap (λ (g : Place → Option Key). g place) m.names) ∙ e) in
      let was : key_in t place.pid.0 (regions_in t place.pid.0) v ≡ Some k = sym (key_at_is t place) ∙ f.named place k n.0 in
      key_at_is u place ∙ sym (key_in_same t u place.pid.0 (regions_in u place.pid.0) v refl)
      ∙ elim (same_or_not place.pid.0 pid.0) [
        | inl same ↦
            ap (λ rs. key_in t place.pid.0 rs v) (here place.pid.0 same) ∙ ap (λ (q : ℕ). key_in t q ss v) same
            ∙ r.named v k (λ clear. sym (ap (λ x. x && holds_page range v) ((unsigned_Decides place.pid.0 pid.0).1 same)) ∙ n.1 clear)
            (ap (λ (q : ℕ). key_in t q p.regions v) (sym same) ∙ ap (λ rs. key_in t place.pid.0 rs v) (sym (was_here place.pid.0 same)) ∙ was)
        | inr other ↦ ap (λ rs. key_in t place.pid.0 rs v) (regions_set_other t pid.0 place.pid.0 p ss other) ∙ was
      ]

  pub moved : z.paging_keys ≡ paging_count (set_regions t pid.0 p ss) → charge (set_regions t pid.0 p ss) ≤ z.room → FitsTables (set_regions t pid.0 p ss) d z
  moved counted room =
      record {
        machine = ap (λ (x : StoreOf). x.machine) m.same ∙ f.machine;
        opened = λ q. ap (λ (g : ℕ → Bool). g q) m.open_same ∙ f.opened q ∙ sym (lives_set t pid.0 q p ss lives);
        last_pid = ap (λ (x : StoreOf). x.last_pid + 1) m.same ∙ f.last_pid ∙ sym (length-set t.processes pid.0 (Some (record p { regions = ss })));
        areas = λ area. ap (λ (g : ℕ → Option ℕ). g area) m.areas_same ∙ f.areas area;
        bound = bound;
        live = live;
        paging = paging;
        counted = counted;
        room = room;
        named = named;
        blocks = block;
        used = ap (λ (x : StoreOf). x.blocks_used) m.same ∙ f.used;
        stored = ap (λ (x : StoreOf). length x.file_blocks) m.same ∙ f.stored;
        named_paging = omega (arith, ap (λ (x : StoreOf). length x.paging_device.named) m.same, f.named_paging);
        named_file = omega (arith, ap (λ (x : StoreOf). length x.file_device.named) m.same, f.named_file);
      }

-- ---- which pages have bytes of their own, and how many are charged, after rows of a range were changed

pub place_between : (range : Range) (base page : ℕ) → base ≤ range.first → base ≤ page → is_between (range.first - base) range.count (page - base) ≡ holds_page range page
place_between range base page low from =
    same_tests _ _
    (λ e. let h = and-true (nat_le (range.first - base) (page - base)) (nat_lt (page - base) (range.first - base + range.count)) e in
    holds range page (omega (arith, leb-true _ _ h.0, low, from)) (omega (arith, less _ _ h.1, low, from)))
    (λ e. let w = within range page e in
    both (nat_le (range.first - base) (page - base)) (nat_lt (page - base) (range.first - base + range.count))
    (le-leb _ _ (omega (arith, w.low, low, from))) (le-leb _ _ (omega (arith, w.high, low, from))))

module _ {B : Type 0} where
  abbrev pub has_own : RowOf B → Bool
  has_own row = is_some row.own

  by_row : (change : RowOf B → RowOf B) (keys : Effect) → ((row : RowOf B) → is_some (change row).own ≡ after keys true (is_some row.own)) → (b : Bool) (o : Option (RowOf B)) → is_some o ≡ true → is_some (option_and_then (λ (row : RowOf B). row.own) (cond b (option_map change o) o)) ≡ after keys b (is_some (option_and_then (λ (row : RowOf B). row.own) o))
  by_row change keys makes b None e = cc
  by_row change keys makes true (Some row) e = makes row
  by_row change keys makes false (Some row) e = sym (outside keys (is_some row.own))

  pub same_pages : (change : RowOf B → RowOf B) (range : Range) (r : RegionOf B) → SamePages r (change_rows change range r)
  same_pages change range r = record { base = refl; rows = length-change_range change (range.first - r.base) range.count r.rows }

  -- the rows of the range are changed, and all others stay
  pub own_of_changed : (change : RowOf B → RowOf B) (keys : Effect) → ((row : RowOf B) → is_some (change row).own ≡ after keys true (is_some row.own)) → (from i : ℕ) (rs : List (RegionOf B)) (range : Range) (r : RegionOf B) (page : ℕ) → LaidOut from rs → slice_get rs i ≡ Some r → Inside range (pages_of r) → is_some (own_page (set rs i (change_rows change range r)) page) ≡ after keys (holds_page range page) (is_some (own_page rs page))
  own_of_changed change keys makes from i rs range r page laid at h =
      ap is_some (has_set (λ (r : RegionOf B). own_in r page) from i page rs r (change_rows change range r) laid at (same_pages change range r))
      ∙ cond_both (holds_page (pages_of r) page) (own_in (change_rows change range r) page) (own_page rs page) (λ o. is_some o ≡ after keys (holds_page range page) (is_some (own_page rs page)))
      (λ e.
      let w = within (pages_of r) page e in
      let k = page - r.base in
      ap (λ o. is_some (option_and_then (λ (row : RowOf B). row.own) o)) (get-change_range change (range.first - r.base) range.count r.rows k)
      ∙ ap (λ b. is_some (option_and_then (λ (row : RowOf B). row.own) (cond b (option_map change (slice_get r.rows k)) (slice_get r.rows k)))) (place_between range r.base page h.low w.low)
      ∙ by_row change keys makes (holds_page range page) (slice_get r.rows k) (is_there r.rows k (omega (arith, w.low, w.high)))
      ∙ ap (λ o. after keys (holds_page range page) (is_some o)) (sym (has_at (λ (r : RegionOf B). own_in r page) from i page rs r laid at e)))
      (λ e.
      sym (outside keys (is_some (own_page rs page))) ∙ ap (λ b. after keys b (is_some (own_page rs page)))
      (sym (not_true (holds_page range page) (λ t. let bad : true ≡ false = sym (holds_too range (pages_of r) page h t) ∙ e in cc))))

  -- ---- charges

  pub private_charge : (r : RegionOf B) → is_private r.kind ≡ true → region_charge r ≡ count_by has_own r.rows
  private_charge r e = ap (λ k. count_by (is_charged k) r.rows) (private_kind r.kind e)

  abbrev pub in_range : Range → RegionOf B → List (RowOf B)
  in_range range r = take range.count (drop (range.first - r.base) r.rows)

  -- all rows of the range have bytes of their own from now on
  pub charge_of_commit : (change : RowOf B → RowOf B) → ((row : RowOf B) → has_own (change row) ≡ true) → (range : Range) (r : RegionOf B) → is_private r.kind ≡ true → Inside range (pages_of r) → region_charge (change_rows change range r) + count_by has_own (in_range range r) ≡ region_charge r + range.count
  charge_of_commit change all range r private h =
      omega (
        arith,
        private_charge r private,
        private_charge (change_rows change range r) private,
        count-change_range has_own change (range.first - r.base) range.count r.rows,
        count-all has_own change (in_range range r) all,
        length-range r.rows (range.first - r.base) range.count (omega (arith, h.low, h.high)),
      )

  -- ---- pages counted one by one

  pub passing_owned : (from i : ℕ) (rs : List (RegionOf B)) (r : RegionOf B) (range : Range) (n : ℕ) → LaidOut from rs → slice_get rs i ≡ Some r → Inside range (pages_of r) → n ≤ range.count → passing (λ page. is_some (own_page rs page)) range.first n ≡ count_by has_own (take n (drop (range.first - r.base) r.rows))
  passing_owned from i rs r range zero laid at h few = refl
  passing_owned from i rs r range (suc n) laid at h few =
      let page = range.first + n in
      let held : holds_page (pages_of r) page ≡ true = holds (pages_of r) page (omega (arith, h.low)) (omega (arith, h.high, few)) in
      let place : page - r.base ≡ range.first - r.base + n = omega (arith, h.low) in
      let row = some_found (slice_get r.rows (range.first - r.base + n)) (is_there r.rows (range.first - r.base + n) (omega (arith, h.low, h.high, few))) in
      let own : own_page rs page ≡ row.0.own =
      has_at (λ (r : RegionOf B). own_in r page) from i page rs r laid at held
      ∙ ap (λ (k : ℕ). option_and_then (λ (row : RowOf B). row.own) (slice_get r.rows k)) place ∙ ap (λ o. option_and_then (λ (row : RowOf B). row.own) o) row.1 in
      omega (arith, passing_owned from i rs r range n laid at h (omega (arith, few)), count-next has_own r.rows (range.first - r.base) n row.0 row.1, ap (λ (o : Option B). one_if (is_some o)) own)
