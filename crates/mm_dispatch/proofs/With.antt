-- What is found in the world of some tables with bytes, in terms of what is found in the tables.
use Rattle.std.proofs.Common.{◌≡◌, ℕ, ◌+◌, ◌-◌, ◌≤◌, false, Option, Some, None, List, refl, ◌∙◌, ap, arith, map, set, slice_get, get_or, option_map, unwrap_or, nat_le, nat_lt, sym}
use Rattle.std.specs.Prelude.{option_and_then}
use Rattle.std.proofs.Math.Path.{fun_ext}
use Rattle.std.proofs.lemmas.Bool.{leb-true}
use Rattle.std.proofs.lemmas.List.{map-set}
use Rattle.mm_types.specs.{Key, Kind, Range, end_of, holds_page}
use Rattle.mm_world.specs.{Page, RowOf, RegionOf, ProcessOf, AreaOf, Numbered, pages_of, Found, first_where, region_with, process_of, area_at}
use Rattle.mm_world.specs.{no_area, shared_page, row_at, Home, Own, InSection, Committed, home_in, committed_in, committed_at, private_key}
use Rattle.mm_world.specs.{shared_key, set_row, guard_off, Tables, row_with, rows_with, region_with_bytes, process_with, processes_with, area_with}
use Rattle.mm_world.specs.{world_with, charge, no_bytes}
use Rattle.mm_world.proofs.{first-map, found_stands, same_charge, tables_back}
use Rattle.mm_types.proofs.{parts}
use Rattle.mm_dispatch.proofs.Numbering.{areas-numbered, numbers-get, numbers-get_or, numbers-length, numbers-set, pages-numbered, processes-numbered}
use Rattle.mm_dispatch.proofs.Numbering.{rows-numbered}
use Rattle.mm_types.specs.declared.views.Kind.TheVariants as kind

-- a region that holds a page begins at it or before
pub begins : (page : ℕ) (rs : List (RegionOf (Unit {0}))) (r : Found (RegionOf (Unit {0}))) → region_with rs page ≡ Some r → r.thing.base ≤ page
begins page rs r e = leb-true _ _ (parts (nat_le r.thing.base page) (nat_lt page (end_of (pages_of r.thing))) (found_stands _ rs r e).passes).0

module _ (b : Key → Page) where
  abbrev pub found_with : ℕ → Found (RegionOf (Unit {0})) → Found (RegionOf Page)
  found_with pid r = record { place = r.place; thing = region_with_bytes b pid r.thing }

  abbrev pub home_with : ℕ → ℕ → Home (Unit {0}) → Home Page
  home_with pid page (Own u) = Own (b (private_key pid page))
  home_with pid page (InSection area i) = InSection area i

  abbrev pub committed_with : ℕ → ℕ → Committed (Unit {0}) → Committed Page
  committed_with pid page c = record { region = found_with pid c.region; row = row_with b pid page c.row; home = home_with pid page c.home }

  -- ---- regions

  pub pages-with : (pid : ℕ) (r : RegionOf (Unit {0})) → pages_of (region_with_bytes b pid r) ≡ pages_of r
  pages-with pid r = ap (λ (n : ℕ). let range : Range = record { first = r.base; count = n } in range) (numbers-length (rows-numbered b pid) r.base r.rows)

  pub region-with : (pid page : ℕ) (rs : List (RegionOf (Unit {0}))) → region_with (map (region_with_bytes b pid) rs) page ≡ option_map (found_with pid) (region_with rs page)
  region-with pid page rs =
      first-map (λ r. holds_page (pages_of r) page) (region_with_bytes b pid) rs
      ∙ ap (λ t. option_map (found_with pid) (first_where t rs)) (fun_ext (λ r. ap (λ range. holds_page range page) (pages-with pid r)))

  -- ---- rows

  pub row-with : (pid page : ℕ) (r : RegionOf (Unit {0})) → r.base ≤ page → row_at (region_with_bytes b pid r) page ≡ option_map (row_with b pid page) (row_at r page)
  row-with pid page r low =
      numbers-get (rows-numbered b pid) r.base (page - r.base) r.rows
      ∙ ap (λ (k : ℕ). option_map (row_with b pid k) (slice_get r.rows (page - r.base))) (let k : r.base + (page - r.base) ≡ page = omega (arith, low) in k)

  -- ---- processes and areas

  pub process-with : (t : Tables) (pid : ℕ) → process_of (world_with t b) pid ≡ option_map (process_with b pid) (process_of t pid)
  process-with t pid = numbers-get_or (processes-numbered b) None None (λ k. refl) 0 pid t.processes ∙ ap (λ (k : ℕ). option_map (process_with b k) (process_of t pid)) (let k : 0 + pid ≡ pid = omega arith in k)

  pub area-with : (t : Tables) (area : ℕ) → area_at (world_with t b) area ≡ area_with b area (area_at t area)
  area-with t area =
      ap (λ o. unwrap_or o no_area) (numbers-get (areas-numbered b) 0 area t.areas ∙ ap (λ (k : ℕ). option_map (area_with b k) (slice_get t.areas area)) (let k : 0 + area ≡ area = omega arith in k))
      ∙ by_area (slice_get t.areas area)
    where
      by_area : (o : Option (AreaOf (Unit {0}))) → unwrap_or (option_map (area_with b area) o) no_area ≡ area_with b area (unwrap_or o no_area)
      by_area None = refl
      by_area (Some a) = refl

  pub shared-with : (t : Tables) (area i : ℕ) → shared_page (world_with t b) area i ≡ option_map (λ u. b (shared_key area i)) (shared_page t area i)
  shared-with t area i =
      ap (λ (a : AreaOf Page). get_or a.pages i None) (area-with t area) ∙ numbers-get_or (pages-numbered b area) None None (λ k. refl) 0 i (area_at t area).pages
      ∙ ap (λ (k : ℕ). option_map (λ u. b (shared_key area k)) (shared_page t area i)) (let k : 0 + i ≡ i = omega arith in k)

  -- ---- committed rows

  pub home-with : (t : Tables) (pid page i : ℕ) (k : Kind) (own : Option (Unit {0})) → home_in (world_with t b) i k (option_map (λ u. b (private_key pid page)) own) ≡ option_map (home_with pid page) (home_in t i k own)
  home-with t pid page i k (Some u) = refl
  home-with t pid page i kind.Private None = refl
  home-with t pid page i (kind.View v) None =
      ap (λ o. option_map (λ (x : Page). InSection v.area.0 (v.first + i)) o) (shared-with t v.area.0 (v.first + i)) ∙ by_page (shared_page t v.area.0 (v.first + i))
    where
      by_page : (o : Option (Unit {0})) → option_map (λ (x : Page). let h : Home Page = InSection v.area.0 (v.first + i) in h) (option_map (λ u. b (shared_key v.area.0 (v.first + i))) o) ≡ option_map (home_with pid page) (option_map (λ u. InSection v.area.0 (v.first + i)) o)
      by_page None = refl
      by_page (Some u) = refl

  committed_in-with : (t : Tables) (pid page : ℕ) (r : Found (RegionOf (Unit {0}))) (row : Option (RowOf (Unit {0}))) → committed_in (world_with t b) (found_with pid r) (page - r.thing.base) (option_map (row_with b pid page) row) ≡ option_map (committed_with pid page) (committed_in t r (page - r.thing.base) row)
  committed_in-with t pid page r None = refl
  committed_in-with t pid page r (Some row) =
      ap (λ h. option_map (λ (home : Home Page). let c : Committed Page = record { region = found_with pid r; row = row_with b pid page row; home = home } in c) h) (home-with t pid page (page - r.thing.base) r.thing.kind row.own)
      ∙ by_home (home_in t (page - r.thing.base) r.thing.kind row.own)
    where
      by_home : (h : Option (Home (Unit {0}))) → option_map (λ (home : Home Page). let c : Committed Page = record { region = found_with pid r; row = row_with b pid page row; home = home } in c) (option_map (home_with pid page) h) ≡ option_map (committed_with pid page) (option_map (λ (home : Home (Unit {0})). let c : Committed (Unit {0}) = record { region = r; row = row; home = home } in c) h)
      by_home None = refl
      by_home (Some home) = refl

  pub committed-with : (t : Tables) (pid page : ℕ) (rs : List (RegionOf (Unit {0}))) → committed_at (world_with t b) (map (region_with_bytes b pid) rs) page ≡ option_map (committed_with pid page) (committed_at t rs page)
  committed-with t pid page rs =
      ap (λ o. option_and_then (λ (r : Found (RegionOf Page)). committed_in (world_with t b) r (page - r.thing.base) (row_at r.thing page)) o) (region-with pid page rs)
      ∙ by_region (region_with rs page) refl
    where
      by_region : (o : Option (Found (RegionOf (Unit {0})))) → region_with rs page ≡ o → option_and_then (λ (r : Found (RegionOf Page)). committed_in (world_with t b) r (page - r.thing.base) (row_at r.thing page)) (option_map (found_with pid) o) ≡ option_map (committed_with pid page) (option_and_then (λ (r : Found (RegionOf (Unit {0}))). committed_in t r (page - r.thing.base) (row_at r.thing page)) o)
      by_region None e = refl
      by_region (Some r) e =
          ap (λ row. committed_in (world_with t b) (found_with pid r) (page - r.thing.base) row) (row-with pid page r.thing (begins page rs r e))
          ∙ committed_in-with t pid page r (row_at r.thing page)

  -- ---- one row is set

  pub set_row-with : (t : Tables) (pid page : ℕ) (p : ProcessOf (Unit {0})) (r : Found (RegionOf (Unit {0}))) (row : RowOf (Unit {0})) → r.thing.base ≤ page → world_with (set_row t pid p r page row) b ≡ set_row (world_with t b) pid (process_with b pid p) (found_with pid r) page (row_with b pid page row)
  set_row-with t pid page p r row low =
      let new : RegionOf (Unit {0}) = record r.thing { rows = set r.thing.rows (page - r.thing.base) row } in
      let q : ProcessOf (Unit {0}) = record p { regions = set p.regions r.place new } in
      let rows : rows_with b pid r.thing.base new.rows ≡ set (rows_with b pid r.thing.base r.thing.rows) (page - r.thing.base) (row_with b pid page row) =
      numbers-set (rows-numbered b pid) r.thing.base (page - r.thing.base) r.thing.rows row
      ∙ ap (λ (k : ℕ). set (rows_with b pid r.thing.base r.thing.rows) (page - r.thing.base) (row_with b pid k row)) (let k : r.thing.base + (page - r.thing.base) ≡ page = omega (arith, low) in k) in
      ap (λ (ps : Numbered (ProcessOf Page)). record (world_with t b) { processes = ps })
      (numbers-set (processes-numbered b) 0 pid t.processes (Some q)
      ∙ ap (λ (k : ℕ). set (processes_with b 0 t.processes) pid (Some (process_with b k q))) (let k : 0 + pid ≡ pid = omega arith in k)
      ∙ ap (λ (rs : List (RegionOf Page)). set (processes_with b 0 t.processes) pid (Some (record { regions = rs; handles = p.handles }))) (map-set (region_with_bytes b pid) p.regions r.place new)
      ∙ ap (λ (rows : List (RowOf Page)). set (processes_with b 0 t.processes) pid (Some (record { regions = set (map (region_with_bytes b pid) p.regions) r.place (record { base = r.thing.base; alloc_prot = r.thing.alloc_prot; kind = r.thing.kind; rows = rows; watched = r.thing.watched }); handles = p.handles }))) rows)

  pub guard_off-with : (t : Tables) (pid page : ℕ) (p : ProcessOf (Unit {0})) (c : Committed (Unit {0})) → c.region.thing.base ≤ page → world_with (guard_off t pid p c page) b ≡ guard_off (world_with t b) pid (process_with b pid p) (committed_with pid page c) page
  guard_off-with t pid page p c low = set_row-with t pid page p c.region (record c.row { guard = false }) low

-- ---- the charge

pub charge-with : (t : Tables) (bytes : Key → Page) → charge (world_with t bytes) ≡ charge t
charge-with t bytes = sym (same_charge no_bytes (world_with t bytes)) ∙ ap charge (tables_back bytes t)

pub ruleset charges = (charge-with)
