-- What the frames' half asks of a world with bytes is what its tables tell.
use Rattle.std.proofs.Common.{◌≡◌, ℕ, ◌+◌, ◌-◌, Option, Some, None, List, [], ◌∷◌, refl, sym, ◌∙◌, ap, cond, is_some, not, ◌&&◌, map, option_map, unwrap_or}
use Rattle.std.specs.Prelude.{Bool, option_and_then, position, ◌==◌}
use Rattle.std.proofs.Math.Path.{fun_ext}
use Rattle.mm_types.specs.{LineKind, Key, Pid, Place, Kind, Range, page_of, range_of, end_of, lies_within}
use Rattle.mm_types.specs.declared.moves.LineKind.TheVariants as line_kind
use Rattle.mm_types.specs.declared.numbers.Key.TheVariants as key_of_page
use Rattle.mm_types.specs.declared.views.Kind.TheVariants as kind
use Rattle.mm_move_rules.specs.{numbers_from}
use Rattle.mm_world.specs.{Page, RegionOf, ProcessOf, AreaOf, pages_of, Found, first_where, process_of, area_at, is_private, Home, Own, InSection}
use Rattle.mm_world.specs.{Committed, committed_at, key_of, content_of, shared_key, view_around, flushed_view, flushed_range, Tables, no_bytes}
use Rattle.mm_world.specs.{region_with_bytes, process_with, world_with, is_view_of, uses}
use Rattle.mm_world.specs.World.{World}
use Rattle.mm_world.proofs.{live_back, first-map, some-map, tables_back}
use Rattle.mm_store.specs.{page_rank, or_else, last_rank, rank_behind, handle_rank, section_rank, goes_with, leaving}
use Rattle.mm_line_moves.specs.{lives, row_key, if_lives, file_block_of, is_uncommitted, flushed_in, flushed_keys}
use Rattle.mm_object_tables.specs.{key_at, file_block_in, is_uncommitted as is_free}
use Rattle.mm_calls.specs.{keys_of_region, keys_of_flush as keys_flushed}
use Rattle.mm_dispatch.proofs.With.{found_with, home_with, committed_with, pages-with, area-with, process-with, committed-with}

module _ (t : Tables) (b : Key → Page) where
  abbrev w : World
  w = world_with t b

  -- ---- what lives

  pub live-with : (k : Key) → is_some (content_of w k) ≡ is_some (content_of t k)
  live-with k = sym (live_back no_bytes w k) ∙ ap (λ (t : Tables). is_some (content_of t k)) (tables_back b t)

  pub lives-with : (pid : Pid) → lives w pid ≡ is_some (process_of t pid.0)
  lives-with pid = ap is_some (process-with b t pid.0) ∙ some-map (process_with b pid.0) (process_of t pid.0)

  pub kind-with : (pid : Pid) (k : LineKind) → cond (is_some (process_of t pid.0)) k line_kind.Call ≡ if_lives w pid k
  kind-with pid k = ap (λ c. cond c k line_kind.Call) (sym (lives-with pid))

  -- ---- committed rows

  pub same_key_of : (pid page : ℕ) (home : Home (Unit {0})) → key_of pid page (home_with b pid page home) ≡ key_of pid page home
  same_key_of pid page (Own u) = refl
  same_key_of pid page (InSection area i) = refl

  key_by_row : (pid page : ℕ) (o : Option (Committed (Unit {0}))) → option_map (λ (c : Committed Page). key_of pid page c.home) (option_map (committed_with b pid page) o) ≡ option_map (λ (c : Committed (Unit {0})). key_of pid page c.home) o
  key_by_row pid page None = refl
  key_by_row pid page (Some c) = ap (λ (k : Key). Some k) (same_key_of pid page c.home)

  key_by_process : (pid page : ℕ) (o : Option (ProcessOf (Unit {0}))) → option_and_then (λ (p : ProcessOf Page). option_map (λ (c : Committed Page). key_of pid page c.home) (committed_at w p.regions page)) (option_map (process_with b pid) o) ≡ option_and_then (λ (p : ProcessOf (Unit {0})). option_map (λ (c : Committed (Unit {0})). key_of pid page c.home) (committed_at t p.regions page)) o
  key_by_process pid page None = refl
  key_by_process pid page (Some p) =
      ap (λ o. option_map (λ (c : Committed Page). key_of pid page c.home) o) (committed-with b t pid page p.regions)
      ∙ key_by_row pid page (committed_at t p.regions page)

  pub row_key-with : (place : Place) → row_key w place ≡ key_at t place
  row_key-with place =
      ap (λ o. option_and_then (λ (p : ProcessOf Page). option_map (λ (c : Committed Page). key_of place.pid.0 place.vpn.0 c.home) (committed_at w p.regions place.vpn.0)) o) (process-with b t place.pid.0)
      ∙ key_by_process place.pid.0 place.vpn.0 (process_of t place.pid.0)

  pub uncommitted-with : is_free t ≡ is_uncommitted w
  uncommitted-with = λ i. λ place. not (is_some (sym (row_key-with place) i))

  -- ---- with what sections go

  views_rank-with : (n pid k : ℕ) (rs : List (RegionOf (Unit {0}))) → last_rank (λ r. is_view_of n r.kind) (λ place r. rank_behind r) k (map (region_with_bytes b pid) rs) ≡ last_rank (λ r. is_view_of n r.kind) (λ place r. rank_behind r) k rs
  views_rank-with n pid k [] = refl
  views_rank-with n pid k (r ∷ rs) = λ i.
      or_else (views_rank-with n pid (k + 1) rs i) (cond (is_view_of n r.kind) (page_rank (end_of (pages-with b pid r i)) - 1) 0)

  section_rank-with : (n pid : ℕ) (o : Option (ProcessOf (Unit {0}))) → section_rank n (option_map (process_with b pid) o) ≡ section_rank n o
  section_rank-with n pid None = refl
  section_rank-with n pid (Some p) = ap (λ v. or_else v (handle_rank n p.handles)) (views_rank-with n pid 0 p.regions)

  goes-with : (pid area : ℕ) → goes_with t pid area ≡ goes_with w pid area
  goes-with pid area =
      sym (ap (λ (f : ℕ → ℕ). unwrap_or (option_map f (position (uses area) t.sections)) 0)
      (fun_ext (λ n. ap (section_rank n) (process-with b t pid) ∙ section_rank-with n pid (process_of t pid))))

  pub leaving-with : (pid : ℕ) (places : Place → Bool) → leaving t pid places ≡ leaving w pid places
  leaving-with pid places = λ i. record { places = λ p. (p.pid.0 == pid) && places p; rank = λ area. goes-with pid area i }

  -- ---- the keys of a flush

  pub view-with : (pid : ℕ) (range : Range) (rs : List (RegionOf (Unit {0}))) → view_around (map (region_with_bytes b pid) rs) range ≡ option_map (found_with b pid) (view_around rs range)
  view-with pid range rs =
      first-map (λ r. not (is_private r.kind) && lies_within range (pages_of r)) (region_with_bytes b pid) rs
      ∙ ap (λ t. option_map (found_with b pid) (first_where t rs)) (fun_ext (λ r. ap (λ pages. not (is_private r.kind) && lies_within range pages) (pages-with b pid r)))

  pub block-with : (area : ℕ) → (area_at w area).file_block ≡ (area_at t area).file_block
  block-with area = ap (λ (a : AreaOf Page). a.file_block) (area-with b t area)

  pub block_of-with : (k : Key) → file_block_of w k ≡ file_block_in t k
  block_of-with (key_of_page.Private pid page) = refl
  block_of-with (key_of_page.Shared area index) = λ i.
      cond (live-with (key_of_page.Shared area index) i) (option_map (λ first. first + index) (block-with area.0 i)) None

  pub range-with : (pid addr size : ℕ) (r : RegionOf (Unit {0})) → flushed_range (region_with_bytes b pid r) addr size ≡ flushed_range r addr size
  range-with pid addr size r = ap (λ (pages : Range). cond (size == 0) (record { first = page_of addr; count = end_of pages - page_of addr }) (range_of addr size)) (pages-with b pid r)

  keys_by_kind : (pid addr size : ℕ) (k : Kind) (r : Found (RegionOf (Unit {0}))) → flushed_in w addr size k (found_with b pid r) ≡ keys_of_region t addr size k r.thing
  keys_by_kind pid addr size kind.Private r = refl
  keys_by_kind pid addr size (kind.View v) r = λ i.
      let range = range-with pid addr size r.thing i in
      cond (is_some (block-with v.area.0 i)) (map (λ page. shared_key v.area.0 (v.first + (page - r.thing.base))) (numbers_from range.first range.count)) []

  keys_by_region : (pid addr size : ℕ) (o : Option (Found (RegionOf (Unit {0})))) → option_map (λ (r : Found (RegionOf Page)). flushed_in w addr size r.thing.kind r) (option_map (found_with b pid) o) ≡ option_map (λ (r : Found (RegionOf (Unit {0}))). keys_of_region t addr size r.thing.kind r.thing) o
  keys_by_region pid addr size None = refl
  keys_by_region pid addr size (Some r) = ap (λ (ks : List Key). Some ks) (keys_by_kind pid addr size r.thing.kind r)

  keys_by_process : (pid addr size : ℕ) (o : Option (ProcessOf (Unit {0}))) → option_and_then (λ (p : ProcessOf Page). option_map (λ (r : Found (RegionOf Page)). flushed_in w addr size r.thing.kind r) (flushed_view p.regions addr size)) (option_map (process_with b pid) o) ≡ option_and_then (λ (p : ProcessOf (Unit {0})). option_map (λ (r : Found (RegionOf (Unit {0}))). keys_of_region t addr size r.thing.kind r.thing) (flushed_view p.regions addr size)) o
  keys_by_process pid addr size None = refl
  keys_by_process pid addr size (Some p) =
      ap (λ o. option_map (λ (r : Found (RegionOf Page)). flushed_in w addr size r.thing.kind r) o) (view-with pid (range_of addr (cond (size == 0) 1 size)) p.regions)
      ∙ keys_by_region pid addr size (flushed_view p.regions addr size)

  pub flushed-with : (pid addr size : ℕ) → keys_flushed t pid addr size ≡ flushed_keys w pid addr size
  flushed-with pid addr size =
      sym (
      ap (λ o. unwrap_or (option_and_then (λ (p : ProcessOf Page). option_map (λ (r : Found (RegionOf Page)). flushed_in w addr size r.thing.kind r) (flushed_view p.regions addr size)) o) []) (process-with b t pid)
      ∙ ap (λ o. unwrap_or o []) (keys_by_process pid addr size (process_of t pid))
      )

-- what a process gives up, by the world before and the world after
pub gives-with : (t : Tables) (b : Key → Page) (pid : ℕ) (u : Tables) (d : Key → Page) → leaving t pid (is_free u) ≡ leaving (world_with t b) pid (is_uncommitted (world_with u d))
gives-with t b pid u d = leaving-with t b pid (is_free u) ∙ ap (leaving (world_with t b) pid) (uncommitted-with u d)
