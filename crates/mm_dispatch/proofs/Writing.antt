-- A page of a world is written: the same tables, with other bytes at one key.
use Rattle.std.proofs.Common.{◌≡◌, ◌≢◌, ◌⊎◌, inl, inr, ℕ, zero, suc, ◌+◌, ◌-◌, ◌≤◌, ◌<◌, true, false, Option, Some, None, List, [], ◌∷◌, refl, ◌∙◌, ap, arith, length, map, set, slice_get, option_map, ◌&&◌, nat_le, nat_lt, ◌==◌, get_or, unwrap_or, sym}
use Rattle.std.specs.Cmp.{unsigned_Decides}
use Rattle.mm_types.proofs.{and_false, differ, parts, less}
use Rattle.mm_types.specs.{Key, end_of, first_user_page}
use Rattle.mm_types.specs.declared.numbers.Key.TheVariants as key
use Rattle.mm_world.specs.{Page, RowOf, RegionOf, ProcessOf, AreaOf, Numbered, pages_of, process_of, area_at, no_area, shared_page, set_process}
use Rattle.mm_world.specs.{set_region, mark_written, one_page, same_key, Committed, committed_at, private_key, shared_key, with_row, set_row}
use Rattle.mm_world.specs.{set_shared, Tables, row_with, rows_with, region_with_bytes, process_with, processes_with, pages_with, area_with}
use Rattle.mm_world.specs.{areas_with, world_with, LaidOut, Spaces}
use Rattle.mm_world.proofs.{found_stands, numbered_there, committed_is, laid_at}
use Rattle.mm_dispatch.proofs.Numbering.{areas-numbered, numbers-new, numbers-same, pages-numbered, processes-numbered, rows-numbered, set_itself}
use Rattle.mm_dispatch.proofs.With.{begins, found_with, area-with}

pub shared_itself : (area index : ℕ) → same_key (shared_key area index) (shared_key area index) ≡ true
shared_itself area index = λ i. (unsigned_Decides area area).1 refl i && (unsigned_Decides index index).1 refl i

pub key_itself : (pid page : ℕ) → same_key (private_key pid page) (private_key pid page) ≡ true
key_itself pid page = λ i. (unsigned_Decides pid pid).1 refl i && (unsigned_Decides page page).1 refl i

pub keys-same : (k : Key) → same_key k k ≡ true
keys-same (key.Private pid page) = key_itself pid.0 page.0
keys-same (key.Shared area index) = shared_itself area.0 index

other_page : (p q : ℕ) (a b : ℕ) → a ≢ b → same_key (private_key p a) (private_key q b) ≡ false
other_page p q a b h = ap (λ t. (p == q) && t) (differ a b h) ∙ and_false (p == q)

other_process : (p q : ℕ) (a b : ℕ) → p ≢ q → same_key (private_key p a) (private_key q b) ≡ false
other_process p q a b h = ap (λ t. t && (a == b)) (differ p q h)

-- the bytes of one private key are changed
module _ (b c : Key → Page) (pid page : ℕ) (others : (k : Key) → same_key k (private_key pid page) ≡ false → c k ≡ b k) where
  -- ---- rows

  row-other : (q at : ℕ) (row : RowOf (Unit {0})) → c (private_key q at) ≡ b (private_key q at) → row_with c q at row ≡ row_with b q at row
  row-other q at row e = λ i. record { prot = row.prot; guard = row.guard; marked = row.marked; own = option_map (λ u. e i) row.own }

  row-elsewhere : (at : ℕ) (row : RowOf (Unit {0})) → at ≢ page → row_with c pid at row ≡ row_with b pid at row
  row-elsewhere at row h = row-other pid at row (others (private_key pid at) (other_page pid pid at page h))

  rows-before : (n : ℕ) (rows : List (RowOf (Unit {0}))) → (page < n) ⊎ (n + length rows ≤ page) → rows_with c pid n rows ≡ rows_with b pid n rows
  rows-before n rows h =
      numbers-same (rows-numbered c pid) (rows-numbered b pid) n rows
      (λ k row low high. row-elsewhere k row (λ e. elim h [ inl x ↦ absurd (omega (arith, x, low, e)) | inr y ↦ absurd (omega (arith, y, high, e)) ]))

  -- where another row stands
  rows-new : (n i : ℕ) (rows : List (RowOf (Unit {0}))) (new : RowOf (Unit {0})) → n + i ≡ page → rows_with c pid n (set rows i new) ≡ set (rows_with b pid n rows) i (row_with c pid page new)
  rows-new n i rows new e = numbers-new (rows-numbered c pid) (rows-numbered b pid) page row-elsewhere n i e rows new

  rows-process : (q n : ℕ) (rows : List (RowOf (Unit {0}))) → q ≢ pid → rows_with c q n rows ≡ rows_with b q n rows
  rows-process q n rows h = numbers-same (rows-numbered c q) (rows-numbered b q) n rows (λ k row low high. row-other q k row (others (private_key q k) (other_process q pid k page h)))

  -- ---- regions

  regions-process : (q : ℕ) (rs : List (RegionOf (Unit {0}))) → q ≢ pid → map (region_with_bytes c q) rs ≡ map (region_with_bytes b q) rs
  regions-process q [] h = refl
  regions-process q (r ∷ rs) h = λ i. record { base = r.base; alloc_prot = r.alloc_prot; kind = r.kind; rows = rows-process q r.base r.rows h i; watched = r.watched } ∷ regions-process q rs h i

  region-before : (r : RegionOf (Unit {0})) → (page < r.base) ⊎ (r.base + length r.rows ≤ page) → region_with_bytes c pid r ≡ region_with_bytes b pid r
  region-before r h = λ i. record { base = r.base; alloc_prot = r.alloc_prot; kind = r.kind; rows = rows-before r.base r.rows h i; watched = r.watched }

  regions-behind : (from : ℕ) (rs : List (RegionOf (Unit {0}))) → LaidOut from rs → page < from → map (region_with_bytes c pid) rs ≡ map (region_with_bytes b pid) rs
  regions-behind from [] laid low = refl
  regions-behind from (r ∷ rs) laid low =
      λ i. region-before r (inl (omega (arith, laid.0.later, low))) i ∷ regions-behind (end_of (pages_of r)) rs laid.1 (omega (arith, laid.0.later, low)) i

  regions-new : (from j : ℕ) (rs : List (RegionOf (Unit {0}))) (r new : RegionOf (Unit {0})) → LaidOut from rs → slice_get rs j ≡ Some r → r.base ≤ page → page < r.base + length r.rows → map (region_with_bytes c pid) (set rs j new) ≡ set (map (region_with_bytes b pid) rs) j (region_with_bytes c pid new)
  regions-new from j [] r new laid there low high = cc
  regions-new from zero (x ∷ rs) r new laid there low high =
      let same : x ≡ r = cc in
      let behind : page < end_of (pages_of x) = omega (arith, high, ap (λ (r : RegionOf (Unit {0})). r.base + length r.rows) same) in
      λ i. region_with_bytes c pid new ∷ regions-behind (end_of (pages_of x)) rs laid.1 behind i
  regions-new from (suc j) (x ∷ rs) r new laid there low high =
      let later = (laid_at (end_of (pages_of x)) rs j r laid.1 there).later in
      λ i. region-before x (inr (omega (arith, later, low))) i ∷ regions-new (end_of (pages_of x)) j rs r new laid.1 there low high i

  -- ---- processes

  process-other : (q : ℕ) (p : Option (ProcessOf (Unit {0}))) → q ≢ pid → option_map (process_with c q) p ≡ option_map (process_with b q) p
  process-other q None h = refl
  process-other q (Some p) h = λ i. Some (record { regions = regions-process q p.regions h i; handles = p.handles })

  processes-new : (ps : Numbered (ProcessOf (Unit {0}))) (new : Option (ProcessOf (Unit {0}))) → processes_with c 0 (set ps pid new) ≡ set (processes_with b 0 ps) pid (option_map (process_with c pid) new)
  processes-new ps new = numbers-new (processes-numbered c) (processes-numbered b) pid process-other 0 pid (omega arith) ps new

  -- ---- areas

  pages-same : (area n : ℕ) (pages : List (Option (Unit {0}))) → pages_with c area n pages ≡ pages_with b area n pages
  pages-same area n pages = numbers-same (pages-numbered c area) (pages-numbered b area) n pages (λ k o low high. ap (λ (x : Page). option_map (λ u. x) o) (others (shared_key area k) refl))

  areas-same : (n : ℕ) (areas : List (AreaOf (Unit {0}))) → areas_with c n areas ≡ areas_with b n areas
  areas-same n areas = numbers-same (areas-numbered c) (areas-numbered b) n areas (λ k a low high. λ i. record { file_block = a.file_block; pages = pages-same k 0 a.pages i })

  -- ---- the world

  -- another region stands in place of the row's, and other bytes of the page
  region-changed : (t : Tables) (p : ProcessOf (Unit {0})) (d : Committed (Unit {0})) (new : RegionOf (Unit {0})) → Spaces t → process_of t pid ≡ Some p → committed_at t p.regions page ≡ Some d → world_with (set_region t pid p d.region.place new) c ≡ set_region (world_with t b) pid (process_with b pid p) d.region.place (region_with_bytes c pid new)
  region-changed t p d new spaces lives committed =
      let h = committed_is t p.regions page d committed in
      let r = d.region.thing in
      let stands = found_stands _ p.regions d.region h.region in
      let low : r.base ≤ page = begins page p.regions d.region h.region in
      let high : page < r.base + length r.rows = less _ _ (parts (nat_le r.base page) (nat_lt page (end_of (pages_of r))) stands.passes).1 in
      let q : ProcessOf (Unit {0}) = record p { regions = set p.regions d.region.place new } in
      let regions : map (region_with_bytes c pid) q.regions ≡ set (map (region_with_bytes b pid) p.regions) d.region.place (region_with_bytes c pid new) =
      regions-new first_user_page d.region.place p.regions r new (spaces pid p lives).laid_out stands.there low high in
      let processes : processes_with c 0 (set t.processes pid (Some q)) ≡ set (processes_with b 0 t.processes) pid (Some (record { regions = set (map (region_with_bytes b pid) p.regions) d.region.place (region_with_bytes c pid new); handles = p.handles })) =
      processes-new t.processes (Some q)
      ∙ ap (λ (rs : List (RegionOf Page)). set (processes_with b 0 t.processes) pid (Some (record { regions = rs; handles = p.handles }))) regions in
      λ i. record (world_with t b) { processes = processes i; areas = areas-same 0 t.areas i }

  -- the page is marked as written, and has other bytes
  pub marked-with : (t : Tables) (p : ProcessOf (Unit {0})) (d : Committed (Unit {0})) → Spaces t → process_of t pid ≡ Some p → committed_at t p.regions page ≡ Some d → world_with (set_region t pid p d.region.place (mark_written true (one_page page) d.region.thing)) c ≡ set_region (world_with t b) pid (process_with b pid p) d.region.place (mark_written true (one_page page) (with_row page (row_with c pid page d.row) (region_with_bytes b pid d.region.thing)))
  marked-with t p d spaces lives committed =
      let h = committed_is t p.regions page d committed in
      let r = d.region.thing in
      let low : r.base ≤ page = begins page p.regions d.region h.region in
      let marked : RegionOf (Unit {0}) = mark_written true (one_page page) r in
      let rows : rows_with c pid r.base r.rows ≡ set (rows_with b pid r.base r.rows) (page - r.base) (row_with c pid page d.row) =
      ap (rows_with c pid r.base) (sym (set_itself r.rows (page - r.base) d.row h.row_there)) ∙ rows-new r.base (page - r.base) r.rows d.row (omega (arith, low)) in
      region-changed t p d marked spaces lives committed
      ∙ ap (λ (rows : List (RowOf Page)). set_region (world_with t b) pid (process_with b pid p) d.region.place (record { base = r.base; alloc_prot = r.alloc_prot; kind = r.kind; rows = rows; watched = marked.watched })) rows

  -- another row of the tables, and other bytes of its page
  pub copied-with : (t : Tables) (p : ProcessOf (Unit {0})) (d : Committed (Unit {0})) (new : RowOf (Unit {0})) → Spaces t → process_of t pid ≡ Some p → committed_at t p.regions page ≡ Some d → world_with (set_row t pid p d.region page new) c ≡ set_row (world_with t b) pid (process_with b pid p) (found_with b pid d.region) page (row_with c pid page new)
  copied-with t p d new spaces lives committed =
      let h = committed_is t p.regions page d committed in
      let r = d.region.thing in
      let low : r.base ≤ page = begins page p.regions d.region h.region in
      let rows : rows_with c pid r.base (set r.rows (page - r.base) new) ≡ set (rows_with b pid r.base r.rows) (page - r.base) (row_with c pid page new) =
      rows-new r.base (page - r.base) r.rows new (omega (arith, low)) in
      region-changed t p d (with_row page new r) spaces lives committed
      ∙ ap (λ (rows : List (RowOf Page)). set_region (world_with t b) pid (process_with b pid p) d.region.place (record { base = r.base; alloc_prot = r.alloc_prot; kind = r.kind; rows = rows; watched = r.watched })) rows

  -- the tables as they are
  pub written-with : (t : Tables) (p : ProcessOf (Unit {0})) (d : Committed (Unit {0})) → Spaces t → process_of t pid ≡ Some p → committed_at t p.regions page ≡ Some d → world_with t c ≡ set_row (world_with t b) pid (process_with b pid p) (found_with b pid d.region) page (row_with c pid page d.row)
  written-with t p d spaces lives committed =
      let h = committed_is t p.regions page d committed in
      let r = d.region.thing in
      let stands = found_stands _ p.regions d.region h.region in
      let same : set_row t pid p d.region page d.row ≡ t =
      (λ i. set_region t pid p d.region.place (record r { rows = set_itself r.rows (page - r.base) d.row h.row_there i }))
      ∙ (λ i. set_process t pid (Some (record p { regions = set_itself p.regions d.region.place r stands.there i })))
      ∙ (λ i. record t { processes = set_itself t.processes pid (Some p) (numbered_there t.processes pid p lives) i }) in
      ap (λ (v : Tables). world_with v c) (sym same) ∙ copied-with t p d d.row spaces lives committed

-- the bytes of one shared key are changed
module _ (b c : Key → Page) (area index : ℕ) (others : (k : Key) → same_key k (shared_key area index) ≡ false → c k ≡ b k) where
  other_index : (a i : ℕ) → i ≢ index → same_key (shared_key a i) (shared_key area index) ≡ false
  other_index a i h = ap (λ t. (a == area) && t) (differ i index h) ∙ and_false (a == area)

  other_area : (a i : ℕ) → a ≢ area → same_key (shared_key a i) (shared_key area index) ≡ false
  other_area a i h = ap (λ t. t && (i == index)) (differ a area h)

  -- ---- the areas

  pages-at : (n i : ℕ) (pages : List (Option (Unit {0}))) (u : Unit {0}) → n + i ≡ index → slice_get pages i ≡ Some (Some u) → pages_with c area n pages ≡ set (pages_with b area n pages) i (Some (c (shared_key area index)))
  pages-at n i pages u e there =
      ap (pages_with c area n) (sym (set_itself pages i (Some u) there))
      ∙ numbers-new (pages-numbered c area) (pages-numbered b area) index (λ k o h. ap (λ (x : Page). option_map (λ u. x) o) (others (shared_key area k) (other_index area k h))) n i e pages (Some u)

  area-elsewhere : (n : ℕ) (a : AreaOf (Unit {0})) → n ≢ area → area_with c n a ≡ area_with b n a
  area-elsewhere n a h =
      ap (λ (pages : List (Option Page)). let made : AreaOf Page = record { file_block = a.file_block; pages = pages } in made)
      (numbers-same (pages-numbered c n) (pages-numbered b n) 0 a.pages (λ k o low high. ap (λ (x : Page). option_map (λ u. x) o) (others (shared_key n k) (other_area n k h))))

  areas-at : (areas : List (AreaOf (Unit {0}))) (a : AreaOf (Unit {0})) (u : Unit {0}) → slice_get areas area ≡ Some a → slice_get a.pages index ≡ Some (Some u) → areas_with c 0 areas ≡ set (areas_with b 0 areas) area (record { file_block = a.file_block; pages = set (pages_with b area 0 a.pages) index (Some (c (shared_key area index))) })
  areas-at areas a u there page =
      ap (areas_with c 0) (sym (set_itself areas area a there)) ∙ numbers-new (areas-numbered c) (areas-numbered b) area area-elsewhere 0 area (omega arith) areas a
      ∙ ap (λ (pages : List (Option Page)). set (areas_with b 0 areas) area (record { file_block = a.file_block; pages = pages })) (pages-at 0 index a.pages u (omega arith) page)

  -- ---- the processes

  rows-shared : (q n : ℕ) (rows : List (RowOf (Unit {0}))) → rows_with c q n rows ≡ rows_with b q n rows
  rows-shared q n rows =
      numbers-same (rows-numbered c q) (rows-numbered b q) n rows
      (λ k row low high. λ i. record { prot = row.prot; guard = row.guard; marked = row.marked; own = option_map (λ u. others (private_key q k) refl i) row.own })

  regions-shared : (q : ℕ) (rs : List (RegionOf (Unit {0}))) → map (region_with_bytes c q) rs ≡ map (region_with_bytes b q) rs
  regions-shared q [] = refl
  regions-shared q (r ∷ rs) = λ i. record { base = r.base; alloc_prot = r.alloc_prot; kind = r.kind; rows = rows-shared q r.base r.rows i; watched = r.watched } ∷ regions-shared q rs i

  process-shared : (q : ℕ) (p : Option (ProcessOf (Unit {0}))) → option_map (process_with c q) p ≡ option_map (process_with b q) p
  process-shared q None = refl
  process-shared q (Some p) = λ i. Some (record { regions = regions-shared q p.regions i; handles = p.handles })

  processes-shared : (n : ℕ) (ps : Numbered (ProcessOf (Unit {0}))) → processes_with c n ps ≡ processes_with b n ps
  processes-shared n ps = numbers-same (processes-numbered c) (processes-numbered b) n ps (λ k p low high. process-shared k p)

  -- ---- the world

  known : (o : Option (AreaOf (Unit {0}))) (u : Unit {0}) → get_or (unwrap_or o no_area).pages index None ≡ Some u → o ≡ Some (unwrap_or o no_area)
  known None u e = cc
  known (Some a) u e = refl

  pub shared-written : (t : Tables) (u : Unit {0}) → shared_page t area index ≡ Some u → world_with t c ≡ set_shared (world_with t b) area index (c (shared_key area index))
  shared-written t u there =
      let a = area_at t area in
      let at : slice_get t.areas area ≡ Some a = known (slice_get t.areas area) u there in
      let areas : areas_with c 0 t.areas ≡ set (areas_with b 0 t.areas) area (record { file_block = a.file_block; pages = set (pages_with b area 0 a.pages) index (Some (c (shared_key area index))) }) =
      areas-at t.areas a u at (numbered_there a.pages index u there) in
      (λ i. record (world_with t b) { processes = processes-shared 0 t.processes i; areas = areas i })
      ∙ ap (λ (x : AreaOf Page). record (world_with t b) { areas = set (areas_with b 0 t.areas) area (record x { pages = set x.pages index (Some (c (shared_key area index))) }) }) (sym (area-with b t area))
