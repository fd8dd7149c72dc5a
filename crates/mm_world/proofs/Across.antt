-- A world is its tables and the bytes of its keys.
use Rattle.std.proofs.Common.{◌≡◌, ℕ, suc, ◌+◌, ◌-◌, Option, Some, None, List, [], ◌∷◌, refl, ◌∙◌, ap, arith, map, slice_get, option_map, unwrap_or, zero, ◌≤◌, Bool, true, false, sym, subst, cond, length, is_some, ◌&&◌, ◌%◌, ◌++◌, set}
use Rattle.std.specs.Prelude.{option_and_then, nat_le, nat_lt}
use Rattle.mm_types.specs.{Key, first_user_page, Kind, ViewAccess, end_of, holds_page, Text, Answer, Code, address_of, commit_type}
use Rattle.mm_world.specs.{Page, RowOf, RegionOf, ProcessOf, AreaOf, Numbered, numbered, filled, pages_of, no_area, own_page, private_key, shared_key}
use Rattle.mm_world.specs.{map_row, map_region, map_process, map_area, Tables, no_bytes, tables_of, bytes_in, row_with, rows_with, region_with_bytes}
use Rattle.mm_world.specs.{process_with, processes_with, pages_with, areas_with, world_with, LaidOut, Spaces, watch, reset_watch, WorldOf, is_private}
use Rattle.mm_world.specs.{Found, process_of, shared_page, region_with, content_of, OutcomeOf, is_one_of, row_at, alloc, free, protect, create}
use Rattle.mm_world.specs.{create_file, open_section, close, query, stack, map_view, unmap, flush, new_process, exit, take_fail, grow, map_world}
use Rattle.mm_world.specs.{tables_outcome, blank, AcrossBytes, Each, RowFits, RowsFit, held_protections, FileOf, done, refused, new_file, file_pages}
use Rattle.mm_world.specs.{file_bytes, AcrossFile, StackOf, Committed, committed_at, guard_off, probe, grown}
use Rattle.mm_world.specs.World.{World}
use Rattle.mm_types.proofs.{get_within}
use Rattle.mm_world.proofs.KeptCalls.{own_in, own_of, KeepsPages, by_key, Kept, kept_same, shared_pushed, by_same}
use Rattle.mm_world.proofs.Ranges.{holds}
use Rattle.mm_world.proofs.Regions.{has_at, has-cons, set_keeps, and-true}
use Rattle.std.proofs.Math.Path.{fun_ext}
use Rattle.std.proofs.lemmas.Bool.{leb-true}
use Rattle.std.proofs.lemmas.List.{length-map, length-set}
use Rattle.mm_world.proofs.Tables.{Holds, met, tables, at_probe}
use Rattle.mm_world.proofs.Natural.{Agrees, some-map, at_process, map-shared_page, map-row_at, map_found}
use Rattle.mm_world.proofs.NaturalSections.{with}
use Rattle.mm_world.proofs.Spaces.{spaces_kept}
use Rattle.mm_world.proofs.Edits.{any_terms, Edited}
use Rattle.std.proofs.lemmas.Option.{IfSome_then}
use Rattle.mm_world.proofs.Finding.{found_stands, put_at, committed_is}
use Rattle.mm_types.specs.declared.numbers.Key.TheVariants as key
use Rattle.mm_types.specs.declared.views.Kind.TheVariants as kind
use Rattle.mm_world.proofs.Natural as natural
use Rattle.mm_world.proofs.NaturalSections as sections
use Rattle.mm_world.proofs.CallEdits as calls
use Rattle.mm_world.proofs.KeptCalls as kept
use Rattle.mm_world.proofs.LineEdits as lines
use Rattle.mm_types.specs.declared.answers.Answer.TheVariants as answer
use Rattle.mm_world.proofs.WellFormed as formed

-- ---- the tables of a world with bytes are those that it was made of

module _ (c : Key → Page) where
  blank_row : (pid page : ℕ) (row : RowOf (Unit {0})) → map_row no_bytes (row_with c pid page row) ≡ row
  blank_row pid page row = elim row.own as (λ o. map_row no_bytes (row_with c pid page (record row { own = o })) ≡ record row { own = o }) [ None ↦ refl | Some u ↦ refl ]

  blank_rows : (pid page : ℕ) (rows : List (RowOf (Unit {0}))) → map (map_row no_bytes) (rows_with c pid page rows) ≡ rows
  blank_rows pid page [] = refl
  blank_rows pid page (row ∷ rows) = λ i. blank_row pid page row i ∷ blank_rows pid (page + 1) rows i

  blank_regions : (pid : ℕ) (rs : List (RegionOf (Unit {0}))) → map (map_region no_bytes) (map (region_with_bytes c pid) rs) ≡ rs
  blank_regions pid [] = refl
  blank_regions pid (r ∷ rs) = λ i. record r { rows = blank_rows pid r.base r.rows i } ∷ blank_regions pid rs i

  blank_process : (pid : ℕ) (p : Option (ProcessOf (Unit {0}))) → option_map (map_process no_bytes) (option_map (process_with c pid) p) ≡ p
  blank_process pid None = refl
  blank_process pid (Some p) = λ i. Some (record p { regions = blank_regions pid p.regions i })

  blank_processes : (pid : ℕ) (ps : Numbered (ProcessOf (Unit {0}))) → map (option_map (map_process no_bytes)) (processes_with c pid ps) ≡ ps
  blank_processes pid [] = refl
  blank_processes pid (p ∷ ps) = λ i. blank_process pid p i ∷ blank_processes (pid + 1) ps i

  blank_page : (k : Key) (o : Option (Unit {0})) → option_map no_bytes (option_map (λ u. c k) o) ≡ o
  blank_page k None = refl
  blank_page k (Some u) = refl

  blank_pages : (area index : ℕ) (pages : List (Option (Unit {0}))) → map (option_map no_bytes) (pages_with c area index pages) ≡ pages
  blank_pages area index [] = refl
  blank_pages area index (o ∷ pages) = λ i. blank_page (shared_key area index) o i ∷ blank_pages area (index + 1) pages i

  blank_areas : (area : ℕ) (areas : List (AreaOf (Unit {0}))) → map (map_area no_bytes) (areas_with c area areas) ≡ areas
  blank_areas area [] = refl
  blank_areas area (a ∷ rest) = λ i. record a { pages = blank_pages area 0 a.pages i } ∷ blank_areas (area + 1) rest i

  pub tables_back : (t : Tables) → tables_of (world_with t c) ≡ t
  tables_back t = λ i. record t { processes = blank_processes 0 t.processes i; areas = blank_areas 0 t.areas i }

-- ---- a world is made of its tables and its bytes

module _ (c : Key → Page) where
  full_own : (k : Key) (own : Option Page) → ((b : Page) → own ≡ Some b → c k ≡ b) → option_map (λ u. c k) (option_map no_bytes own) ≡ own
  full_own k None h = refl
  full_own k (Some b) h = ap (λ (b : Page). Some b) (h b refl)

  full_rows : (pid page : ℕ) (rows : List (RowOf Page)) → ((i : ℕ) (row : RowOf Page) (b : Page) → slice_get rows i ≡ Some row → row.own ≡ Some b → c (private_key pid (page + i)) ≡ b) → rows_with c pid page (map (map_row no_bytes) rows) ≡ rows
  full_rows pid page [] h = refl
  full_rows pid page (row ∷ rows) h =
      let here : (b : Page) → row.own ≡ Some b → c (private_key pid page) ≡ b = λ b own. ap (λ (n : ℕ). c (private_key pid n)) (let same : page ≡ page + 0 = omega arith in same) ∙ h 0 row b refl own in
      let later : rows_with c pid (page + 1) (map (map_row no_bytes) rows) ≡ rows =
      full_rows pid (page + 1) rows (λ i r b at own. ap (λ (n : ℕ). c (private_key pid n)) (let same : page + 1 + i ≡ page + suc i = omega arith in same) ∙ h (suc i) r b at own) in
      λ i. record row { own = full_own (private_key pid page) row.own here i } ∷ later i

  full_regions : (pid : ℕ) (rs : List (RegionOf Page)) → ((j : ℕ) (r : RegionOf Page) (i : ℕ) (row : RowOf Page) (b : Page) → slice_get rs j ≡ Some r → slice_get r.rows i ≡ Some row → row.own ≡ Some b → c (private_key pid (r.base + i)) ≡ b) → map (region_with_bytes c pid) (map (map_region no_bytes) rs) ≡ rs
  full_regions pid [] h = refl
  full_regions pid (r ∷ rs) h =
      let here = full_rows pid r.base r.rows (λ i row b at own. h 0 r i row b refl at own) in
      let later = full_regions pid rs (λ j x i row b there at own. h (suc j) x i row b there at own) in
      λ i. record r { rows = here i } ∷ later i

  full_processes : (n : ℕ) (ps : Numbered (ProcessOf Page)) → ((m : ℕ) (p : ProcessOf Page) → numbered ps m ≡ Some p → map (region_with_bytes c (n + m)) (map (map_region no_bytes) p.regions) ≡ p.regions) → processes_with c n (map (option_map (map_process no_bytes)) ps) ≡ ps
  full_processes n [] h = refl
  full_processes n (p ∷ ps) h =
      let later = full_processes (n + 1) ps (λ m q e. ap (λ (k : ℕ). map (region_with_bytes c k) (map (map_region no_bytes) q.regions)) (let same : n + 1 + m ≡ n + suc m = omega arith in same) ∙ h (suc m) q e) in
      λ i. here p (λ q e. h 0 q e) i ∷ later i
    where
      here : (o : Option (ProcessOf Page)) → ((q : ProcessOf Page) → o ≡ Some q → map (region_with_bytes c (n + 0)) (map (map_region no_bytes) q.regions) ≡ q.regions) → option_map (process_with c n) (option_map (map_process no_bytes) o) ≡ o
      here None k = refl
      here (Some q) k =
          let regions = ap (λ (m : ℕ). map (region_with_bytes c m) (map (map_region no_bytes) q.regions)) (let same : n ≡ n + 0 = omega arith in same) ∙ k q refl in
          λ i. Some (record q { regions = regions i })

  full_pages : (area n : ℕ) (pages : List (Option Page)) → ((i : ℕ) (b : Page) → numbered pages i ≡ Some b → c (shared_key area (n + i)) ≡ b) → pages_with c area n (map (option_map no_bytes) pages) ≡ pages
  full_pages area n [] h = refl
  full_pages area n (o ∷ pages) h =
      let here : (b : Page) → o ≡ Some b → c (shared_key area n) ≡ b = λ b own. ap (λ (k : ℕ). c (shared_key area k)) (let same : n ≡ n + 0 = omega arith in same) ∙ h 0 b own in
      let later = full_pages area (n + 1) pages (λ i b e. ap (λ (k : ℕ). c (shared_key area k)) (let same : n + 1 + i ≡ n + suc i = omega arith in same) ∙ h (suc i) b e) in
      λ i. full_own (shared_key area n) o here i ∷ later i

  full_areas : (n : ℕ) (areas : List (AreaOf Page)) → ((m : ℕ) (a : AreaOf Page) → slice_get areas m ≡ Some a → pages_with c (n + m) 0 (map (option_map no_bytes) a.pages) ≡ a.pages) → areas_with c n (map (map_area no_bytes) areas) ≡ areas
  full_areas n [] h = refl
  full_areas n (a ∷ rest) h =
      let here = ap (λ (k : ℕ). pages_with c k 0 (map (option_map no_bytes) a.pages)) (let same : n ≡ n + 0 = omega arith in same) ∙ h 0 a refl in
      let later = full_areas (n + 1) rest (λ m x e. ap (λ (k : ℕ). pages_with c k 0 (map (option_map no_bytes) x.pages)) (let same : n + 1 + m ≡ n + suc m = omega arith in same) ∙ h (suc m) x e) in
      λ i. record a { pages = here i } ∷ later i

-- a row's own bytes are those of its page
own_at : {B : Type 0} (from j i : ℕ) (rs : List (RegionOf B)) (r : RegionOf B) (row : RowOf B) → LaidOut from rs → slice_get rs j ≡ Some r → slice_get r.rows i ≡ Some row → own_page rs (r.base + i) ≡ row.own
own_at {B} from j i rs r row h there at =
    let page = r.base + i in
    has_at (λ (r : RegionOf B). own_in r page) from j page rs r h there (holds (pages_of r) page (omega arith) (omega (arith, get_within r.rows i row at)))
    ∙ ap (λ (k : ℕ). option_and_then (λ (row : RowOf B). row.own) (slice_get r.rows k)) (let k : page - r.base ≡ i = omega arith in k)
    ∙ ap (λ o. option_and_then (λ (row : RowOf B). row.own) o) at

pub full_world : (w : World) → Spaces w → world_with (tables_of w) (bytes_in w) ≡ w
full_world w spaces =
    let c = bytes_in w in
    let processes = full_processes c 0 w.processes (λ m p lives. ap (λ (k : ℕ). map (region_with_bytes c k) (map (map_region no_bytes) p.regions)) (let same : 0 + m ≡ m = omega arith in same) ∙ full_regions c m p.regions (λ j r i row b there at own.
    ap (λ (o : Option Page). unwrap_or o (filled 0)) (ap (λ p. own_of p (r.base + i)) lives ∙ own_at first_user_page j i p.regions r row (spaces m p lives).laid_out there at ∙ own))) in
    let areas = full_areas c 0 w.areas (λ m a there. ap (λ (k : ℕ). pages_with c k 0 (map (option_map no_bytes) a.pages)) (let same : 0 + m ≡ m = omega arith in same) ∙ full_pages c m 0 a.pages (λ i b e.
    ap (λ (k : ℕ). c (shared_key m k)) (let same : 0 + i ≡ i = omega arith in same) ∙ ap (λ (o : Option Page). unwrap_or o (filled 0)) (ap (λ o. numbered (unwrap_or o no_area).pages i) there ∙ e))) in
    λ i. record w { processes = processes i; areas = areas i }

-- ---- a call on a world with bytes is the call on its tables, and the bytes that are left

-- ---- what the tables show of a world

module _ {A B : Type 0} (f : A → B) where
  laid_back : (from : ℕ) (rs : List (RegionOf A)) → LaidOut from (map (map_region f) rs) → LaidOut from rs
  laid_back from [] h = h
  laid_back from (r ∷ rs) h =
      let rows : length (map (map_row f) r.rows) ≡ length r.rows = length-map r.rows (map_row f) in (
        record { later = h.0.later; on_granule = h.0.on_granule; some = subst (λ (n : ℕ). 1 ≤ n) rows h.0.some; flags = IfSome_then r.watched {P = λ ws. (length ws ≡ length (map (map_row f) r.rows)) × (is_private r.kind ≡ true)} {Q = λ ws. (length ws ≡ length r.rows) × (is_private r.kind ≡ true)} h.0.flags (λ ws e. (e.0 ∙ rows, e.1)) },
        laid_back (end_of (pages_of r)) rs (subst (λ (n : ℕ). LaidOut (r.base + n) (map (map_region f) rs)) rows h.1),
      )

  same_held : (access : ViewAccess) (o : Option A) (m : Bool) → held_protections access (option_map f o) m ≡ held_protections access o m
  same_held access None m = refl
  same_held access (Some x) m = refl

  row_back : (k : Kind) (row : RowOf A) → RowFits k (map_row f row) → RowFits k row
  row_back kind.Private row h =
      record {
        unmarked = h.unmarked;
        reserved = λ none.
            λ i. record (ap (λ (row : RowOf B). let r : RowOf A = record { prot = row.prot; guard = row.guard; marked = row.marked; own = None } in r) (h.reserved (ap (option_map f) none)) i) { own = none i };
        committed = λ there. h.committed (some-map f row.own ∙ there);
      }
  row_back (kind.View v) row h =
      record {
        copied = λ there. h.copied (some-map f row.own ∙ there);
        copy_view = h.copy_view;
        held = ap (λ ps. is_one_of ps row.prot) (sym (same_held v.access row.own row.marked)) ∙ h.held;
      }

  rows_back : (k : Kind) (rows : List (RowOf A)) → Each (RowFits k) (map (map_row f) rows) → Each (RowFits k) rows
  rows_back k [] h = tt
  rows_back k (row ∷ rows) h = (row_back k row h.0, rows_back k rows h.1)

  regions_back : (rs : List (RegionOf A)) → Each RowsFit (map (map_region f) rs) → Each RowsFit rs
  regions_back [] h = tt
  regions_back (r ∷ rs) h = (rows_back r.kind r.rows h.0, regions_back rs h.1)

  pub spaces_back : (w : WorldOf A) → Spaces (map_world f w) → Spaces w
  spaces_back w h pid p lives =
      let there = h pid (map_process f p) (at_process f w pid ∙ ap (option_map (map_process f)) lives) in
      record { laid_out = laid_back first_user_page p.regions there.laid_out; rows = regions_back p.regions there.rows }

  -- a key is live in the one where it is in the other
  map-own_page : (rs : List (RegionOf A)) (page : ℕ) → own_page (map (map_region f) rs) page ≡ option_map f (own_page rs page)
  map-own_page rs page =
      ap (λ (o : Option (Found (RegionOf B))). option_and_then (λ r. option_and_then (λ row. row.own) (row_at r.thing page)) o) (with f rs page) ∙ by_region (region_with rs page)
    where
      by_row : (o : Option (RowOf A)) → option_and_then (λ (row : RowOf B). row.own) (option_map (map_row f) o) ≡ option_map f (option_and_then (λ (row : RowOf A). row.own) o)
      by_row None = refl
      by_row (Some row) = refl

      by_region : (o : Option (Found (RegionOf A))) → option_and_then (λ (r : Found (RegionOf B)). option_and_then (λ row. row.own) (row_at r.thing page)) (option_map (map_found f) o) ≡ option_map f (option_and_then (λ (r : Found (RegionOf A)). option_and_then (λ row. row.own) (row_at r.thing page)) o)
      by_region None = refl
      by_region (Some r) = ap (λ (o : Option (RowOf B)). option_and_then (λ row. row.own) o) (map-row_at f r.thing page) ∙ by_row (row_at r.thing page)

  own_back : (w : WorldOf A) (pid page : ℕ) → is_some (own_of (process_of (map_world f w) pid) page) ≡ is_some (own_of (process_of w pid) page)
  own_back w pid page = ap is_some (ap (λ p. own_of p page) (at_process f w pid)) ∙ by_process (process_of w pid)
    where
      by_process : (p : Option (ProcessOf A)) → is_some (own_of (option_map (map_process f) p) page) ≡ is_some (own_of p page)
      by_process None = refl
      by_process (Some p) = ap is_some (map-own_page p.regions page) ∙ some-map f (own_page p.regions page)

  pub live_back : (w : WorldOf A) (k : Key) → is_some (content_of (map_world f w) k) ≡ is_some (content_of w k)
  live_back w (key.Private pid page) = own_back w pid.0 page.0
  live_back w (key.Shared area i) = ap is_some (map-shared_page f w area.0 i) ∙ some-map f (shared_page w area.0 i)

-- ---- what a world with bytes holds

has_only : (y : Page) (o : Option (Unit {0})) (x : Page) → option_map (λ u. y) o ≡ Some x → x ≡ y
has_only y None x e = cc
has_only y (Some u) x e = let same : y ≡ x = cc in sym same

module _ (c : Key → Page) where
  in_rows : (pid n i : ℕ) (rows : List (RowOf (Unit {0}))) (row : RowOf Page) (x : Page) → slice_get (rows_with c pid n rows) i ≡ Some row → row.own ≡ Some x → x ≡ c (private_key pid (n + i))
  in_rows pid n i [] row x at own = cc
  in_rows pid n zero (r ∷ rows) row x at own =
      let same : row_with c pid n r ≡ row = cc in
      has_only (c (private_key pid n)) r.own x (ap (λ (row : RowOf Page). row.own) same ∙ own) ∙ ap (λ (k : ℕ). c (private_key pid k)) (let k : n ≡ n + 0 = omega arith in k)
  in_rows pid n (suc i) (r ∷ rows) row x at own =
      in_rows pid (n + 1) i rows row x at own ∙ ap (λ (k : ℕ). c (private_key pid k)) (let k : n + 1 + i ≡ n + suc i = omega arith in k)

  in_region : (pid page : ℕ) (r : RegionOf (Unit {0})) (row : Option (RowOf Page)) (x : Page) → r.base ≤ page → row_at (region_with_bytes c pid r) page ≡ row → option_and_then (λ (row : RowOf Page). row.own) row ≡ Some x → x ≡ c (private_key pid page)
  in_region pid page r None x low at e = cc
  in_region pid page r (Some row) x low at e =
      in_rows pid r.base (page - r.base) r.rows row x at e ∙ ap (λ (k : ℕ). c (private_key pid k)) (let k : r.base + (page - r.base) ≡ page = omega (arith, low) in k)

  in_regions : (pid page : ℕ) (rs : List (RegionOf (Unit {0}))) (x : Page) → own_page (map (region_with_bytes c pid) rs) page ≡ Some x → x ≡ c (private_key pid page)
  in_regions pid page [] x e = cc
  in_regions pid page (r ∷ rs) x e = by_test (holds_page (pages_of (region_with_bytes c pid r)) page) refl (in_regions pid page rs x)
    where
      new : RegionOf Page
      new = region_with_bytes c pid r

      by_test : (b : Bool) → holds_page (pages_of new) page ≡ b → (own_page (map (region_with_bytes c pid) rs) page ≡ Some x → x ≡ c (private_key pid page)) → x ≡ c (private_key pid page)
      by_test true holds later =
          in_region pid page r (row_at new page) x (leb-true _ _ (and-true (nat_le new.base page) (nat_lt page (end_of (pages_of new))) holds).0) refl
          (sym (has-cons (λ r. own_in r page) new (map (region_with_bytes c pid) rs) page ∙ ap (λ b. cond b (own_in new page) (own_page (map (region_with_bytes c pid) rs) page)) holds) ∙ e)
      by_test false holds later =
          later (sym (has-cons (λ r. own_in r page) new (map (region_with_bytes c pid) rs) page ∙ ap (λ b. cond b (own_in new page) (own_page (map (region_with_bytes c pid) rs) page)) holds) ∙ e)

  in_processes : (n m page : ℕ) (ps : Numbered (ProcessOf (Unit {0}))) (x : Page) → own_of (numbered (processes_with c n ps) m) page ≡ Some x → x ≡ c (private_key (n + m) page)
  in_processes n m page [] x e = cc
  in_processes n zero page (p ∷ ps) x e = by_process p e ∙ ap (λ (k : ℕ). c (private_key k page)) (let k : n ≡ n + 0 = omega arith in k)
    where
      by_process : (p : Option (ProcessOf (Unit {0}))) → own_of (option_map (process_with c n) p) page ≡ Some x → x ≡ c (private_key n page)
      by_process None e = cc
      by_process (Some p) e = in_regions n page p.regions x e
  in_processes n (suc m) page (p ∷ ps) x e =
      in_processes (n + 1) m page ps x e ∙ ap (λ (k : ℕ). c (private_key k page)) (let k : n + 1 + m ≡ n + suc m = omega arith in k)

  in_pages : (area n i : ℕ) (pages : List (Option (Unit {0}))) (x : Page) → numbered (pages_with c area n pages) i ≡ Some x → x ≡ c (shared_key area (n + i))
  in_pages area n i [] x e = cc
  in_pages area n zero (o ∷ pages) x e = has_only (c (shared_key area n)) o x e ∙ ap (λ (k : ℕ). c (shared_key area k)) (let k : n ≡ n + 0 = omega arith in k)
  in_pages area n (suc i) (o ∷ pages) x e =
      in_pages area (n + 1) i pages x e ∙ ap (λ (k : ℕ). c (shared_key area k)) (let k : n + 1 + i ≡ n + suc i = omega arith in k)

  in_areas : (n m i : ℕ) (areas : List (AreaOf (Unit {0}))) (x : Page) → numbered (unwrap_or (slice_get (areas_with c n areas) m) no_area).pages i ≡ Some x → x ≡ c (shared_key (n + m) i)
  in_areas n m i [] x e = cc
  in_areas n zero i (a ∷ rest) x e = in_pages n 0 i a.pages x e ∙ (λ j. c (shared_key (let k : n ≡ n + 0 = omega arith in k j) (let k : 0 + i ≡ i = omega arith in k j)))
  in_areas n (suc m) i (a ∷ rest) x e = in_areas (n + 1) m i rest x e ∙ ap (λ (k : ℕ). c (shared_key k i)) (let k : n + 1 + m ≡ n + suc m = omega arith in k)

  pub holds_bytes : (t : Tables) (k : Key) (x : Page) → content_of (world_with t c) k ≡ Some x → x ≡ c k
  holds_bytes t (key.Private pid page) x e = in_processes 0 pid.0 page.0 t.processes x e ∙ ap (λ (n : ℕ). c (private_key n page.0)) (let k : 0 + pid.0 ≡ pid.0 = omega arith in k)
  holds_bytes t (key.Shared area i) x e = in_areas 0 area.0 i t.areas x e ∙ ap (λ (n : ℕ). c (shared_key n i)) (let k : 0 + area.0 ≡ area.0 = omega arith in k)

-- ---- across

-- one key's bytes after the call
bytes_at : (c fresh rest : Page) (b a : Bool) (old new : Option Page) → rest ≡ cond a fresh (filled 0) → b ≡ is_some old → a ≡ is_some new → ((x : Page) → old ≡ Some x → x ≡ c) → Kept fresh old new → cond (b && a) c rest ≡ unwrap_or new (filled 0)
bytes_at c fresh rest true true (Some y) (Some x) e eb ea held k = sym (k.kept x refl ∙ held y refl)
bytes_at c fresh rest false true None (Some x) e eb ea held k = e ∙ sym (k.kept x refl)
bytes_at c fresh rest true false old None e eb ea held k = e
bytes_at c fresh rest false false old None e eb ea held k = e
bytes_at c fresh rest _ _ _ _ e eb ea held k = cc

module _ (t : Tables) (c : Key → Page) (spaces : Spaces t) (q : OutcomeOf (Unit {0})) (o : OutcomeOf Page) (natural : q ≡ tables_outcome o) where
  abbrev w : World
  w = world_with t c

  before : Spaces w
  before = spaces_back no_bytes w (subst (λ t. Spaces t) (sym (tables_back c t)) spaces)

  bytes_after : (k : Key) (fresh rest : Page) → rest ≡ cond (is_some (content_of q.world k)) fresh (filled 0) → Kept fresh (content_of w k) (content_of o.world k) → cond (is_some (content_of t k) && is_some (content_of q.world k)) (c k) rest ≡ bytes_in o.world k
  bytes_after k fresh rest e kept =
      bytes_at (c k) fresh rest _ _ (content_of w k) (content_of o.world k) e
      (ap (λ t. is_some (content_of t k)) (sym (tables_back c t)) ∙ live_back no_bytes w k)
      (ap (λ (q : OutcomeOf (Unit {0})). is_some (content_of q.world k)) natural ∙ live_back no_bytes o.world k)
      (λ x e. holds_bytes c t k x e) kept

  world_after : (new : Key → Page) → ((k : Key) → new k ≡ bytes_in o.world k) → Holds (Edited any_terms w) o → o ≡ record { answer = q.answer; world = world_with q.world new }
  world_after new same edits =
      let worlds : o.world ≡ world_with q.world new =
      sym (full_world o.world (spaces_kept (any_terms o.answer) w o.world edits.it.edits before)) ∙ (λ i. world_with (sym natural i).world (sym (fun_ext same) i)) in
      λ i. record { answer = (sym natural i).answer; world = worlds i }

either_same : (b : Bool) (x : Page) → x ≡ cond b x x
either_same true x = refl
either_same false x = refl

pub across_by : (t : Tables) (c : Key → Page) (call : Tables → OutcomeOf (Unit {0})) (o : OutcomeOf Page) → Spaces t → Agrees no_bytes o (call (tables_of (world_with t c))) → Holds (KeepsPages (filled 0) (world_with t c)) o → Holds (Edited any_terms (world_with t c)) o → AcrossBytes t c (call t) o
across_by t c call o spaces agrees pages edits =
    let natural : call t ≡ tables_outcome o = ap call (sym (tables_back c t)) ∙ agrees.same in
    let kept = λ (k : Key). by_key (filled 0) (world_with t c) o.world k (pages.it.kept (before t c spaces (call t) o natural)) in
    record { across = λ new after. world_after t c spaces (call t) o natural new (λ k. after k ∙ bytes_after t c spaces (call t) o natural k (filled 0) (filled 0) (either_same _ (filled 0)) (kept k)) edits }

-- ---- each call

module _ (t : Tables) (c : Key → Page) (fits : Spaces t) where
  pub alloc_across : (pid addr size type prot : ℕ) → AcrossBytes t c (alloc blank t pid addr size type prot) (alloc filled (world_with t c) pid addr size type prot)
  alloc_across pid addr size type prot =
      across_by t c (λ t. alloc blank t pid addr size type prot) _ fits (natural.in_alloc no_bytes filled (world_with t c) pid addr size type prot)
      (kept.in_alloc filled (world_with t c) pid addr size type prot) (calls.in_alloc any_terms filled (world_with t c) pid addr size type prot (λ a e. cc) (λ a n m. tt))

  pub free_across : (pid addr size type : ℕ) → AcrossBytes t c (free t pid addr size type) (free (world_with t c) pid addr size type)
  free_across pid addr size type =
      across_by t c (λ t. free t pid addr size type) _ fits (natural.in_free no_bytes (world_with t c) pid addr size type)
      (kept.in_free (filled 0) (world_with t c) pid addr size type) (calls.in_free any_terms (world_with t c) pid addr size type refl (λ is x here at. refl) (λ n m h. tt))

  pub protect_across : (pid addr size prot : ℕ) → AcrossBytes t c (protect t pid addr size prot) (protect (world_with t c) pid addr size prot)
  protect_across pid addr size prot =
      across_by t c (λ t. protect t pid addr size prot) _ fits (natural.in_protect no_bytes (world_with t c) pid addr size prot)
      (kept.in_protect (filled 0) (world_with t c) pid addr size prot) (calls.in_protect any_terms (world_with t c) pid addr size prot (λ a n m. tt))

  pub query_across : (pid addr : ℕ) → AcrossBytes t c (query t pid addr) (query (world_with t c) pid addr)
  query_across pid addr =
      across_by t c (λ t. query t pid addr) _ fits (sections.in_query no_bytes (world_with t c) pid addr)
      (kept.in_query (filled 0) (world_with t c) pid addr) (calls.in_query any_terms (world_with t c) pid addr)

  pub watch_across : (pid : ℕ) (unwrites : Bool) (addr size count : ℕ) → AcrossBytes t c (watch t pid unwrites addr size count) (watch (world_with t c) pid unwrites addr size count)
  watch_across pid unwrites addr size count =
      across_by t c (λ t. watch t pid unwrites addr size count) _ fits (sections.in_watch no_bytes (world_with t c) pid unwrites addr size count)
      (kept.in_watch (filled 0) (world_with t c) pid unwrites addr size count) (calls.in_watch any_terms (world_with t c) pid unwrites addr size count (λ a. refl))

  pub reset_watch_across : (pid addr size : ℕ) → AcrossBytes t c (reset_watch t pid addr size) (reset_watch (world_with t c) pid addr size)
  reset_watch_across pid addr size =
      across_by t c (λ t. reset_watch t pid addr size) _ fits (sections.in_reset_watch no_bytes (world_with t c) pid addr size)
      (kept.in_reset_watch (filled 0) (world_with t c) pid addr size) (calls.in_reset_watch any_terms (world_with t c) pid addr size (λ a. refl))

  pub close_across : (pid handle : ℕ) → AcrossBytes t c (close t pid handle) (close (world_with t c) pid handle)
  close_across pid handle =
      across_by t c (λ t. close t pid handle) _ fits (sections.in_close no_bytes (world_with t c) pid handle)
      (kept.in_close (filled 0) (world_with t c) pid handle) (calls.in_close any_terms (world_with t c) pid handle (λ n m h. tt))

  pub map_across : (pid handle access offset len addr : ℕ) → AcrossBytes t c (map_view t pid handle access offset len addr) (map_view (world_with t c) pid handle access offset len addr)
  map_across pid handle access offset len addr =
      across_by t c (λ t. map_view t pid handle access offset len addr) _ fits (sections.in_map no_bytes (world_with t c) pid handle access offset len addr)
      (kept.in_map (filled 0) (world_with t c) pid handle access offset len addr) (calls.in_map any_terms (world_with t c) pid handle access offset len addr (λ a n m. tt))

  pub unmap_across : (pid addr : ℕ) → AcrossBytes t c (unmap t pid addr) (unmap (world_with t c) pid addr)
  unmap_across pid addr =
      across_by t c (λ t. unmap t pid addr) _ fits (sections.in_unmap no_bytes (world_with t c) pid addr)
      (kept.in_unmap (filled 0) (world_with t c) pid addr) (calls.in_unmap any_terms (world_with t c) pid addr (λ n m h. tt))

  pub flush_across : (pid addr size : ℕ) → AcrossBytes t c (flush t pid addr size) (flush (world_with t c) pid addr size)
  flush_across pid addr size =
      across_by t c (λ t. flush t pid addr size) _ fits (sections.in_flush no_bytes (world_with t c) pid addr size)
      (kept.in_flush (filled 0) (world_with t c) pid addr size) (calls.in_flush any_terms (world_with t c) pid addr size)

  pub exit_across : (pid : ℕ) → AcrossBytes t c (exit t pid) (exit (world_with t c) pid)
  exit_across pid =
      across_by t c (λ t. exit t pid) _ fits (sections.in_exit no_bytes (world_with t c) pid)
      (kept.in_exit (filled 0) (world_with t c) pid) (calls.in_exit any_terms (world_with t c) pid refl refl (λ x here. refl) (λ n m h. tt))

  pub grow_across : (n : ℕ) → AcrossBytes t c (grow t n) (grow (world_with t c) n)
  grow_across n =
      across_by t c (λ t. grow t n) _ fits (sections.in_grow no_bytes (world_with t c) n)
      (kept.in_grow (filled 0) (world_with t c) n) (calls.in_grow any_terms (world_with t c) n)

  pub create_across : (pid size flags : ℕ) (name : Option Text) → AcrossBytes t c (create blank t pid size flags name) (create filled (world_with t c) pid size flags name)
  create_across pid size flags name =
      across_by t c (λ t. create blank t pid size flags name) _ fits (sections.in_create no_bytes filled (world_with t c) pid size flags name)
      (kept.in_create filled (world_with t c) pid size flags name) (calls.in_create any_terms filled (world_with t c) pid size flags name (λ a n m. tt))

  pub create_file_across : (pid : ℕ) (file : Text) (flags : ℕ) (name : Option Text) → AcrossBytes t c (create_file t pid file flags name) (create_file (world_with t c) pid file flags name)
  create_file_across pid file flags name =
      across_by t c (λ t. create_file t pid file flags name) _ fits (sections.in_create_file no_bytes (world_with t c) pid file flags name)
      (kept.in_create_file (filled 0) (world_with t c) pid file flags name) (calls.in_create_file any_terms (world_with t c) pid file flags name)

  pub open_across : (pid : ℕ) (name : Text) → AcrossBytes t c (open_section t pid name) (open_section (world_with t c) pid name)
  open_across pid name =
      across_by t c (λ t. open_section t pid name) _ fits (sections.in_open no_bytes (world_with t c) pid name)
      (kept.in_open (filled 0) (world_with t c) pid name) (calls.in_open any_terms (world_with t c) pid name)

  pub new_process_across : AcrossBytes t c (new_process t) (new_process (world_with t c))
  new_process_across =
      across_by t c (λ t. new_process t) _ fits (sections.in_new_process no_bytes (world_with t c))
      (kept.in_new_process (filled 0) (world_with t c)) (calls.in_new_process any_terms (world_with t c))

  pub take_fail_across : AcrossBytes t c (take_fail t) (take_fail (world_with t c))
  take_fail_across =
      across_by t c (λ t. take_fail t) _ fits (sections.in_take_fail no_bytes (world_with t c))
      (kept.in_take_fail (filled 0) (world_with t c)) (calls.in_take_fail any_terms (world_with t c))

  pub stack_across : (tid pid reserve commit : ℕ) → AcrossBytes t c (stack blank t tid pid reserve commit) (stack filled (world_with t c) tid pid reserve commit)
  stack_across tid pid reserve commit =
      across_by t c (λ t. stack blank t tid pid reserve commit) _ fits (sections.in_stack no_bytes filled (world_with t c) tid pid reserve commit)
      (kept.in_stack filled (world_with t c) tid pid reserve commit) (lines.in_stack filled any_terms (λ a. refl) (λ a n m. tt) (world_with t c) tid pid reserve commit)

-- ---- the same of a `file` line, whose pages hold their own bytes

record KeepsFile (byte : ℕ) (w : World) (o : OutcomeOf Page) : Type 0 where
  pub kept : (k : Key) → Kept (file_bytes byte k) (content_of w k) (content_of o.world k)

file_same : (byte : ℕ) (w : World) (a : Answer) → Holds (KeepsFile byte w) (done a w)
file_same byte w a = record { it = record { kept = λ k. kept_same (file_bytes byte k) (content_of w k) } }

file_refusal : (byte : ℕ) (w : World) (why : Code) → Holds (KeepsFile byte w) (refused w why)
file_refusal byte w why = file_same byte w (answer.Error why)

-- page i of the file
file_page : (byte count i : ℕ) (x : Page) → numbered (file_pages filled byte count) i ≡ Some x → x ≡ filled ((byte + i) % 256)
file_page byte zero i x e = cc
file_page byte (suc count) zero x e =
    let same : filled (byte % 256) ≡ x = cc in
    sym same ∙ ap (λ (n : ℕ). filled (n % 256)) (let k : byte ≡ byte + 0 = omega arith in k)
file_page byte (suc count) (suc i) x e =
    file_page (byte + 1) count i x e ∙ ap (λ (n : ℕ). filled (n % 256)) (let k : byte + 1 + i ≡ byte + suc i = omega arith in k)

by_file : (byte : ℕ) (w : World) (files : List FileOf) (block pages used : ℕ) (a : Answer) → Holds (KeepsFile byte w) (done a (record w { files = files; areas = w.areas ++ record { file_block = Some block; pages = file_pages filled byte pages } ∷ []; blocks_used = used }))
by_file byte w files block pages used a = record { it = record { kept = by_key } }
  where
    area : AreaOf Page
    area = record { file_block = Some block; pages = file_pages filled byte pages }

    by_key : (k : Key) → Kept (file_bytes byte k) (content_of w k) (content_of (record w { files = files; areas = w.areas ++ area ∷ []; blocks_used = used }) k)
    by_key (key.Private pid page) = kept_same (filled 0) (own_of (process_of w pid.0) page.0)
    by_key (key.Shared at i) = shared_pushed (filled ((byte + i) % 256)) w.areas area at.0 i (file_page byte pages i)

in_new_file : (w : World) (name : Text) (pages byte : ℕ) → Holds (KeepsFile byte w) (new_file filled w name pages byte)
in_new_file w name pages byte = search (tables, file_refusal, file_same, by_file) depth 12

pub new_file_across : (t : Tables) (c : Key → Page) → Spaces t → (name : Text) (pages byte : ℕ) → AcrossFile byte t c (new_file blank t name pages byte) (new_file filled (world_with t c) name pages byte)
new_file_across t c fits name pages byte =
    let w = world_with t c in
    let q = new_file blank t name pages byte in
    let o = new_file filled w name pages byte in
    let natural : q ≡ tables_outcome o = ap (λ t. new_file blank t name pages byte) (sym (tables_back c t)) ∙ (sections.in_new_file no_bytes filled w name pages byte).same in
    let kept = (in_new_file w name pages byte).it.kept in
    record { across = λ new after. world_after t c fits q o natural new (λ k. after k ∙ bytes_after t c fits q o natural k (file_bytes byte k) _ refl (kept k)) (calls.in_new_file any_terms filled w name pages byte) }

-- ---- a guard that is turned off changes no page, and so a probe keeps the pages too

module _ {B : Type 0} where
  -- a row with the same bytes in the place of one
  row_same : (rows : List (RowOf B)) (k m : ℕ) (row new : RowOf B) → slice_get rows k ≡ Some row → new.own ≡ row.own → option_and_then (λ (row : RowOf B). row.own) (slice_get (set rows k new) m) ≡ option_and_then (λ (row : RowOf B). row.own) (slice_get rows m)
  row_same (r ∷ rows) zero zero row new there own = let same : r ≡ row = cc in own ∙ ap (λ (row : RowOf B). row.own) (sym same)
  row_same (r ∷ rows) (suc k) (suc m) row new there own = row_same rows k m row new there own
  row_same _ _ _ row new there own = cc

  pub guard_same : (w : WorldOf B) (pid : ℕ) (p : ProcessOf B) (c : Committed B) (page : ℕ) → Spaces w → process_of w pid ≡ Some p → committed_at w p.regions page ≡ Some c → (j at : ℕ) → own_of (process_of (guard_off w pid p c page) j) at ≡ own_of (process_of w j) at
  guard_same w pid p c page spaces lives committed j at =
      let h = committed_is w p.regions page c committed in
      let r = c.region.thing in
      let new : RegionOf B = record r { rows = set r.rows (page - r.base) (record c.row { guard = false }) } in
      put_at (λ o n. own_of n at ≡ own_of o at) w.processes pid j p (Some (record p { regions = set p.regions c.region.place new })) lives
      (λ same. set_keeps (λ (r : RegionOf B). own_in r at) (λ o n. n ≡ o) (λ o. refl) first_user_page c.region.place at p.regions r new (spaces pid p lives).laid_out (found_stands _ p.regions c.region h.region).there
      (record { base = refl; rows = length-set r.rows (page - r.base) (record c.row { guard = false }) }) (row_same r.rows (page - r.base) (at - r.base) c.row (record c.row { guard = false }) h.row_there refl))
      (λ other. refl)

  by_guard : (fresh : B) (w : WorldOf B) (pid : ℕ) (p : ProcessOf B) (c : Committed B) (page : ℕ) (a : Answer) → process_of w pid ≡ Some p → committed_at w p.regions page ≡ Some c → Holds (KeepsPages fresh w) (done a (guard_off w pid p c page))
  by_guard fresh w pid p c page a lives committed =
      met (record {
        kept = λ h.
            record {
              own = λ j at. subst (λ o. Kept fresh (own_of (process_of w j) at) o) (sym (guard_same w pid p c page h lives committed j at)) (kept_same fresh (own_of (process_of w j) at));
              shared = λ area i. kept_same fresh (shared_page w area i);
            };
      })

in_grown : (w : World) (tid : ℕ) (s : StackOf) (p : ProcessOf Page) (c : Committed Page) (page : ℕ) → process_of w s.pid ≡ Some p → committed_at w p.regions page ≡ Some c → Holds (KeepsPages (filled 0) w) (grown filled (guard_off w s.pid p c page) tid s)
in_grown w tid s p c page lives committed =
    let v = guard_off w s.pid p c page in
    let h = kept.in_alloc filled v s.pid (address_of (s.guard_page - 1)) 1 commit_type 0x104 in
    met (record {
      kept = λ spaces.
          let k = h.it.kept ((formed.by_guard w s.pid p c page answer.Ok lives committed).it.kept spaces) in
          record {
            own = λ j at. subst (λ o. Kept (filled 0) o (own_of (process_of (grown filled v tid s).world j) at)) (guard_same w s.pid p c page spaces lives committed j at) (k.own j at);
            shared = k.shared;
          };
    })

in_probe : (w : World) (tid addr : ℕ) → Holds (KeepsPages (filled 0) w) (probe filled w tid addr)
in_probe w tid addr = at_probe filled w tid addr (by_same (filled 0) w _) (by_same (filled 0) w _) (λ s p c has lives committed. search (tables, by_same, by_guard, in_grown) depth 14)

pub probe_across : (t : Tables) (c : Key → Page) → Spaces t → (tid addr : ℕ) → AcrossBytes t c (probe blank t tid addr) (probe filled (world_with t c) tid addr)
probe_across t c fits tid addr =
    across_by t c (λ t. probe blank t tid addr) _ fits (sections.in_probe no_bytes filled (world_with t c) tid addr)
    (in_probe (world_with t c) tid addr) (lines.in_probe filled any_terms (λ a. refl) (λ a n m. tt) (world_with t c) tid addr)
