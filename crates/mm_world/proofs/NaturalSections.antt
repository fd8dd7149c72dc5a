-- The same of the calls on sections, views and processes, of `query`, and of stacks.
use Rattle.std.proofs.Common.{◌≡◌, ℕ, zero, suc, ◌+◌, ◌-◌, ◌/◌, ◌%◌, Bool, true, false, Option, Some, None, List, [], ◌∷◌, ◌++◌, refl, sym, ◌∙◌, ap, cond, length, is_some, is_none, replicate, set, map, drop, nat_lt, nat_le, ◌&&◌, ◌||◌, not, option_map, unwrap_or}
use Rattle.std.specs.Prelude.{remove, ◌==◌, option_and_then, find}
use Rattle.std.specs.List.{list_any}
use Rattle.std.proofs.Math.Path.{fun_ext}
use Rattle.std.proofs.lemmas.List.{map-set, length-map, map-append}
use Rattle.mm_types.specs.declared.answers.Answer.TheVariants as answer
use Rattle.mm_types.specs.{QueryInfo, Kind, ViewAccess, Range, lies_within, holds_page, address_of, page_of, pages_for, end_of_user_pages}
use Rattle.mm_types.specs.{is_granule_address, is_user_page, lowest_gap, permits, Text, commit_type}
use Rattle.mm_types.specs.declared.codes.Code.TheVariants as code
use Rattle.mm_types.specs.declared.codes.Raise.TheVariants as raise
use Rattle.mm_types.specs.declared.protections.Access.TheVariants as access_kind
use Rattle.mm_types.specs.declared.views.Kind.TheVariants as kind
use Rattle.mm_world.specs.{watch, reset_watch, watched_around, StackOf, RowOf, RegionOf, ProcessOf, AreaOf, SectionOf, WorldOf, Numbered, pages_of}
use Rattle.mm_world.specs.{end_stacks, set_stack, stack_by, Found, ranges_of, region_with, add_region, process_of, set_process, set_regions}
use Rattle.mm_world.specs.{set_region, area_at, no_area, shared_page, section_named, placed, is_private, limit, OutcomeOf, done, need, find_or}
use Rattle.mm_world.specs.{within_limit, change_flags, row_at, is_committed, reserved_row, commit, query, page_info, next_base, page_states}
use Rattle.mm_world.specs.{row_state, first_run, PageState, type_of, create, create_file, open_section, close, handle_or, new_section, settle}
use Rattle.mm_world.specs.{settled_area, settled_areas, settled_section, settled_sections, holds, views, is_view_of, uses, handle_section}
use Rattle.mm_world.specs.{paging_area, is_reserve, are_section_flags, section_prot, largest_section, map_view, unmap, flush, view_access, may_view}
use Rattle.mm_world.specs.{view_region, view_at, view_around, Home, Own, InSection, Committed, home_in, committed_in, committed_at, guard_off, alloc}
use Rattle.mm_world.specs.{stack, made, stack_region, probe, probe_at, probe_in, probe_of, grown, is_overflow, new_process, exit, new_file, take_fail}
use Rattle.mm_world.specs.{tell_charge, grow, file_pages, kept_of_others, map_row, map_region, map_process, map_area, map_world}
use Rattle.mm_world.proofs.Natural.{Agrees, map_found, first-map, found-map, read-map, map-remove, map-replicate, pages_of-map, ranges_of-map, same_place, at_process, to_process, to_regions, to_added, to_region, map-area_at, map-shared_page, map-row_at, same_committed, same_charge, in_alloc, at_need, at_found, at_lives, at_done, at_answer, at_limit, agreeing}

any-map : {X Y : Type 0} (test : Y → Bool) (g : X → Y) (xs : List X) → list_any test (map g xs) ≡ list_any (λ x. test (g x)) xs
any-map test g [] = refl
any-map test g (x ∷ xs) = ap (λ b. test (g x) || b) (any-map test g xs)

find-map : {X Y : Type 0} (test : Y → Bool) (g : X → Y) (xs : List X) → find test (map g xs) ≡ option_map g (find (λ x. test (g x)) xs)
find-map test g [] = refl
find-map test g (x ∷ xs) =
    elim (test (g x)) as (λ b. cond b (Some (g x)) (find test (map g xs)) ≡ option_map g (cond b (Some x) (find (λ x. test (g x)) xs))) [
      | true ↦ refl
      | false ↦ find-map test g xs
    ]

module _ {A B : Type 0} (f : A → B) where
  -- ---- query

  pub with : (rs : List (RegionOf A)) (page : ℕ) → region_with (map (map_region f) rs) page ≡ option_map (map_found f) (region_with rs page)
  with rs page = found-map f (λ r. holds_page (pages_of r) page) _ (λ r. ap (λ range. holds_page range page) (pages_of-map f r)) rs

  same_state_of : (b : Bool) (row : RowOf A) → row_state b (map_row f row) ≡ row_state b row
  same_state_of true row = refl
  same_state_of false row = refl

  same_states : (w : WorldOf A) (k : Kind) (i : ℕ) (rows : List (RowOf A)) → page_states (map_world f w) k i (map (map_row f) rows) ≡ page_states w k i rows
  same_states w k i [] = refl
  same_states w k i (row ∷ rows) =
      λ j. (ap (λ b. row_state b (map_row f row)) (same_committed f w k i row) ∙ same_state_of (is_committed w k i row) row) j ∷ same_states w k (i + 1) rows j

  same_next : (rs : List (RegionOf A)) (page : ℕ) → next_base (map (map_region f) rs) page ≡ next_base rs page
  same_next rs page =
      ap (λ (o : Option (RegionOf B)). unwrap_or (option_map (λ (r : RegionOf B). r.base) o) end_of_user_pages) (find-map (λ r. nat_lt page r.base) (map_region f) rs)
      ∙ read-map (map_region f) _ _ (λ r. refl) end_of_user_pages (find (λ (r : RegionOf A). nat_lt page r.base) rs)

  abbrev told_of : RegionOf A → ℕ → List PageState → QueryInfo
  told_of r page states =
      let run = first_run (drop (page - r.base) states) in
      record {
        base = address_of page;
        alloc_base = address_of r.base;
        alloc_prot = r.alloc_prot;
        size = address_of run.1;
        state = run.0.state;
        prot = run.0.prot;
        kind = type_of r.kind;
      }

  abbrev free_of : ℕ → ℕ → QueryInfo
  free_of page next =
      record { base = address_of page; alloc_base = 0; alloc_prot = 0; size = address_of (next - page); state = 0x10000; prot = 0x01; kind = 0 }

  same_info : (w : WorldOf A) (rs : List (RegionOf A)) (page : ℕ) (r : Option (Found (RegionOf A))) → page_info (map_world f w) (map (map_region f) rs) page (option_map (map_found f) r) ≡ page_info w rs page r
  same_info w rs page None = ap (free_of page) (same_next rs page)
  same_info w rs page (Some r) = ap (told_of r.thing page) (same_states w r.thing.kind 0 r.thing.rows)

  pub in_query : (w : WorldOf A) (pid addr : ℕ) → Agrees f (query w pid addr) (query (map_world f w) pid addr)
  in_query w pid addr =
      let page = page_of addr in
      at_lives f w pid _ _ (λ p lives.
      at_need f w code.InvalidParameter (is_user_page page) (is_user_page page) _ _ refl (
      at_answer f _ _ _ _ (ap answer.Info (ap (λ r. page_info (map_world f w) (map (map_region f) p.regions) page r) (with p.regions page) ∙ same_info w p.regions page (region_with p.regions page))) refl))

  -- ---- lives of sections

  same_holds : (number : ℕ) (p : Option (ProcessOf A)) → holds number (option_map (map_process f) p) ≡ holds number p
  same_holds number None = refl
  same_holds number (Some p) = refl

  same_views : (number : ℕ) (p : Option (ProcessOf A)) → views number (option_map (map_process f) p) ≡ views number p
  same_views number None = refl
  same_views number (Some p) = any-map (λ r. is_view_of number r.kind) (map_region f) p.regions

  same_section : (ps : Numbered (ProcessOf A)) (number : ℕ) (s : Option SectionOf) → settled_section (map (option_map (map_process f)) ps) number s ≡ settled_section ps number s
  same_section ps number None = refl
  same_section ps number (Some s) =
      λ i. cond ((any-map (holds number) (option_map (map_process f)) ps ∙ ap (λ t. list_any t ps) (fun_ext (same_holds number))) i) (Some s)
      (cond ((any-map (views number) (option_map (map_process f)) ps ∙ ap (λ t. list_any t ps) (fun_ext (same_views number))) i) (Some (record s { name = None })) None)

  same_sections : (ps : Numbered (ProcessOf A)) (number : ℕ) (ss : Numbered SectionOf) → settled_sections (map (option_map (map_process f)) ps) number ss ≡ settled_sections ps number ss
  same_sections ps number [] = refl
  same_sections ps number (s ∷ ss) = λ i. same_section ps number s i ∷ same_sections ps (number + 1) ss i

  map-settled_area : (ss : Numbered SectionOf) (n : ℕ) (a : AreaOf A) → map_area f (settled_area ss n a) ≡ settled_area ss n (map_area f a)
  map-settled_area ss n a =
      elim (is_some a.file_block || list_any (uses n) ss) as (λ b. map_area f (cond b a no_area) ≡ cond b (map_area f a) no_area) [ true ↦ refl | false ↦ refl ]

  map-settled_areas : (ss : Numbered SectionOf) (n : ℕ) (areas : List (AreaOf A)) → map (map_area f) (settled_areas ss n areas) ≡ settled_areas ss n (map (map_area f) areas)
  map-settled_areas ss n [] = refl
  map-settled_areas ss n (a ∷ rest) = λ i. map-settled_area ss n a i ∷ map-settled_areas ss (n + 1) rest i

  to_settled : (w : WorldOf A) → settle (map_world f w) ≡ map_world f (settle w)
  to_settled w =
      ap (λ ss. record (map_world f w) { sections = ss; areas = settled_areas ss 0 (map (map_area f) w.areas) }) (same_sections w.processes 0 w.sections)
      ∙ ap (λ areas. record (map_world f (settle w)) { areas = areas }) (sym (map-settled_areas (settled_sections w.processes 0 w.sections) 0 w.areas))

  -- ---- sections

  at_handle : (w : WorldOf A) (pid : ℕ) (p : ProcessOf A) (handles : Numbered ℕ) → set_process (map_world f w) pid (Some (record (map_process f p) { handles = handles })) ≡ map_world f (set_process w pid (Some (record p { handles = handles })))
  at_handle w pid p handles = sym (to_process f w pid (Some (record p { handles = handles })))

  at_handle_or : (w : WorldOf A) (pid : ℕ) (p : ProcessOf A) (found : Option ℕ) (o : OutcomeOf A) (q : OutcomeOf B) → Agrees f o q → Agrees f (handle_or w pid p found o) (handle_or (map_world f w) pid (map_process f p) found q)
  at_handle_or w pid p None o q h = h
  at_handle_or w pid p (Some number) o q h = at_done f _ _ _ (at_handle w pid p (p.handles ++ Some number ∷ []))

  at_section : (w : WorldOf A) (pid : ℕ) (p : ProcessOf A) (s : SectionOf) → Agrees f (new_section w pid p s) (new_section (map_world f w) pid (map_process f p) s)
  at_section w pid p s = at_done f _ _ _ (ap (λ (v : WorldOf B). record v { sections = w.sections ++ Some s ∷ [] }) (at_handle w pid p (p.handles ++ Some (length w.sections) ∷ [])))

  pub in_create_file : (w : WorldOf A) (pid : ℕ) (file : Text) (flags : ℕ) (name : Option Text) → Agrees f (create_file w pid file flags name) (create_file (map_world f w) pid file flags name)
  in_create_file w pid file flags name = search (agreeing, at_handle_or, at_section) depth 14

  pub in_open : (w : WorldOf A) (pid : ℕ) (name : Text) → Agrees f (open_section w pid name) (open_section (map_world f w) pid name)
  in_open w pid name = search (agreeing, at_handle) depth 14

  pub in_close : (w : WorldOf A) (pid handle : ℕ) → Agrees f (close w pid handle) (close (map_world f w) pid handle)
  in_close w pid handle = search (agreeing, at_closed) depth 14
    where
      at_closed : (p : ProcessOf A) → settle (set_process (map_world f w) pid (Some (record (map_process f p) { handles = set p.handles (handle / 4) None }))) ≡ map_world f (settle (set_process w pid (Some (record p { handles = set p.handles (handle / 4) None }))))
      at_closed p = ap settle (at_handle w pid p (set p.handles (handle / 4) None)) ∙ to_settled (set_process w pid (Some (record p { handles = set p.handles (handle / 4) None })))

  -- ---- views

  map-view_region : (s : Found SectionOf) (access : ViewAccess) (first : ℕ) (range : Range) → map_region f (view_region s access first range) ≡ view_region s access first range
  map-view_region s access first range = ap (λ rows. record (view_region {B = B} s access first range) { rows = rows }) (map-replicate (map_row f) range.count _)

  same_total : (w : WorldOf A) (area : ℕ) → length (area_at (map_world f w) area).pages ≡ length (area_at w area).pages
  same_total w area = ap (λ (a : AreaOf B). length a.pages) (map-area_at f w area) ∙ length-map (area_at w area).pages (option_map f)

  -- what `map` does with the section's number of pages
  abbrev map_with : {X : Type 0} → WorldOf X → ℕ → ProcessOf X → ℕ → ℕ → ℕ → ViewAccess → Found SectionOf → ℕ → OutcomeOf X
  map_with w pid p offset len addr view s total =
      let first = page_of offset in
      let count = cond (len == 0) (total - first) (pages_for len) in
      need w code.AccessDenied (may_view view s.thing.prot) (
      need w code.Misaligned (is_granule_address offset && is_granule_address addr) (
      need w code.InvalidAddress (nat_lt first total && nat_le (first + count) total) (
      find_or w code.InvalidAddress (placed (ranges_of p.regions) addr (record { first = page_of addr; count = count }) count) (λ range.
      within_limit w (done (answer.At (address_of range.first)) (set_regions w pid p (add_region (view_region s view first range) p.regions)))))))

  at_map_with : (w : WorldOf A) (pid : ℕ) (p : ProcessOf A) (offset len addr : ℕ) (view : ViewAccess) (s : Found SectionOf) (total : ℕ) → Agrees f (map_with w pid p offset len addr view s total) (map_with (map_world f w) pid (map_process f p) offset len addr view s total)
  at_map_with w pid p offset len addr view s total = search (agreeing, same_place, to_added, map-view_region) depth 20

  pub in_map : (w : WorldOf A) (pid handle access offset len addr : ℕ) → Agrees f (map_view w pid handle access offset len addr) (map_view (map_world f w) pid handle access offset len addr)
  in_map w pid handle access offset len addr =
      at_lives f w pid _ _ (λ p lives.
      at_found f w code.InvalidParameter (view_access access) (view_access access) _ _ refl (λ view found.
      at_found f w code.InvalidHandle (handle_section w p handle) (handle_section w p handle) _ _ refl (λ s found'.
      record {
        same = ap (λ total. map_with (map_world f w) pid (map_process f p) offset len addr view s total) (same_total w s.thing.area)
            ∙ (at_map_with w pid p offset len addr view s (length (area_at w s.thing.area).pages)).same;
      })))

  at_view : (rs : List (RegionOf A)) (addr : ℕ) → view_at (map (map_region f) rs) addr ≡ option_map (map_found f) (view_at rs addr)
  at_view rs addr = first-map (λ r. not (is_private r.kind) && (address_of r.base == addr)) (map_region f) rs

  pub in_unmap : (w : WorldOf A) (pid addr : ℕ) → Agrees f (unmap w pid addr) (unmap (map_world f w) pid addr)
  in_unmap w pid addr = search (agreeing, at_view, at_unmapped) depth 14
    where
      at_unmapped : (p : ProcessOf A) (r : Found (RegionOf A)) → settle (set_regions (map_world f w) pid (map_process f p) (remove (map (map_region f) p.regions) r.place)) ≡ map_world f (settle (set_regions w pid p (remove p.regions r.place)))
      at_unmapped p r =
          ap settle (ap (λ rs. set_regions (map_world f w) pid (map_process f p) rs) (sym (map-remove (map_region f) p.regions r.place)) ∙ sym (to_regions f w pid p (remove p.regions r.place)))
          ∙ to_settled (set_regions w pid p (remove p.regions r.place))

  around_view : (rs : List (RegionOf A)) (range : Range) → view_around (map (map_region f) rs) range ≡ option_map (map_found f) (view_around rs range)
  around_view rs range = found-map f (λ r. not (is_private r.kind) && lies_within range (pages_of r)) _ (λ r. ap (λ range'. not (is_private r.kind) && lies_within range range') (pages_of-map f r)) rs

  pub in_flush : (w : WorldOf A) (pid addr size : ℕ) → Agrees f (flush w pid addr size) (flush (map_world f w) pid addr size)
  in_flush w pid addr size = search (agreeing, around_view) depth 14

  -- ---- watched regions

  around_watched : (rs : List (RegionOf A)) (range : Range) → watched_around (map (map_region f) rs) range ≡ option_map (map_found f) (watched_around rs range)
  around_watched rs range = found-map f (λ r. is_some r.watched && lies_within range (pages_of r)) _ (λ r. ap (λ range'. is_some r.watched && lies_within range range') (pages_of-map f r)) rs

  to_flags : (w : WorldOf A) (pid : ℕ) (p : ProcessOf A) (r : Found (RegionOf A)) (flags : List Bool → List Bool) → set_region (map_world f w) pid (map_process f p) r.place (change_flags flags (map_region f r.thing)) ≡ map_world f (set_region w pid p r.place (change_flags flags r.thing))
  to_flags w pid p r flags = sym (to_region f w pid p r.place (change_flags flags r.thing))

  pub in_watch : (w : WorldOf A) (pid : ℕ) (unwrites : Bool) (addr size count : ℕ) → Agrees f (watch w pid unwrites addr size count) (watch (map_world f w) pid unwrites addr size count)
  in_watch w pid unwrites addr size count = search (agreeing, around_watched, by_flag) depth 14
    where
      by_flag : (w : WorldOf A) (pid : ℕ) (p : ProcessOf A) (r : Found (RegionOf A)) (flags : List Bool → List Bool) (b : Bool) → cond b (set_region (map_world f w) pid (map_process f p) r.place (change_flags flags (map_region f r.thing))) (map_world f w) ≡ map_world f (cond b (set_region w pid p r.place (change_flags flags r.thing)) w)
      by_flag w pid p r flags true = to_flags w pid p r flags
      by_flag w pid p r flags false = refl

  pub in_reset_watch : (w : WorldOf A) (pid addr size : ℕ) → Agrees f (reset_watch w pid addr size) (reset_watch (map_world f w) pid addr size)
  in_reset_watch w pid addr size = search (agreeing, around_watched, to_flags) depth 14

  -- ---- processes

  pub in_new_process : (w : WorldOf A) → Agrees f (new_process w) (new_process (map_world f w))
  in_new_process w = search (agreeing, length-map, map-append) depth 14

  pub in_exit : (w : WorldOf A) (pid : ℕ) → Agrees f (exit w pid) (exit (map_world f w) pid)
  in_exit w pid =
      at_lives f w pid _ _ (λ p lives.
      let v = end_stacks (record w { kept = map (kept_of_others pid) w.kept }) (λ s. s.pid == pid) in
      at_done f answer.Ok _ _ (ap settle (sym (to_process f v pid None)) ∙ to_settled (set_process v pid None)))

  pub in_take_fail : (w : WorldOf A) → Agrees f (take_fail w) (take_fail (map_world f w))
  in_take_fail w = search agreeing depth 14

  pub in_grow : (w : WorldOf A) (n : ℕ) → Agrees f (grow w n) (grow (map_world f w) n)
  in_grow w n = search agreeing depth 14

  pub in_tell_charge : (w : WorldOf A) → Agrees f (tell_charge w) (tell_charge (map_world f w))
  in_tell_charge w = at_answer f _ _ _ _ (ap (λ c. answer.Charge c (limit w)) (same_charge f w)) refl

  module _ (fill : ℕ → A) where
    abbrev filling : ℕ → B
    filling n = f (fill n)

    map-paging_area : (flags size : ℕ) → map_area f (paging_area fill flags size) ≡ paging_area filling flags size
    map-paging_area flags size =
        ap (λ pages. let a : AreaOf B = record { file_block = None; pages = pages } in a) (map-replicate (option_map f) (pages_for size) _ ∙ ap (replicate (pages_for size)) (elim (is_reserve flags) as (λ b. option_map f (cond b None (Some (fill 0))) ≡ cond b None (Some (filling 0))) [ true ↦ refl | false ↦ refl ]))

    pub in_create : (w : WorldOf A) (pid size flags : ℕ) (name : Option Text) → Agrees f (create fill w pid size flags name) (create filling (map_world f w) pid size flags name)
    in_create w pid size flags name =
        let s : SectionOf = record { prot = section_prot flags; name = name; area = length w.areas } in
        let v = record w { areas = w.areas ++ paging_area fill flags size ∷ [] } in
        let same_areas : map (map_area f) w.areas ++ paging_area filling flags size ∷ [] ≡ map (map_area f) w.areas ++ map_area f (paging_area fill flags size) ∷ [] =
        ap (λ (a : AreaOf B). map (map_area f) w.areas ++ a ∷ []) (sym (map-paging_area flags size)) in
        at_lives f w pid _ _ (λ p lives.
        at_need f w code.InvalidParameter (are_section_flags flags && not (size == 0) && nat_le size largest_section) (are_section_flags flags && not (size == 0) && nat_le size largest_section) _ _ refl (
        at_handle_or w pid p (option_and_then (section_named w) name) _ _ (
        at_limit f w (new_section v pid p s) _ (
        record {
          same =
              (λ i. new_section (record (map_world f w) { areas = same_areas i }) pid (map_process f p)
              (record { prot = section_prot flags; name = name; area = length-map w.areas (map_area f) i }))
              ∙ ap (λ areas. new_section (record (map_world f w) { areas = areas }) pid (map_process f p) s) (sym (map-append (map_area f) w.areas (paging_area fill flags size ∷ [])))
              ∙ (at_section v pid p s).same;
        }))))

    map-file_pages : (byte count : ℕ) → map (option_map f) (file_pages fill byte count) ≡ file_pages filling byte count
    map-file_pages byte zero = refl
    map-file_pages byte (suc count) = ap (λ ps. Some (filling (byte % 256)) ∷ ps) (map-file_pages (byte + 1) count)

    pub in_new_file : (w : WorldOf A) (name : Text) (pages byte : ℕ) → Agrees f (new_file fill w name pages byte) (new_file filling (map_world f w) name pages byte)
    in_new_file w name pages byte = search (agreeing, length-map, map-append, map-file_pages) depth 16

-- ---- stacks

module _ {A B : Type 0} (f : A → B) where
  abbrev map_home : Home A → Home B
  map_home (Own own) = Own (f own)
  map_home (InSection area index) = InSection area index

  abbrev map_committed : Committed A → Committed B
  map_committed c = record { region = map_found f c.region; row = map_row f c.row; home = map_home c.home }

  map-home_in : (w : WorldOf A) (i : ℕ) (k : Kind) (own : Option A) → home_in (map_world f w) i k (option_map f own) ≡ option_map map_home (home_in w i k own)
  map-home_in w i k (Some own) = refl
  map-home_in w i kind.Private None = refl
  map-home_in w i (kind.View v) None =
      ap (λ (o : Option B). option_map (λ page. InSection v.area.0 (v.first + i)) o) (map-shared_page f w v.area.0 (v.first + i)) ∙ by_option (shared_page w v.area.0 (v.first + i))
    where
      by_option : (o : Option A) → option_map (λ (page : B). let home : Home B = InSection v.area.0 (v.first + i) in home) (option_map f o) ≡ option_map map_home (option_map (λ (page : A). let home : Home A = InSection v.area.0 (v.first + i) in home) o)
      by_option None = refl
      by_option (Some page) = refl

  map-committed_in : (w : WorldOf A) (r : Found (RegionOf A)) (i : ℕ) (row : Option (RowOf A)) → committed_in (map_world f w) (map_found f r) i (option_map (map_row f) row) ≡ option_map map_committed (committed_in w r i row)
  map-committed_in w r i None = refl
  map-committed_in w r i (Some row) =
      ap (λ (o : Option (Home B)). option_map (λ home. let c : Committed B = record { region = map_found f r; row = map_row f row; home = home } in c) o) (map-home_in w i r.thing.kind row.own)
      ∙ by_option (home_in w i r.thing.kind row.own)
    where
      by_option : (o : Option (Home A)) → option_map (λ (home : Home B). let c : Committed B = record { region = map_found f r; row = map_row f row; home = home } in c) (option_map map_home o) ≡ option_map map_committed (option_map (λ (home : Home A). let c : Committed A = record { region = r; row = row; home = home } in c) o)
      by_option None = refl
      by_option (Some home) = refl

  map-committed_at : (w : WorldOf A) (rs : List (RegionOf A)) (page : ℕ) → committed_at (map_world f w) (map (map_region f) rs) page ≡ option_map map_committed (committed_at w rs page)
  map-committed_at w rs page =
      ap (λ (o : Option (Found (RegionOf B))). option_and_then (λ r. committed_in (map_world f w) r (page - r.thing.base) (row_at r.thing page)) o) (with f rs page) ∙ by_region (region_with rs page)
    where
      by_region : (o : Option (Found (RegionOf A))) → option_and_then (λ (r : Found (RegionOf B)). committed_in (map_world f w) r (page - r.thing.base) (row_at r.thing page)) (option_map (map_found f) o) ≡ option_map map_committed (option_and_then (λ (r : Found (RegionOf A)). committed_in w r (page - r.thing.base) (row_at r.thing page)) o)
      by_region None = refl
      by_region (Some r) =
          ap (committed_in (map_world f w) (map_found f r) (page - r.thing.base)) (map-row_at f r.thing page) ∙ map-committed_in w r (page - r.thing.base) (row_at r.thing page)

  to_guard_off : (w : WorldOf A) (pid : ℕ) (p : ProcessOf A) (c : Committed A) (page : ℕ) → guard_off (map_world f w) pid (map_process f p) (map_committed c) page ≡ map_world f (guard_off w pid p c page)
  to_guard_off w pid p c page =
      let r = c.region.thing in
      let new : RegionOf A = record r { rows = set r.rows (page - r.base) (record c.row { guard = false }) } in
      ap (λ rows. set_region (map_world f w) pid (map_process f p) c.region.place (record (map_region f r) { rows = rows })) (sym (map-set (map_row f) r.rows (page - r.base) (record c.row { guard = false })))
      ∙ sym (to_region f w pid p c.region.place new)

  same_overflow : (w : WorldOf A) (p : ProcessOf A) (s : StackOf) → is_overflow (map_world f w) (map_process f p) s ≡ is_overflow w p s
  same_overflow w p s =
      let next = s.guard_page - 1 in
      λ i. (next == s.base) || ((ap is_none (map-committed_at w p.regions next) ∙ none-map (committed_at w p.regions next)) i && (same_charge f w i == limit w))
    where
      none-map : (o : Option (Committed A)) → is_none (option_map map_committed o) ≡ is_none o
      none-map None = refl
      none-map (Some c) = refl

  module _ (fill : ℕ → A) where
    abbrev stacking : ℕ → B
    stacking n = f (fill n)

    map-stack_region : (base r c : ℕ) → map_region f (stack_region fill base r c) ≡ stack_region stacking base r c
    map-stack_region base r c =
        ap (λ rows. record (stack_region stacking base r c) { rows = rows })
        (map-append (map_row f) (replicate (r - (c + 1)) reserved_row) (commit (fill 0) 0x104 reserved_row ∷ replicate c (commit (fill 0) 0x04 reserved_row))
        ∙ (λ i. map-replicate (map_row f) (r - (c + 1)) reserved_row i ++ commit (stacking 0) 0x104 reserved_row ∷ map-replicate (map_row f) c (commit (fill 0) 0x04 reserved_row) i))

    in_made : (w : WorldOf A) (tid pid : ℕ) (p : ProcessOf A) (r c : ℕ) → Agrees f (made fill w tid pid p r c) (made stacking (map_world f w) tid pid (map_process f p) r c)
    in_made w tid pid p r c = search (agreeing, at_gap, at_stack) depth 16
      where
        at_gap : lowest_gap (ranges_of (map (map_region f) p.regions)) r ≡ lowest_gap (ranges_of p.regions) r
        at_gap = ap (λ ranges. lowest_gap ranges r) (ranges_of-map f p.regions)

        at_stack : (base : ℕ) (s : StackOf) → set_stack (set_regions (map_world f w) pid (map_process f p) (add_region (stack_region stacking base r c) (map (map_region f) p.regions))) tid s ≡ map_world f (set_stack (set_regions w pid p (add_region (stack_region fill base r c) p.regions)) tid s)
        at_stack base s = ap (λ (v : WorldOf B). set_stack v tid s) (to_added f w pid p (stack_region fill base r c) (stack_region stacking base r c) (map-stack_region base r c))

    pub in_stack : (w : WorldOf A) (tid pid reserve commit : ℕ) → Agrees f (stack fill w tid pid reserve commit) (stack stacking (map_world f w) tid pid reserve commit)
    in_stack w tid pid reserve commit = search (agreeing, in_made) depth 14

    at_grown : (tid : ℕ) (s : StackOf) (v : WorldOf A) (u : WorldOf B) → u ≡ map_world f v → Agrees f (grown fill v tid s) (grown stacking u tid s)
    at_grown tid s v u e =
        let addr = address_of (s.guard_page - 1) in
        let next : StackOf = record s { guard_page = s.guard_page - 1 } in
        record {
          same = ap (λ u. done (answer.At addr) (set_stack (alloc stacking u s.pid addr 1 commit_type 0x104).world tid next)) e
              ∙ ap (λ (o : OutcomeOf B). done (answer.At addr) (set_stack o.world tid next)) (in_alloc f fill v s.pid addr 1 commit_type 0x104).same;
        }

    -- the cases of a probe, with whether the stack overflows
    abbrev probe_with : {X : Type 0} → (WorldOf X → ℕ → StackOf → OutcomeOf X) → Bool → WorldOf X → ℕ → StackOf → ℕ → RowOf X → WorldOf X → OutcomeOf X
    probe_with grows overflow w tid s page row without_guard =
        cond (row.guard && not (page == s.guard_page)) (done (answer.Raised raise.GuardPage) without_guard)
        (cond (row.guard && overflow) (done (answer.Raised raise.StackOverflow) without_guard)
        (cond row.guard (grows without_guard tid s)
        (cond (not (permits row.prot access_kind.Read)) (done (answer.Raised raise.AccessViolation) w) (done (answer.At (address_of s.guard_page)) w))))

    at_probe_with : (overflow : Bool) (w : WorldOf A) (tid : ℕ) (s : StackOf) (page : ℕ) (row : RowOf A) (v : WorldOf A) (u : WorldOf B) → u ≡ map_world f v → Agrees f (probe_with (grown fill) overflow w tid s page row v) (probe_with (grown stacking) overflow (map_world f w) tid s page (map_row f row) u)
    at_probe_with overflow w tid s page row v u e = search (agreeing, at_grown) depth 14

    in_probe_at : (w : WorldOf A) (tid : ℕ) (p : ProcessOf A) (s : StackOf) (page : ℕ) (c : Option (Committed A)) → Agrees f (probe_at fill w tid p s page c) (probe_at stacking (map_world f w) tid (map_process f p) s page (option_map map_committed c))
    in_probe_at w tid p s page None = at_done f (answer.Raised raise.AccessViolation) w (map_world f w) refl
    in_probe_at w tid p s page (Some c) =
        record {
          same = ap (λ overflow. probe_with (grown stacking) overflow (map_world f w) tid s page (map_row f c.row) (guard_off (map_world f w) s.pid (map_process f p) (map_committed c) page)) (same_overflow w p s)
              ∙ (at_probe_with (is_overflow w p s) w tid s page c.row (guard_off w s.pid p c page) (guard_off (map_world f w) s.pid (map_process f p) (map_committed c) page) (to_guard_off w s.pid p c page)).same;
        }

    in_probe_in : (w : WorldOf A) (tid : ℕ) (s : StackOf) (page : ℕ) (p : Option (ProcessOf A)) → Agrees f (probe_in fill w tid s page p) (probe_in stacking (map_world f w) tid s page (option_map (map_process f) p))
    in_probe_in w tid s page None = at_done f answer.Nothing w (map_world f w) refl
    in_probe_in w tid s page (Some p) =
        record {
          same = ap (λ c. probe_at stacking (map_world f w) tid (map_process f p) s page c) (map-committed_at w p.regions page) ∙ (in_probe_at w tid p s page (committed_at w p.regions page)).same;
        }

    in_probe_of : (w : WorldOf A) (tid page : ℕ) (s : Option StackOf) → Agrees f (probe_of fill w tid page s) (probe_of stacking (map_world f w) tid page s)
    in_probe_of w tid page None = at_done f answer.Nothing w (map_world f w) refl
    in_probe_of w tid page (Some s) =
        record { same = ap (λ p. probe_in stacking (map_world f w) tid s page p) (at_process f w s.pid) ∙ (in_probe_in w tid s page (process_of w s.pid)).same }

    pub in_probe : (w : WorldOf A) (tid addr : ℕ) → Agrees f (probe fill w tid addr) (probe stacking (map_world f w) tid addr)
    in_probe w tid addr = in_probe_of w tid (page_of addr) (stack_by w tid)
