-- Each line makes at most one of each thing that is numbered, and no call answers that a device failed.
use Rattle.std.proofs.Common.{◌≡◌, ◌≤◌, ℕ, zero, suc, ◌+◌, ◌-◌, Bool, false, Option, Some, None, List, [], ◌∷◌, ◌++◌, refl, sym, ◌∙◌, ap, arith, length, set, map, inl, inr}
use Rattle.std.proofs.lemmas.List.{length-set, length-append, get_or-set_same, get_or-set_other}
use Rattle.mm_types.proofs.{same_or_not}
use Rattle.mm_types.specs.{Answer, Code, Kind, MachineOf, Range, address_of, page_of, Text, commit_type}
use Rattle.mm_types.specs.declared.views.Kind.TheVariants as kind
use Rattle.mm_world.specs.{WorldOf, ProcessOf, RegionOf, AreaOf, SectionOf, FileOf, StackOf, RowOf, Numbered, numbered, Found, process_of}
use Rattle.mm_world.specs.{set_process, set_region, set_regions, set_area, stack_by, set_stack, end_stacks, Committed, committed_at, with_row}
use Rattle.mm_world.specs.{set_row, guard_off, OutcomeOf, done, refused, alloc, commit_in, free, protect, query, create, create_file, open_section}
use Rattle.mm_world.specs.{close, handle_or, new_section, settle, settled_sections, settled_areas, with_handle, map_view, unmap, flush, new_process}
use Rattle.mm_world.specs.{exit, new_file, take_fail, grow, no_regions, kept_of_others, watch, reset_watch, stack, made, probe, probe_at, probe_in}
use Rattle.mm_world.specs.{probe_of, grown}
use Rattle.mm_object_tables.specs.{MadeAtMost}
use Rattle.mm_dispatch.specs.{IsFailure}
use Rattle.mm_world.proofs.{Holds, tables, numbered_inside}

-- a process that has at most one handle more than another
abbrev OneMore : {B : Type 0} → ProcessOf B → Option (ProcessOf B) → Type 0
OneMore p None = Unit {0}
OneMore p (Some q) = length q.handles ≤ length p.handles + 1

module _ {B : Type 0} where
  pub record Makes (w : WorldOf B) (o : OutcomeOf B) : Type 0 where
    pub made : (n : ℕ) → MadeAtMost n w → MadeAtMost (n + 1) o.world
    pub fine : IsFailure o.answer → ⊥

  one-more : (w : WorldOf B) (n : ℕ) → MadeAtMost n w → MadeAtMost (n + 1) w
  one-more w n h =
      record {
        sections = omega (arith, h.sections);
        areas = omega (arith, h.areas);
        handles = λ pid p lives. omega (arith, h.handles pid p lives);
      }

  by_refusal : (w : WorldOf B) (why : Code) → Holds (Makes w) (refused w why)
  by_refusal w why = record { it = record { made = one-more w; fine = λ f. f } }

  unchanged : (w : WorldOf B) (a : Answer) → (IsFailure a → ⊥) → Holds (Makes w) (done a w)
  unchanged w a fine = record { it = record { made = one-more w; fine = fine } }

  handles-in : (w : WorldOf B) (n : ℕ) (ps : Numbered (ProcessOf B)) (pid : ℕ) (p : ProcessOf B) (q : Option (ProcessOf B)) → MadeAtMost n w → process_of w pid ≡ Some p → ps ≡ set w.processes pid q → OneMore p q → (j : ℕ) (r : ProcessOf B) → numbered ps j ≡ Some r → length r.handles ≤ n + 1 + 1
  handles-in w n ps pid p q h lives is more j r there =
      elim (same_or_not j pid) [
        | inl same ↦
            by_one q more (sym (get_or-set_same w.processes pid q None (numbered_inside w.processes pid p lives)) ∙ ap (λ (k : ℕ). numbered (set w.processes pid q) k) (sym same) ∙ ap (λ (ps : Numbered (ProcessOf B)). numbered ps j) (sym is) ∙ there)
        | inr other ↦
            let old : process_of w j ≡ Some r = sym (get_or-set_other w.processes pid j q None other) ∙ ap (λ (ps : Numbered (ProcessOf B)). numbered ps j) (sym is) ∙ there in
            omega (arith, h.handles j r old)
      ]
    where
      by_one : (q : Option (ProcessOf B)) → OneMore p q → q ≡ Some r → length r.handles ≤ n + 1 + 1
      by_one None more e = cc
      by_one (Some x) more e =
          let same : x ≡ r = cc in
          omega (arith, more, h.handles pid p lives, ap (λ (p : ProcessOf B). length p.handles) same)

  by_counts : (w v : WorldOf B) (a : Answer) → (IsFailure a → ⊥) → length v.sections ≤ length w.sections + 1 → length v.areas ≤ length w.areas + 1 → ((n : ℕ) → MadeAtMost n w → (pid : ℕ) (p : ProcessOf B) → process_of v pid ≡ Some p → length p.handles ≤ n + 1 + 1) → Holds (Makes w) (done a v)
  by_counts w v a fine sections areas handles =
      record { it = record { made = λ n h. record { sections = omega (arith, h.sections, sections); areas = omega (arith, h.areas, areas); handles = handles n h }; fine = fine } }

  by_set : (w v : WorldOf B) (pid : ℕ) (p : ProcessOf B) (q : Option (ProcessOf B)) (a : Answer) → (IsFailure a → ⊥) → process_of w pid ≡ Some p → v.processes ≡ set w.processes pid q → OneMore p q → length v.sections ≤ length w.sections + 1 → length v.areas ≤ length w.areas + 1 → Holds (Makes w) (done a v)
  by_set w v pid p q a fine lives processes more sections areas = by_counts w v a fine sections areas (λ n h. handles-in w n v.processes pid p q h lives processes more)

  by_rest : (w v : WorldOf B) (a : Answer) → (IsFailure a → ⊥) → v.processes ≡ w.processes → length v.sections ≤ length w.sections + 1 → length v.areas ≤ length w.areas + 1 → Holds (Makes w) (done a v)
  by_rest w v a fine processes sections areas =
      by_counts w v a fine sections areas (λ n h pid p lives. omega (arith, h.handles pid p (ap (λ (ps : Numbered (ProcessOf B)). numbered ps pid) (sym processes) ∙ lives)))

  -- ---- nothing was settled away from its number

  settled-length : (processes : List (Option (ProcessOf B))) (n : ℕ) (ss : Numbered SectionOf) → length (settled_sections processes n ss) ≡ length ss
  settled-length processes n [] = refl
  settled-length processes n (s ∷ ss) = ap suc (settled-length processes (n + 1) ss)

  areas-length : (sections : Numbered SectionOf) (n : ℕ) (areas : List (AreaOf B)) → length (settled_areas sections n areas) ≡ length areas
  areas-length sections n [] = refl
  areas-length sections n (a ∷ rest) = ap suc (areas-length sections (n + 1) rest)

  -- a world that is settled after a process was changed
  by_settled : (w v : WorldOf B) (pid : ℕ) (p : ProcessOf B) (q : Option (ProcessOf B)) (a : Answer) → (IsFailure a → ⊥) → process_of w pid ≡ Some p → v.processes ≡ set w.processes pid q → OneMore p q → v.sections ≡ w.sections → v.areas ≡ w.areas → Holds (Makes w) (done a (settle v))
  by_settled w v pid p q a fine lives processes more sections areas =
      by_set w (settle v) pid p q a fine lives processes more
      (omega (arith, settled-length v.processes 0 v.sections, ap (λ (ss : Numbered SectionOf). length ss) sections))
      (omega (arith, areas-length (settled_sections v.processes 0 v.sections) 0 v.areas, ap (λ (rest : List (AreaOf B)). length rest) areas))

  -- ---- the forms that calls are made of

  by_regions : (w : WorldOf B) (pid : ℕ) (p : ProcessOf B) (rs : List (RegionOf B)) (a : Answer) → (IsFailure a → ⊥) → process_of w pid ≡ Some p → Holds (Makes w) (done a (set_regions w pid p rs))
  by_regions w pid p rs a fine lives = by_set w _ pid p _ a fine lives refl (omega arith) (omega arith) (omega arith)

  by_handle : (w : WorldOf B) (pid : ℕ) (p : ProcessOf B) (number : ℕ) (a : Answer) → (IsFailure a → ⊥) → process_of w pid ≡ Some p → Holds (Makes w) (done a (with_handle w pid p number))
  by_handle w pid p number a fine lives =
      by_set w _ pid p _ a fine lives refl (omega (arith, length-append p.handles (Some number ∷ []))) (omega arith) (omega arith)

  by_regions_area : (w : WorldOf B) (pid : ℕ) (p : ProcessOf B) (rs : List (RegionOf B)) (area : ℕ) (pages : AreaOf B) (a : Answer) → (IsFailure a → ⊥) → process_of w pid ≡ Some p → Holds (Makes w) (done a (set_area (set_regions w pid p rs) area pages))
  by_regions_area w pid p rs area pages a fine lives =
      by_set w _ pid p _ a fine lives refl (omega arith) (omega arith) (omega (arith, length-set w.areas area pages))

  by_closed : (w : WorldOf B) (pid : ℕ) (p : ProcessOf B) (place : ℕ) (a : Answer) → (IsFailure a → ⊥) → process_of w pid ≡ Some p → Holds (Makes w) (done a (settle (set_process w pid (Some (record p { handles = set p.handles place None })))))
  by_closed w pid p place a fine lives =
      by_settled w (set_process w pid (Some (record p { handles = set p.handles place None }))) pid p _ a fine lives refl (omega (arith, length-set p.handles place None)) refl refl

  by_regions_settled : (w : WorldOf B) (pid : ℕ) (p : ProcessOf B) (rs : List (RegionOf B)) (a : Answer) → (IsFailure a → ⊥) → process_of w pid ≡ Some p → Holds (Makes w) (done a (settle (set_regions w pid p rs)))
  by_regions_settled w pid p rs a fine lives = by_settled w (set_regions w pid p rs) pid p _ a fine lives refl (omega arith) refl refl

  by_released : (w : WorldOf B) (pid : ℕ) (p : ProcessOf B) (rs : List (RegionOf B)) (ends : StackOf → Bool) (a : Answer) → (IsFailure a → ⊥) → process_of w pid ≡ Some p → Holds (Makes w) (done a (end_stacks (set_regions w pid p rs) ends))
  by_released w pid p rs ends a fine lives = by_set w _ pid p _ a fine lives refl (omega arith) (omega arith) (omega arith)

  by_exit : (w : WorldOf B) (pid : ℕ) (p : ProcessOf B) (ends : StackOf → Bool) (a : Answer) → (IsFailure a → ⊥) → process_of w pid ≡ Some p → Holds (Makes w) (done a (settle (set_process (end_stacks (record w { kept = map (kept_of_others pid) w.kept }) ends) pid None)))
  by_exit w pid p ends a fine lives = by_settled w (set_process (end_stacks (record w { kept = map (kept_of_others pid) w.kept }) ends) pid None) pid p None a fine lives refl tt refl refl

  by_section : (w : WorldOf B) (pid : ℕ) (p : ProcessOf B) (s : SectionOf) → process_of w pid ≡ Some p → Holds (Makes w) (new_section w pid p s)
  by_section w pid p s lives =
      by_set w _ pid p _ _ (λ f. f) lives refl (omega (arith, length-append p.handles (Some (length w.sections) ∷ []))) (omega (arith, length-append w.sections (Some s ∷ []))) (omega arith)

  by_paging_section : (w : WorldOf B) (pid : ℕ) (p : ProcessOf B) (s : SectionOf) (area : AreaOf B) → process_of w pid ≡ Some p → Holds (Makes w) (new_section (record w { areas = w.areas ++ area ∷ [] }) pid p s)
  by_paging_section w pid p s area lives =
      by_set w _ pid p _ _ (λ f. f) lives refl (omega (arith, length-append p.handles (Some (length w.sections) ∷ []))) (omega (arith, length-append w.sections (Some s ∷ []))) (omega (arith, length-append w.areas (area ∷ [])))

  -- ---- calls

  ruleset forms = (tables, by_refusal, unchanged, by_regions, by_regions_area)

  in_commit : (fill : ℕ → B) (w : WorldOf B) (pid : ℕ) (p : ProcessOf B) (r : Found (RegionOf B)) (k : Kind) (range : Range) (prot : ℕ) → process_of w pid ≡ Some p → Holds (Makes w) (commit_in fill w pid p r k range prot)
  in_commit fill w pid p r kind.Private range prot lives = search forms depth 14
  in_commit fill w pid p r (kind.View v) range prot lives = search forms depth 14

  pub in_alloc : (fill : ℕ → B) (w : WorldOf B) (pid addr size type prot : ℕ) → Holds (Makes w) (alloc fill w pid addr size type prot)
  in_alloc fill w pid addr size type prot = search (forms, in_commit) depth 14

  pub in_free : (w : WorldOf B) (pid addr size type : ℕ) → Holds (Makes w) (free w pid addr size type)
  in_free w pid addr size type = search (forms, by_released) depth 16

  pub in_protect : (w : WorldOf B) (pid addr size prot : ℕ) → Holds (Makes w) (protect w pid addr size prot)
  in_protect w pid addr size prot = search forms depth 18

  pub in_query : (w : WorldOf B) (pid addr : ℕ) → Holds (Makes w) (query w pid addr)
  in_query w pid addr = search (tables, by_refusal, unchanged) depth 14

  in_handle_or : (w : WorldOf B) (pid : ℕ) (p : ProcessOf B) (found : Option ℕ) (made : OutcomeOf B) → process_of w pid ≡ Some p → Holds (Makes w) made → Holds (Makes w) (handle_or w pid p found made)
  in_handle_or w pid p None made lives h = h
  in_handle_or w pid p (Some number) made lives h = by_handle w pid p number _ (λ f. f) lives

  pub in_create : (fill : ℕ → B) (w : WorldOf B) (pid size flags : ℕ) (name : Option Text) → Holds (Makes w) (create fill w pid size flags name)
  in_create fill w pid size flags name = search (tables, by_refusal, in_handle_or, by_paging_section) depth 14

  pub in_create_file : (w : WorldOf B) (pid : ℕ) (file : Text) (flags : ℕ) (name : Option Text) → Holds (Makes w) (create_file w pid file flags name)
  in_create_file w pid file flags name = search (tables, by_refusal, in_handle_or, by_section) depth 14

  pub in_open : (w : WorldOf B) (pid : ℕ) (name : Text) → Holds (Makes w) (open_section w pid name)
  in_open w pid name = search (tables, by_refusal, by_handle) depth 14

  pub in_close : (w : WorldOf B) (pid handle : ℕ) → Holds (Makes w) (close w pid handle)
  in_close w pid handle = search (tables, by_refusal, by_closed) depth 14

  pub in_map : (w : WorldOf B) (pid handle access offset len addr : ℕ) → Holds (Makes w) (map_view w pid handle access offset len addr)
  in_map w pid handle access offset len addr = search forms depth 22

  pub in_unmap : (w : WorldOf B) (pid addr : ℕ) → Holds (Makes w) (unmap w pid addr)
  in_unmap w pid addr = search (tables, by_refusal, by_regions_settled) depth 14

  pub in_flush : (w : WorldOf B) (pid addr size : ℕ) → Holds (Makes w) (flush w pid addr size)
  in_flush w pid addr size = search (tables, by_refusal, unchanged) depth 14

  pub in_exit : (w : WorldOf B) (pid : ℕ) → Holds (Makes w) (exit w pid)
  in_exit w pid = search (tables, by_refusal, by_exit) depth 14

  -- ---- what is counted for the whole run

  pushed : (n : ℕ) (ps : Numbered (ProcessOf B)) → ((pid : ℕ) (p : ProcessOf B) → numbered ps pid ≡ Some p → length p.handles ≤ n) → 1 ≤ n → (pid : ℕ) (p : ProcessOf B) → numbered (ps ++ Some no_regions ∷ []) pid ≡ Some p → length p.handles ≤ n
  pushed n [] h some zero p e = let same : no_regions ≡ p = cc in omega (arith, some, ap (λ (p : ProcessOf B). length p.handles) same)
  pushed n [] h some (suc pid) p e = cc
  pushed n (q ∷ ps) h some zero p e = h 0 p e
  pushed n (q ∷ ps) h some (suc pid) p e = pushed n ps (λ pid. h (suc pid)) some pid p e

  by_new : (w : WorldOf B) (a : Answer) → (IsFailure a → ⊥) → Holds (Makes w) (done a (record w { processes = w.processes ++ Some no_regions ∷ [] }))
  by_new w a fine = by_counts w _ a fine (omega arith) (omega arith) (λ n h. pushed (n + 1 + 1) w.processes (λ pid p lives. omega (arith, h.handles pid p lives)) (omega arith))

  pub in_new_process : (w : WorldOf B) → Holds (Makes w) (new_process w)
  in_new_process w = search (tables, unchanged, by_new) depth 14

  by_file : (w : WorldOf B) (a : Answer) (files : List FileOf) (area : AreaOf B) (used : ℕ) → (IsFailure a → ⊥) → Holds (Makes w) (done a (record w { files = files; areas = w.areas ++ area ∷ []; blocks_used = used }))
  by_file w a files area used fine = by_rest w _ a fine refl (omega arith) (omega (arith, length-append w.areas (area ∷ [])))

  pub in_new_file : (fill : ℕ → B) (w : WorldOf B) (name : Text) (pages byte : ℕ) → Holds (Makes w) (new_file fill w name pages byte)
  in_new_file fill w name pages byte = search (tables, by_refusal, unchanged, by_file) depth 14

  by_count : (w : WorldOf B) (n : ℕ) (a : Answer) → (IsFailure a → ⊥) → Holds (Makes w) (done a (record w { fails_taken = n }))
  by_count w n a fine = by_rest w _ a fine refl (omega arith) (omega arith)

  pub in_take_fail : (w : WorldOf B) → Holds (Makes w) (take_fail w)
  in_take_fail w = search (tables, unchanged, by_count) depth 14

  by_machine : (w : WorldOf B) (m : MachineOf) (a : Answer) → (IsFailure a → ⊥) → Holds (Makes w) (done a (record w { machine = m }))
  by_machine w m a fine = by_rest w _ a fine refl (omega arith) (omega arith)

  pub in_grow : (w : WorldOf B) (n : ℕ) → Holds (Makes w) (grow w n)
  in_grow w n = search (tables, unchanged, by_machine) depth 14

  -- ---- one region, one row

  pub made-set_region : (w : WorldOf B) (n pid place : ℕ) (p : ProcessOf B) (new : RegionOf B) → process_of w pid ≡ Some p → MadeAtMost n w → MadeAtMost n (set_region w pid p place new)
  made-set_region w n pid place p new lives h =
      record {
        sections = h.sections;
        areas = h.areas;
        handles = λ j q there.
            elim (same_or_not j pid) [
              | inl same ↦
                  let is : Some (record p { regions = set p.regions place new }) ≡ Some q = sym (get_or-set_same w.processes pid _ None (numbered_inside w.processes pid p lives)) ∙ ap (λ (k : ℕ). process_of (set_region w pid p place new) k) (sym same) ∙ there in
                  (let handles : p.handles ≡ q.handles = cc in omega (arith, h.handles pid p lives, ap (λ (hs : Numbered ℕ). length hs) handles))
              | inr other ↦ h.handles j q (sym (get_or-set_other w.processes pid j _ None other) ∙ there)
            ];
      }

  pub made-set_row : (w : WorldOf B) (n pid page : ℕ) (p : ProcessOf B) (r : Found (RegionOf B)) (row : RowOf B) → process_of w pid ≡ Some p → MadeAtMost n w → MadeAtMost n (set_row w pid p r page row)
  made-set_row w n pid page p r row lives h = made-set_region w n pid r.place p (with_row page row r.thing) lives h

  -- ---- watched regions

  by_flags : (w : WorldOf B) (pid : ℕ) (p : ProcessOf B) (place : ℕ) (new : RegionOf B) (a : Answer) → (IsFailure a → ⊥) → process_of w pid ≡ Some p → Holds (Makes w) (done a (set_region w pid p place new))
  by_flags w pid p place new a fine lives = by_regions w pid p _ a fine lives

  pub in_watch : (w : WorldOf B) (pid : ℕ) (unwrites : Bool) (addr size count : ℕ) → Holds (Makes w) (watch w pid unwrites addr size count)
  in_watch w pid unwrites addr size count = search (tables, by_refusal, unchanged, by_flags) depth 14

  pub in_reset_watch : (w : WorldOf B) (pid addr size : ℕ) → Holds (Makes w) (reset_watch w pid addr size)
  in_reset_watch w pid addr size = search (tables, by_refusal, by_flags) depth 14

  -- ---- stacks

  by_stack : (w : WorldOf B) (pid : ℕ) (p : ProcessOf B) (rs : List (RegionOf B)) (tid : ℕ) (s : StackOf) (a : Answer) → (IsFailure a → ⊥) → process_of w pid ≡ Some p → Holds (Makes w) (done a (set_stack (set_regions w pid p rs) tid s))
  by_stack w pid p rs tid s a fine lives = by_set w _ pid p _ a fine lives refl (omega arith) (omega arith) (omega arith)

  in_made : (fill : ℕ → B) (w : WorldOf B) (tid pid : ℕ) (p : ProcessOf B) (r c : ℕ) → process_of w pid ≡ Some p → Holds (Makes w) (made fill w tid pid p r c)
  in_made fill w tid pid p r c lives = search (tables, by_refusal, by_stack) depth 14

  pub in_stack : (fill : ℕ → B) (w : WorldOf B) (tid pid reserve commit : ℕ) → Holds (Makes w) (stack fill w tid pid reserve commit)
  in_stack fill w tid pid reserve commit = search (tables, by_refusal, unchanged, in_made) depth 14

  by_guard : (w : WorldOf B) (pid : ℕ) (p : ProcessOf B) (c : Committed B) (page : ℕ) (a : Answer) → (IsFailure a → ⊥) → process_of w pid ≡ Some p → Holds (Makes w) (done a (guard_off w pid p c page))
  by_guard w pid p c page a fine lives = by_regions w pid p _ a fine lives

  in_grown : (fill : ℕ → B) (w : WorldOf B) (tid : ℕ) (s : StackOf) (p : ProcessOf B) (c : Committed B) (page : ℕ) → process_of w s.pid ≡ Some p → Holds (Makes w) (grown fill (guard_off w s.pid p c page) tid s)
  in_grown fill w tid s p c page lives =
      record {
        it = record {
          made = λ n h.
              let m = (in_alloc fill (guard_off w s.pid p c page) s.pid (address_of (s.guard_page - 1)) 1 commit_type 0x104).it.made n (made-set_row w n s.pid page p c.region (record c.row { guard = false }) lives h) in
              record { sections = m.sections; areas = m.areas; handles = m.handles };
          fine = λ f. f;
        };
      }

  in_probe_at : (fill : ℕ → B) (w : WorldOf B) (tid : ℕ) (p : ProcessOf B) (s : StackOf) (page : ℕ) (c : Option (Committed B)) → process_of w s.pid ≡ Some p → Holds (Makes w) (probe_at fill w tid p s page c)
  in_probe_at fill w tid p s page None lives = unchanged w _ (λ f. f)
  in_probe_at fill w tid p s page (Some c) lives = search (tables, unchanged, by_guard, in_grown) depth 14

  in_probe_in : (fill : ℕ → B) (w : WorldOf B) (tid : ℕ) (s : StackOf) (page : ℕ) (p : Option (ProcessOf B)) → process_of w s.pid ≡ p → Holds (Makes w) (probe_in fill w tid s page p)
  in_probe_in fill w tid s page None lives = unchanged w _ (λ f. f)
  in_probe_in fill w tid s page (Some p) lives = in_probe_at fill w tid p s page (committed_at w p.regions page) lives

  in_probe_of : (fill : ℕ → B) (w : WorldOf B) (tid page : ℕ) (s : Option StackOf) → Holds (Makes w) (probe_of fill w tid page s)
  in_probe_of fill w tid page None = unchanged w _ (λ f. f)
  in_probe_of fill w tid page (Some s) = in_probe_in fill w tid s page (process_of w s.pid) refl

  pub in_probe : (fill : ℕ → B) (w : WorldOf B) (tid addr : ℕ) → Holds (Makes w) (probe fill w tid addr)
  in_probe fill w tid addr = in_probe_of fill w tid (page_of addr) (stack_by w tid)
