-- Each line is a list of edits.
use Rattle.std.proofs.Common.{count_by, ◌≡◌, ℕ, ◌+◌, ◌-◌, ◌≤◌, Bool, true, false, Option, Some, None, List, ◌∷◌, refl, sym, ◌∙◌, ap, subst, cond, arith, length, set, replicate, is_some, nat_le, option_map, ◌&&◌, ◌==◌}
use Rattle.std.proofs.lemmas.Bool.{leb-true}
use Rattle.std.proofs.lemmas.List.{length-set, length-append, length-replicate}
use Rattle.mm_types.specs.{Answer, AccessSpec, Event, Kind, View, Range, address_of, lowest_gap, commit_type, release_type, Tid}
use Rattle.mm_types.proofs.{all_three}
use Rattle.mm_world.specs.{StackOf, WorldOf, ProcessOf, RegionOf, RowOf, KeptOf, Page, filled, change_range, set_region, set_stack, process_of}
use Rattle.mm_world.specs.{set_regions, add_region, ranges_of, area_at, shared_page, with_row, Home, InSection, Committed, committed_at, set_row}
use Rattle.mm_world.specs.{set_shared, guard_off, OutcomeOf, done, Attempt, ReadOf, WriteOf, Execute, access, access_at, perform, write_to, written}
use Rattle.mm_world.specs.{bytes_at_home, address_in, attempt_in, is_told, unpaged, step, world_told, begin, resume, store_line, kept_by, keep}
use Rattle.mm_world.specs.{is_charged, region_charge, area_charge, alloc, stack, probe, grown, made, stack_region, PagesOf, line_ends, is_released_by}
use Rattle.mm_world.specs.{Each, RowFits, RowsFit, FlagsFit, PrivateRowFits, held_protections, one_page, mark_written, is_one_of, reserved_row}
use Rattle.mm_world.specs.{commit, Leaves, LineLeaves, is_alarm, is_limit_refusal, is_thread_line}
use Rattle.mm_world.specs.World.{World}
use Rattle.mm_world.specs.Report.{Report}
use Rattle.mm_world.proofs.Determined.{decided}
use Rattle.mm_world.proofs.Tables.{Holds, met, tables, at_probe}
use Rattle.mm_world.proofs.Finding.{numbered_there, found_stands, committed_is, HomeCases, IsOwn, IsShared, home_cases}
use Rattle.mm_world.proofs.RowsFit.{each-set, each-at, each-append, each-replicate, length-change_range, reserved_fits, commit_fits}
use Rattle.mm_world.proofs.Regions.{flags_stay, flags_changed, no_flags, IsPlaced, placed_is}
use Rattle.mm_world.proofs.FlagRanges.{equal}
use Rattle.mm_world.proofs.Edits.{Terms, Edit, Edits, Regions, Nothing, Then, Moves, Rises, Falls, Charged, RegionComes, RegionChanges, Rest, AreaChanges, Edited, joined, is_call_success}
use Rattle.mm_world.proofs.Charges.{stays_charged, row_charge, page_charge, own_charged, view_charged, guard_charged}
use Rattle.mm_world.proofs.CallEdits.{leaves_same, success, by_limit, still_watched, by_same, by_refusal, by_region, then_stacks, in_alloc, in_free, in_watch, in_reset_watch, in_protect, in_query, in_flush, in_create, in_create_file, in_open, in_close, in_map, in_unmap, in_exit, in_new_process, in_new_file, in_take_fail, in_grow}
use Rattle.mm_types.specs.declared.answers.Answer.TheVariants as answer
use Rattle.mm_types.specs.declared.events.Event.TheVariants as line
use Rattle.mm_types.specs.declared.views.Kind.TheVariants as kind
use Rattle.mm_types.specs.declared.codes.Raise.TheVariants as raise

alarmed : (a : Answer) → is_alarm a ≡ true → (is_limit_refusal a ≡ false) × (is_told a ≡ false)
alarmed (answer.Raised raise.GuardPage) e = (refl, refl)
alarmed (answer.Raised raise.StackOverflow) e = (refl, refl)
alarmed _ e = cc

module _ {B : Type 0} where
  -- ---- what calls make of rows

  private_own : (w : WorldOf B) (i : ℕ) (row : RowOf B) (home : Home B) → HomeCases w i kind.Private row.own home → is_some row.own ≡ true
  private_own w i row home (IsOwn bytes own at_home) = ap is_some own
  private_own w i row home (IsShared v page is none there at_home) = cc

  guard_fits : (w : WorldOf B) (i : ℕ) (k : Kind) (row : RowOf B) (home : Home B) → HomeCases w i k row.own home → RowFits k row → RowFits k (record row { guard = false })
  guard_fits w i kind.Private row home cases h =
      record {
        unmarked = h.unmarked;
        reserved = λ n. let bad : true ≡ false = sym (private_own w i row home cases) ∙ ap is_some n in cc;
        committed = h.committed;
      }
  guard_fits w i (kind.View v) row home cases h = record { copied = h.copied; copy_view = h.copy_view; held = h.held }

  own_fits : (k : Kind) (row : RowOf B) (old new : B) → row.own ≡ Some old → RowFits k row → RowFits k (record row { own = Some new })
  own_fits kind.Private row old new own h =
      record { unmarked = h.unmarked; reserved = λ n. cc; committed = λ n. h.committed (ap is_some own) }
  own_fits (kind.View v) row old new own h =
      record {
        copied = λ n. h.copied (ap is_some own);
        copy_view = h.copy_view;
        held = subst (λ (o : Option B). is_one_of (held_protections v.access o row.marked) row.prot ≡ true → is_one_of (held_protections v.access (Some new) row.marked) row.prot ≡ true) (sym own) (same_held row.marked) h.held;
      }
    where
      same_held : (m : Bool) → is_one_of (held_protections v.access (Some old) m) row.prot ≡ true → is_one_of (held_protections v.access (Some new) m) row.prot ≡ true
      same_held true e = e
      same_held false e = e

  copy_fits : (k : Kind) (v : View) (row : RowOf B) (new : B) → k ≡ kind.View v → row.marked ≡ true → RowFits k (record row { own = Some new; prot = 0x04 })
  copy_fits k v row new is marked =
      subst (λ k. RowFits k (record row { own = Some new; prot = 0x04 })) (sym is)
      (record {
        copied = λ n. marked;
        copy_view = λ n. marked;
        held = subst (λ m. is_one_of (held_protections v.access (Some new) m) 0x04 ≡ true) (sym marked) refl;
      })

  -- ---- one row is changed

  module _ (t : Terms) (w : WorldOf B) (pid : ℕ) (p : ProcessOf B) (c : Committed B) (page : ℕ) (new : RowOf B) (lives : process_of w pid ≡ Some p) (committed : committed_at w p.regions page ≡ Some c) where
    row_changes : (b : RegionOf B) → b.base ≡ c.region.thing.base → b.kind ≡ c.region.thing.kind → b.rows ≡ set c.region.thing.rows (page - c.region.thing.base) new → (FlagsFit c.region.thing → FlagsFit b) → is_some b.watched ≡ is_some c.region.thing.watched → (t.plain ≡ true → b.watched ≡ c.region.thing.watched) → (RowFits c.region.thing.kind c.row → RowFits c.region.thing.kind new) → is_charged c.region.thing.kind new ≡ is_charged c.region.thing.kind c.row → Edit t w (set_region w pid p c.region.place b)
    row_changes b base kinds rows flags watched plain fit same =
        let h = committed_is w p.regions page c committed in
        let r = c.region.thing in
        let i = page - r.base in
        Regions pid p (set p.regions c.region.place b) lives (RegionChanges c.region.place r b (found_stands _ p.regions c.region h.region).there
        (record {
          base = base;
          kind = kinds;
          count = ap (λ (rows : List (RowOf B)). length rows) rows ∙ length-set r.rows i new;
          rows = λ old. subst (λ (k : Kind). Each (RowFits k) b.rows) (sym kinds) (subst (λ (rows : List (RowOf B)). Each (RowFits r.kind) rows) (sym rows) (each-set (RowFits r.kind) r.rows i new old (fit (each-at (RowFits r.kind) r.rows i c.row old h.row_there))));
          flags = flags;
          watched = watched;
          plain = plain;
          charged = stays_charged t.charge (region_charge r) (region_charge b)
              (ap (λ (k : Kind). count_by (is_charged k) b.rows) kinds ∙ ap (count_by (is_charged r.kind)) rows ∙ row_charge r i c.row new h.row_there same);
        }))

    pub by_row : (RowFits c.region.thing.kind c.row → RowFits c.region.thing.kind new) → is_charged c.region.thing.kind new ≡ is_charged c.region.thing.kind c.row → Edit t w (set_row w pid p c.region page new)
    by_row fit same =
        let r = c.region.thing in
        row_changes (with_row page new r) refl refl refl (flags_stay r (with_row page new r) refl (length-set r.rows (page - r.base) new) refl) refl (λ e. refl) fit same

    -- the same, and its page is marked
    by_marked : (b : Bool) → t.plain ≡ false → (RowFits c.region.thing.kind c.row → RowFits c.region.thing.kind new) → is_charged c.region.thing.kind new ≡ is_charged c.region.thing.kind c.row → Edit t w (set_region w pid p c.region.place (mark_written b (one_page page) (with_row page new c.region.thing)))
    by_marked b loose fit same =
        let r = c.region.thing in
        let mark = change_range (λ was. b) (page - r.base) 1 in
        row_changes (mark_written b (one_page page) (with_row page new r)) refl refl refl
        (λ fits. flags_changed mark (with_row page new r) (length-change_range (λ was. b) (page - r.base) 1) (flags_stay r (with_row page new r) refl (length-set r.rows (page - r.base) new) refl fits))
        (still_watched mark r.watched) (λ e. cc) fit same

  guard_edit : (t : Terms) (w : WorldOf B) (pid : ℕ) (p : ProcessOf B) (c : Committed B) (page : ℕ) → process_of w pid ≡ Some p → committed_at w p.regions page ≡ Some c → Edit t w (guard_off w pid p c page)
  guard_edit t w pid p c page lives committed =
      let r = c.region.thing in
      let h = committed_is w p.regions page c committed in
      by_row t w pid p c page (record c.row { guard = false }) lives committed (guard_fits w (page - r.base) r.kind c.row c.home (home_cases w (page - r.base) r.kind c.row.own c.home h.home_there)) (guard_charged r.kind c.row)

  pub guard_edits : (t : Terms) (w : WorldOf B) (pid : ℕ) (p : ProcessOf B) (c : Committed B) (page : ℕ) → process_of w pid ≡ Some p → committed_at w p.regions page ≡ Some c → Edits t w (guard_off w pid p c page)
  guard_edits t w pid p c page lives committed = Then w (guard_off w pid p c page) Nothing (guard_edit t w pid p c page lives committed)

  by_guard : (t : Answer → Terms) (w : WorldOf B) (pid : ℕ) (p : ProcessOf B) (c : Committed B) (page : ℕ) (a : Answer) → process_of w pid ≡ Some p → committed_at w p.regions page ≡ Some c → c.row.guard ≡ true → is_alarm a ≡ true → Holds (Edited t w) (done a (guard_off w pid p c page))
  by_guard t w pid p c page a lives committed on alarm =
      met (record {
        edits = guard_edits (t a) w pid p c page lives committed;
        leaves = record {
          alarm = λ e. record { pid = pid; page = page; process = p; row = c; lives = lives; committed = committed; was_on = on; now_off = refl };
          same = λ e f. (let bad : true ≡ false = sym alarm ∙ f in cc);
        };
        granted = λ e. (alarmed a alarm).0;
        untold = (alarmed a alarm).1;
      })

-- ---- accesses

abbrev pub is_write : Attempt → Bool
is_write (ReadOf len) = false
is_write (WriteOf bytes) = true
is_write Execute = false

pub in_section : (t : Terms) (w : World) (pid : ℕ) (p : ProcessOf Page) (c : Committed Page) (page offset : ℕ) (bytes : List ℕ) (v : View) (area i : ℕ) (old : Page) → process_of w pid ≡ Some p → committed_at w p.regions page ≡ Some c → c.region.thing.kind ≡ kind.View v → shared_page w area i ≡ Some old → Edits t w (write_to w pid p c page offset bytes (InSection area i))
in_section t w pid p c page offset bytes v area i old lives committed is there = copied c.row.marked refl
  where
    new : Page
    new = written (bytes_at_home w (InSection area i)) offset bytes

    copied : (b : Bool) → c.row.marked ≡ b → Edits t w (cond b (set_row w pid p c.region page (record c.row { own = Some new; prot = 0x04 })) (set_shared w area i new))
    copied true marked = Then w _ Nothing (by_row t w pid p c page (record c.row { own = Some new; prot = 0x04 }) lives committed (λ fits. copy_fits c.region.thing.kind v c.row new is marked) (view_charged c.region.thing.kind v c.row (record c.row { own = Some new; prot = 0x04 }) is refl))
    copied false marked = Then w (set_shared w area i new) Nothing (AreaChanges area (record (area_at w area) { pages = set (area_at w area).pages i (Some new) }) (length-set (area_at w area).pages i (Some new)) (stays_charged t.charge (area_charge (area_at w area)) _ (page_charge (area_at w area) i old new (numbered_there (area_at w area).pages i old there))))

in_home : (t : Terms) (loose : t.plain ≡ false) (w : World) (pid : ℕ) (p : ProcessOf Page) (c : Committed Page) (page offset : ℕ) (bytes : List ℕ) (i : ℕ) → process_of w pid ≡ Some p → committed_at w p.regions page ≡ Some c → HomeCases w i c.region.thing.kind c.row.own c.home → Edits t w (write_to w pid p c page offset bytes c.home)
in_home t loose w pid p c page offset bytes i lives committed (IsOwn old own at_home) =
    subst (λ home. Edits t w (write_to w pid p c page offset bytes home)) (sym at_home)
    (Then w _ Nothing (by_marked t w pid p c page (record c.row { own = Some (written old offset bytes) }) lives committed true loose (own_fits c.region.thing.kind c.row old (written old offset bytes) own) (own_charged c.region.thing.kind c.row (record c.row { own = Some (written old offset bytes) }) old own refl refl)))
in_home t loose w pid p c page offset bytes i lives committed (IsShared v old is none there at_home) =
    subst (λ home. Edits t w (write_to w pid p c page offset bytes home)) (sym at_home) (in_section t w pid p c page offset bytes v _ _ old lives committed is there)

module _ (t : Answer → Terms) where
  in_perform : (w : World) (pid : ℕ) (p : ProcessOf Page) (c : Committed Page) (page offset : ℕ) (what : Attempt) → (is_write what ≡ true → (t answer.Ok).plain ≡ false) → process_of w pid ≡ Some p → committed_at w p.regions page ≡ Some c → Holds (Edited t w) (perform w pid p c page offset what)
  in_perform w pid p c page offset (WriteOf bytes) loose lives committed =
      success t w _ answer.Ok refl (in_home (t answer.Ok) (loose refl) w pid p c page offset bytes _ lives committed (home_cases w (page - c.region.thing.base) c.region.thing.kind c.row.own c.home (committed_is w p.regions page c committed).home_there))
  in_perform w pid p c page offset _ loose lives committed = by_same t w _ refl refl refl

  in_access_at : (w : World) (pid : ℕ) (p : ProcessOf Page) (page offset : ℕ) (what : Attempt) (c : Option (Committed Page)) → (is_write what ≡ true → (t answer.Ok).plain ≡ false) → process_of w pid ≡ Some p → committed_at w p.regions page ≡ c → Holds (Edited t w) (access_at w pid p page offset what c)
  in_access_at w pid p page offset what None loose lives committed = by_same t w _ refl refl refl
  in_access_at w pid p page offset what (Some c) loose lives committed = search (tables, by_same, by_guard, in_perform) depth 12

  pub in_access : (w : World) (pid addr : ℕ) (what : Attempt) → (is_write what ≡ true → (t answer.Ok).plain ≡ false) → Holds (Edited t w) (access w pid addr what)
  in_access w pid addr what loose = search (tables, by_refusal, in_access_at) depth 12

  pub in_begin : (w : World) (tid pid : ℕ) (what : AccessSpec) → (t answer.Ok).plain ≡ false → Holds (Edited t w) (begin w tid pid what)
  in_begin w tid pid what loose = search (tables, by_refusal, by_same, accesses) depth 12
    where
      accesses : Holds (Edited t w) (access w pid (address_in what) (attempt_in what))
      accesses = in_access w pid (address_in what) (attempt_in what) (λ e. loose)

keep_edit : {B : Type 0} (t : Terms) (v : WorldOf B) (tid : ℕ) (kept : Option KeptOf) → t.kept ≡ false → Edit t v (keep v tid kept)
keep_edit t v tid kept loose =
    Rest (keep v tid kept) (record { processes = refl; sections = refl; areas = refl; files = refl; threads = length-set v.kept tid kept; fails = λ n. n; blocks = λ n. n; slots = λ n. n; kept = λ e. cc; stacks = λ e. refl; limit = omega arith })

in_store_line : (t : Answer → Terms) (w : World) (pid : ℕ) → Holds (Edited t w) (store_line w pid)
in_store_line t w pid = search (tables, by_refusal, by_same) depth 12

-- ---- stacks

on_of : (b c : Bool) → (b && c) ≡ true → b ≡ true
on_of true c e = refl
on_of false c e = cc

module _ {B : Type 0} (fill : ℕ → B) where
  pub stack_rows : (base r c : ℕ) → RowsFit (stack_region fill base r c)
  stack_rows base r c =
      each-append PrivateRowFits (replicate (r - (c + 1)) reserved_row) (commit (fill 0) 0x104 reserved_row ∷ replicate c (commit (fill 0) 0x04 reserved_row))
      (each-replicate PrivateRowFits (r - (c + 1)) reserved_row reserved_fits)
      (commit_fits (fill 0) 0x104 reserved_row refl, each-replicate PrivateRowFits c (commit (fill 0) 0x04 reserved_row) (commit_fits (fill 0) 0x04 reserved_row refl))

  pub stack_length : (base r c : ℕ) → c + 2 ≤ r → length (stack_region fill base r c).rows ≡ r
  stack_length base r c fits =
      let bottom : List (RowOf B) = replicate (r - (c + 1)) reserved_row in
      let top : List (RowOf B) = replicate c (commit (fill 0) 0x04 reserved_row) in
      let below : length bottom ≡ r - (c + 1) = length-replicate (r - (c + 1)) _ in
      let above : length top ≡ c = length-replicate c _ in
      omega (arith, length-append bottom (commit (fill 0) 0x104 reserved_row ∷ top), below, above, fits)

  module _ (t : Answer → Terms) (loose : (a : Answer) → (t a).stacks ≡ false) (rises : (a : Answer) (old new : ℕ) → Charged (t a).charge old new) where
    pub by_stack : (w : WorldOf B) (tid pid : ℕ) (p : ProcessOf B) (s : StackOf) (r c base : ℕ) (a : Answer) → is_call_success a ≡ true → process_of w pid ≡ Some p → nat_le (c + 2) r ≡ true → lowest_gap (ranges_of p.regions) r ≡ Some base → Holds (Edited t w) (done a (set_stack (set_regions w pid p (add_region (stack_region fill base r c) p.regions)) tid s))
    by_stack w tid pid p s r c base a ok lives fits found =
        let range : Range = record { first = base; count = r } in
        let at = placed_is (ranges_of p.regions) 0 (record { first = 0; count = r }) r range refl (ap (λ g. option_map (λ first. let range : Range = record { first = first; count = r } in range) g) found) in
        let enough = leb-true (c + 2) r fits in
        let new = stack_region fill base r c in
        let count : length new.rows ≡ r = stack_length base r c enough in
        then_stacks t w _ _ a ok (λ e. let bad : false ≡ true = sym (loose a) ∙ e in cc) (by_region t w pid p (add_region new p.regions) a ok lives (RegionComes new
        (record {
          placed = subst (λ range. IsPlaced (ranges_of p.regions) range) (λ i. record { first = base; count = sym count i }) at.placed;
          some = omega (arith, count, enough);
          flags = no_flags new refl;
          rows = stack_rows base r c;
          refers = λ v is. cc;
          plain = λ e. refl;
          charged = rises a 0 (region_charge new);
        })))

    in_made : (w : WorldOf B) (tid pid : ℕ) (p : ProcessOf B) (r c : ℕ) → process_of w pid ≡ Some p → Holds (Edited t w) (made fill w tid pid p r c)
    in_made w tid pid p r c lives = search (tables, by_refusal, by_limit, by_stack) depth 12

    pub in_stack : (w : WorldOf B) (tid pid reserve commit : ℕ) → Holds (Edited t w) (stack fill w tid pid reserve commit)
    in_stack w tid pid reserve commit = search (tables, by_refusal, by_same, in_made) depth 12

    -- the page below is committed, once the guard of this one is off
    pub in_grown : (w : WorldOf B) (tid : ℕ) (s : StackOf) (p : ProcessOf B) (c : Committed B) (page : ℕ) → process_of w s.pid ≡ Some p → committed_at w p.regions page ≡ Some c → Holds (Edited t w) (grown fill (guard_off w s.pid p c page) tid s)
    in_grown w tid s p c page lives committed =
        let next = address_of (s.guard_page - 1) in
        let v = guard_off w s.pid p c page in
        let a = answer.At next in
        let u = (alloc fill v s.pid next 1 commit_type 0x104).world in
        let more = in_alloc (λ b. t a) fill v s.pid next 1 commit_type 0x104 (λ b e. refl) (λ b. rises a) in
        then_stacks t w u _ a refl (λ e. let bad : false ≡ true = sym (loose a) ∙ e in cc) (success t w u a refl (joined (t a) w v u (guard_edits (t a) w s.pid p c page lives committed) more.it.edits))

    pub in_probe : (w : WorldOf B) (tid addr : ℕ) → Holds (Edited t w) (probe fill w tid addr)
    in_probe w tid addr = at_probe fill w tid addr (by_same t w _ refl refl refl) (by_same t w _ refl refl refl) (λ s p c has lives committed. search (tables, by_same, by_guard, in_grown, on_of) depth 14)

-- ---- lines

-- a line that changes no page's flag
abbrev pub is_plain : Event → Bool
is_plain (line.Alloc pid addr size type prot) = false
is_plain (line.Write pid addr bytes) = false
is_plain (line.Begin tid pid what) = false
is_plain (line.Resume tid) = false
is_plain (line.Watch pid unwrites addr size count) = false
is_plain (line.ResetWatch pid addr size) = false
is_plain _ = true

-- a line after which threads keep what they kept; and their stacks
abbrev pub keeps_accesses : Event → Bool
keeps_accesses (line.Exit pid) = false
keeps_accesses (line.Begin tid pid what) = false
keeps_accesses (line.Resume tid) = false
keeps_accesses _ = true

abbrev pub keeps_stacks : Event → Bool
keeps_stacks (line.Free pid addr size type) = false
keeps_stacks (line.Exit pid) = false
keeps_stacks (line.Stack tid pid reserve commit) = false
keeps_stacks (line.Probe tid addr) = false
keeps_stacks _ = true

-- the lines that the limit is tested in
abbrev pub line_charge : Event → Moves
line_charge (line.Alloc pid addr size type prot) = Rises
line_charge (line.Protect pid addr size prot) = Rises
line_charge (line.Create pid size flags name) = Rises
line_charge (line.Map pid handle access offset len addr) = Rises
line_charge (line.Stack tid pid reserve commit) = Rises
line_charge (line.Probe tid addr) = Rises
line_charge _ = Falls

-- what a line's edits may do: a private region goes where the line ends it
abbrev pub line_terms : Event → Answer → Terms
line_terms e a = record { ends = line_ends e a; plain = is_plain e; kept = keeps_accesses e; stacks = keeps_stacks e; charge = line_charge e }

released : (pid addr type : ℕ) → (type == release_type) ≡ true → (x : PagesOf) → x.pid ≡ pid → address_of x.range.first ≡ addr → ((type == release_type) && is_released_by pid addr x) ≡ true
released pid addr type is x here at = all_three (type == release_type) (x.pid == pid) (address_of x.range.first == addr) is (equal x.pid pid here) (equal (address_of x.range.first) addr at)

pub record LineEdited (e : Event) (w : World) (o : OutcomeOf Page) : Type 0 where
  pub edits : Edits (line_terms e o.answer) w o.world
  pub leaves : LineLeaves w e o
  pub granted : line_charge e ≡ Falls → is_limit_refusal o.answer ≡ false

-- where address spaces decide it, no store tells the answer
pub record LineDecided (e : Event) (w : World) (o : OutcomeOf Page) : Type 0 where
  pub edited : LineEdited e w o
  pub untold : is_told o.answer ≡ false

by_leaves : (w : World) (e : Event) (o : OutcomeOf Page) → Edits (line_terms e o.answer) w o.world → Leaves w o → (line_charge e ≡ Falls → is_limit_refusal o.answer ≡ false) → LineEdited e w o
by_leaves w e o es leaves granted = record { edits = es; leaves = record { but_kept = o.world; leaves = leaves; all_else = refl; other_lines = λ e. refl }; granted = granted }

by_call : (w : World) (e : Event) (o : OutcomeOf Page) → Holds (Edited (line_terms e) w) o → LineDecided e w o
by_call w e o h = record { edited = by_leaves w e o h.it.edits h.it.leaves h.it.granted; untold = h.it.untold }

by_answer : (w : World) (e : Event) (a : Answer) → is_alarm a ≡ false → is_limit_refusal a ≡ false → is_told a ≡ false → LineDecided e w (done a w)
by_answer w e a quiet granted untold = by_call w e (done a w) (by_same (line_terms e) w a quiet granted untold)

-- what a thread keeps changes as well
then_keeps : (w v : World) (e : Event) (tid : ℕ) (kept : Option KeptOf) (a : Answer) → is_thread_line e ≡ true → keeps_accesses e ≡ false → Edits (line_terms e a) w v → Leaves w (done a v) → (line_charge e ≡ Falls → is_limit_refusal a ≡ false) → LineEdited e w (done a (keep v tid kept))
then_keeps w v e tid kept a is loose es leaves granted =
    record {
      edits = Then v (keep v tid kept) es (keep_edit (line_terms e a) v tid kept loose);
      leaves = record { but_kept = v; leaves = leaves; all_else = refl; other_lines = λ n. (let bad : true ≡ false = sym is ∙ n in cc) };
      granted = granted;
    }

in_resume : (w : World) (tid : Tid) (kept : Option KeptOf) → LineDecided (line.Resume tid) w (resume w tid.0 kept)
in_resume w tid None = by_answer w _ _ refl refl refl
in_resume w tid (Some k) =
    let o = access w k.pid (address_in k.access) (attempt_in k.access) in
    let h = in_access (line_terms (line.Resume tid)) w k.pid (address_in k.access) (attempt_in k.access) (λ e. refl) in
    record { edited = then_keeps w o.world _ tid.0 None o.answer refl refl h.it.edits h.it.leaves h.it.granted; untold = h.it.untold }

pub in_unpaged : (w : World) (e : Event) → LineDecided e w (unpaged w e)
in_unpaged w (line.Process min max) = by_call w _ _ (in_new_process _ w)
in_unpaged w (line.Exit pid) = by_call w _ _ (in_exit _ w pid.0 refl refl (λ x here. equal x.pid pid.0 here) (λ n m h. h))
in_unpaged w (line.File name pages byte) = by_call w _ _ (in_new_file _ filled w name pages byte)
in_unpaged w (line.Alloc pid addr size type prot) = by_call w _ _ (in_alloc _ filled w pid.0 addr size type prot (λ a e. cc) (λ a n m. tt))
in_unpaged w (line.Free pid addr size type) = by_call w _ _ (in_free _ w pid.0 addr size type refl (released pid.0 addr type) (λ n m h. h))
in_unpaged w (line.Protect pid addr size prot) = by_call w _ _ (in_protect _ w pid.0 addr size prot (λ a n m. tt))
in_unpaged w (line.Query pid addr) = by_call w _ _ (in_query _ w pid.0 addr)
in_unpaged w (line.Create pid size flags name) = by_call w _ _ (in_create _ filled w pid.0 size flags name (λ a n m. tt))
in_unpaged w (line.CreateFile pid file flags name) = by_call w _ _ (in_create_file _ w pid.0 file flags name)
in_unpaged w (line.Open pid name) = by_call w _ _ (in_open _ w pid.0 name)
in_unpaged w (line.Close pid handle) = by_call w _ _ (in_close _ w pid.0 handle (λ n m h. h))
in_unpaged w (line.Map pid handle access offset len addr) = by_call w _ _ (in_map _ w pid.0 handle access offset len addr (λ a n m. tt))
in_unpaged w (line.Unmap pid addr) = by_call w _ _ (in_unmap _ w pid.0 addr (λ n m h. h))
in_unpaged w (line.Flush pid addr size) = by_call w _ _ (in_flush _ w pid.0 addr size)
in_unpaged w (line.Read pid addr len) = by_call w _ _ (in_access _ w pid.0 addr (ReadOf len) (λ e. cc))
in_unpaged w (line.Write pid addr bytes) = by_call w _ _ (in_access _ w pid.0 addr (WriteOf bytes) (λ e. refl))
in_unpaged w (line.Exec pid addr) = by_call w _ _ (in_access _ w pid.0 addr Execute (λ e. cc))
in_unpaged w (line.Begin tid pid what) = by_call w _ _ (in_begin _ w tid.0 pid.0 what refl)
in_unpaged w (line.Resume tid) = in_resume w tid (kept_by w tid.0)
in_unpaged w (line.Trim pid n) = by_call w _ _ (in_store_line _ w pid.0)
in_unpaged w (line.Age pid) = by_call w _ _ (in_store_line _ w pid.0)
in_unpaged w (line.Fail device direction k n) = by_call w _ _ (in_take_fail _ w)
in_unpaged w (line.Grow n) = by_call w _ _ (in_grow _ w n)
in_unpaged w (line.Watch pid unwrites addr size count) = by_call w _ _ (in_watch _ w pid.0 unwrites addr size count (λ a. refl))
in_unpaged w (line.ResetWatch pid addr size) = by_call w _ _ (in_reset_watch _ w pid.0 addr size (λ a. refl))
in_unpaged w (line.Stack tid pid reserve commit) = by_call w _ _ (in_stack filled _ (λ a. refl) (λ a n m. tt) w tid.0 pid.0 reserve commit)
in_unpaged w (line.Probe tid addr) = by_call w _ _ (in_probe filled _ (λ a. refl) (λ a n m. tt) w tid.0 addr)
in_unpaged w _ = by_answer w _ _ refl refl refl

in_told : (w : World) (e : Event) (a : Answer) → is_alarm a ≡ false → is_limit_refusal a ≡ false → LineEdited e w (done a (world_told w e a))
in_told w (line.Begin tid pid what) (answer.Pending why) quiet granted = then_keeps w w _ tid.0 _ _ refl refl Nothing (leaves_same w _ refl) (λ e. refl)
in_told w (line.Resume tid) (answer.Raised status) quiet granted = then_keeps w w _ tid.0 _ _ refl refl Nothing (leaves_same w _ quiet) (λ e. refl)
in_told w e a quiet granted = by_leaves w e (done a w) Nothing (leaves_same w a quiet) (λ f. granted)

pub in_step : (w : World) (e : Event) (before after : Report) → LineEdited e w (step w e before after)
in_step w e before after = decided (λ e. LineEdited e w) w e before after (in_unpaged w e).edited (λ a h. in_told w e a h.calm h.granted)

-- ---- but for an alarm's guard and for what a thread keeps, an answer other than `ok` changes nothing

pub step_leaves : (w : World) (e : Event) (before after : Report) → LineLeaves w e (step w e before after)
step_leaves w e before after = (in_step w e before after).leaves
