-- What a state keeps at all times, as a law on its values.
use Rattle.std.proofs.Common.{◌≡◌, ◌≤◌, ℕ, Bool, true, false, List, length, Option, Some, None, refl, sym, ap, ◌∙◌, arith}
use Rattle.std.specs.Prelude.{is_some, nat_lt, if◌then◌else◌, option_map, unwrap_or, slice_get}
use Rattle.std.specs.Option.{option_and_then}
use Rattle.std.specs.FinMap as finite
use Rattle.std.proofs.lemmas.Bool.{lt-ltb}
use Rattle.mm_types.proofs.Booleans.{not_true}
use Rattle.mm_types.proofs.Cells.{get_within}
use Rattle.mm_types.specs.{Key, Place}
use Rattle.mm_types.specs.declared.numbers.Key.TheVariants.{Private, Shared}
use Rattle.mm_devices.specs.declared.Inject.{Ghosts as DeviceGhosts}
use Rattle.mm_log_writer.specs.{Ghosts as MovesGhosts}
use Rattle.mm_move_rules.specs.{record_at, is_read, same_place, ForFrame}
use Rattle.mm_move_laws.proofs.PlaceCounts.{same_place-true}
use Rattle.mm_requests.specs.{is_requested, Waiting}
use Rattle.mm_requests.specs.declared.flights.Waiting.TheVariants as waiting
use Rattle.mm_page_tables.specs.{Aside, Process, entry_or, bound_of, at_of, process_in, read_or, bound_in, at_in, AsideBound, bare, is_there, has_word}
use Rattle.mm_page_tables.specs.{key_entry, aside_or}
use Rattle.mm_page_tables.specs.declared.layout.Entry.TheVariants as entry
use Rattle.mm_page_tables.specs.declared.tables.Words.{Words}
use Rattle.mm_page_tables.specs.Shown as tables
use Rattle.mm_page_tables.proofs.SetLaws.{young, bound_open, begun, within}
use Rattle.mm_parts.specs.{PagesHold, StorageHolds, PartsKept, walked_or, waits_of, JoinedParts, own_is, Parts}
use Rattle.mm_parts.specs.PartsShown as parts_of
use Rattle.mm_parts.proofs.Holding.{pages_hold, storage_holds, read_once}
use Rattle.mm_parts.proofs.RequestLists.{own_apart}
use Rattle.mm_state_calls.specs.{StateHolds}
use Rattle.mm_state.specs.declared.states.State.{State}
use Rattle.mm_state.specs.StateShown.{shown_state}
use Rattle.mm_state.specs.Storing.{stored_bytes}

-- ---- waits and ages

for_frame : (o : Option Waiting) (f : ℕ) → walked_or o ≡ ForFrame f →
    o ≡ Some (waiting.For (record { 0 = f }))
for_frame None f e = cc
for_frame (Some waiting.Nothing) f e = cc
for_frame (Some (waiting.For g)) f e =
    let same : g.0 ≡ f = cc in
    ap (λ (x : ℕ). Some (waiting.For (record { 0 = x }))) same
for_frame (Some waiting.Done) f e = cc
for_frame (Some waiting.Failed) f e = cc

waited_frame : (ws : List Waiting) (t f : ℕ) → waits_of ws t ≡ ForFrame f →
    slice_get ws t ≡ Some (waiting.For (record { 0 = f }))
waited_frame ws t f e = for_frame (slice_get ws t) f e

-- an age of at most 7, or none
young_or : (o : Option ℕ) → ((age : ℕ) → o ≡ Some age → age ≤ 7) → unwrap_or o 0 ≤ 7
young_or None young = omega arith
young_or (Some n) young = young n refl

-- ---- words

has_entry : (o : Option ℕ) → is_there (bare (entry_or o)) ≡ true → is_some o ≡ true
has_entry None h = cc
has_entry (Some word) h = refl

bound_in_table : (o : Option Process) (v : ℕ) →
    is_there (read_or (λ p. at_of p v) entry.Empty o) ≡ true →
    read_or (λ p. bound_of p v) false o ≡ true
bound_in_table None v h = cc
bound_in_table (Some p) v h = has_entry (finite.get p.table v) h

-- a place that has an entry is bound
place_bound : (ps : List Process) (x : Place) → is_there (at_in ps x) ≡ true → bound_in ps x ≡ true
place_bound ps x h = bound_in_table (process_in ps x.pid.0) x.vpn.0 h

own_bound : (ps : List Process) (o : Option Aside) (x : Place) → AsideBound ps o →
    is_there (aside_or (tables.bare_aside o) x (at_in ps x)) ≡ true → bound_in ps x ≡ true
own_bound ps None x kept h = place_bound ps x h
own_bound ps (Some a) x kept h = by (same_place x a.place) refl h
  where
    by : (b : Bool) → same_place x a.place ≡ b →
        is_there (if b then bare a.entry else at_in ps x) ≡ true → bound_in ps x ≡ true
    by true e t = ap (bound_in ps) (same_place-true x a.place e) ∙ kept a refl
    by false e t = place_bound ps x t

-- an index that has an entry is one of its area
in_area : (o : Option (List ℕ)) (i : ℕ) →
    is_there (bare (entry_or (option_and_then (λ words. slice_get words i) o))) ≡ true →
    unwrap_or (option_map (λ n. nat_lt i n) (option_map length o)) false ≡ true
in_area None i h = cc
in_area (Some words) i h = by (slice_get words i) refl (has_entry (slice_get words i) h)
  where
    by : (o : Option ℕ) → slice_get words i ≡ o → is_some o ≡ true → nat_lt i (length words) ≡ true
    by None e some = cc
    by (Some word) e some = lt-ltb i (length words) (get_within words i word e)

word_there : (w : Words) (k : Key) → is_there (key_entry (tables.words w) k) ≡ true →
    has_word (tables.words w) k ≡ true
word_there w (Private p v) h =
    own_bound w.processes.items w.aside (record { pid = p; vpn = v }) w.kept h
word_there w (Shared a i) h = in_area (finite.get w.protos a.0) i h

-- ---- parts

parts_pages : (t : Parts) → PagesHold (parts_of.shown_parts t)
parts_pages t =
    let ps = t.words.processes.items in
    pages_hold (parts_of.joined_parts t) t.kept (word_there t.words) (place_bound ps)
    (bound_open ps)
    (begun ps) (within ps)

parts_storage : (t : Parts) → StorageHolds (parts_of.shown_parts t)
parts_storage t = storage_holds (parts_of.joined_parts t) t.kept

-- a request in flight is not the line's own
not_own : (t : JoinedParts) → PartsKept t → (f : ℕ) → is_requested f t.flight.frames ≡ true →
    is_read (record_at t.table f).request ≡ true → own_is t.own f ≡ false
not_own t kept f flies reads = not_true (own_is t.own f) (λ e.
    let once = read_once t kept f reads in
    let bad : true ≡ false = sym flies ∙ own_apart f t.own t.flight.frames once e in
    cc)

some_place : (a : Option Aside) → is_some (option_map (λ (x : Aside). x.place) a) ≡ true →
    is_some a ≡ true
some_place None h = cc
some_place (Some x) h = refl

-- ---- states

module _ {P F M : Type 0} {p : DeviceGhosts P} {f : DeviceGhosts F} {m : MovesGhosts M} where
  pub state_holds : (s : State P F M p f m) → StateHolds (shown_state s)
  state_holds s =
      let t = parts_of.joined_parts s.parts in
      let u = parts_of.shown_parts s.parts in
      let kept : PartsKept t = s.parts.kept in
      let b = parts_pages s.parts in
      let d = parts_storage s.parts in
      record {
        young = λ q. young_or (parts_of.parts_ages s.parts q)
            (young s.parts.words.processes.items q);
        reached = kept.reached;
        machine = kept.line.machine;
        begun = kept.line.begun;
        own_line = kept.within.requesting;
        copying = λ h. kept.within.copying (some_place t.words.aside h);
        awaited = λ n x e. (kept.waits n (record { 0 = x }) (waited_frame u.waits n x e)).1;
        others_wait = λ n x e.
            let h = kept.waits n (record { 0 = x }) (waited_frame u.waits n x e) in
            not_own t kept x h.0 h.1;
        live = λ k. sym (s.located.live k);
        home = b.home;
        owner = b.owner;
        of_frame = λ k x e. b.of_frame k x e;
        there = b.there;
        bound = b.bound;
        named = b.named;
        owned = b.owned;
        fits = b.fits;
        low = b.low;
        shared = b.shared;
        unread = b.unread;
        unnamed = b.unnamed;
        user = b.user;
        open_process = b.open_process;
        sets = b.sets;
        reading = d.reading;
        writing = λ x e. (d.writing x e).0;
        homes = d.home;
        backings = d.backing;
        blocks_apart = d.blocks_apart;
        block_there = d.block_there;
        slots = s.located.room;
        blocks = s.located.file_room;
        stored = stored_bytes u.life kept.reached u.bytes _ _ s.located;
        search = s.tallied.search;
        read = s.tallied.read;
      }
