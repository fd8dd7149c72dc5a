-- The moves that change one frame's record and no word (clear, soil, got, write, wrote, lost), and those that change the word of a key too.
use Rattle.std.proofs.Common.{◌≡◌, ℕ, ◌<◌, Bool, true, false, List, [], ◌∷◌, ◌++◌, Option, Some, None, refl, sym, ap, ◌∙◌, arith, length}
use Rattle.std.specs.Prelude.{◌==◌, ◌&&◌, ◌||◌, not, is_some, nat_lt, map, if◌then◌else◌, slice_set, slice_get}
use Rattle.std.proofs.lemmas.Bool.{and_parts, or_left, or_right, not-true, ltb-true}
use Rattle.mm_types.specs.{Frame, Block, Record, Backing, Move, Stored, Key, Place}
use Rattle.mm_move_rules.specs.{FrameLife, FrameTable, blank, record_at, has_request, is_read, is_write, is_again, slot_of, without, without_slot, soiled}
use Rattle.mm_move_rules.specs.{read_done, write_done, write_lost, being_written, slot_after_soil, slot_after_read, slot_after_wrote, slot_after_lost}
use Rattle.mm_move_rules.specs.{after_clear, after_soil, after_got, after_write, after_wrote, after_lost, IsLegal, is_touch, is_io, is_access, is_call}
use Rattle.mm_move_rules.specs.{is_block, after_move, freed, is_first, is_empty, given, being_read, after_give, after_read, after_steal, after_bad, changed}
use Rattle.mm_move_rules.specs.{same_key, is_thread, is_zero, is_stored, has_depth, backing_of, homed}
use Rattle.mm_move_laws.specs.{one_if, times, is_backed, Sight}
use Rattle.mm_move_laws.proofs.{read_has, write_has, kept_inside, changes_give, first_zeroed, Standby, first_standby, Fresh, fresh_read}
use Rattle.mm_pfn_database.specs.{FramesOf, has_block, slot_after_write, write_ended, read_ended}
use Rattle.mm_requests.specs.{ended}
use Rattle.mm_parts.specs.{JoinedParts, life_in, shown_of, requests_in, own_is, is_own_line, PartsKept, parts_after, own_after, own_ended}
use Rattle.mm_parts.specs.{flight_begun, flight_ended, write_end, slots_to, owners, owned_by, held_by, stands_of, names_of, is_of_paging_file, life_of}
use Rattle.mm_parts.specs.{requests, is_aside_entry, names_after_give, home_entry, words_sent, CanSend, end_of_read, PartsOf}
use Rattle.mm_frame_laws.specs.{backing_to}
use Rattle.mm_frame_laws.proofs.{records_ended}
use Rattle.mm_parts.proofs.Stands.{Rewrites, rewrites_by, rewrites_none, waits_frame, Quiet, quiet_by}
use Rattle.mm_parts.proofs.Keeping.{Step, known, quiet_step, waits_shown, step_to}
use Rattle.mm_parts.proofs.RequestLists.{ended_requests, ended_waits, ended_depth, ended_within, waits_ended, unread_waits, begun_requests}
use Rattle.mm_parts.proofs.RequestLists.{begun_within, begun_depth, begun_waits, waits_begun}
use Rattle.mm_parts.proofs.Conditions.{CanWrite, write_can, home_can}
use Rattle.mm_move_rules.proofs.{write_not_read, soiled_part, done_part, records_taken}
use Rattle.mm_types.specs.declared.numbers.Key.TheVariants.{Private, Shared}
use Rattle.mm_page_tables.specs.{WordsOf, key_entry, with_entry, is_there, has_word, is_valid_entry}
use Rattle.mm_parts.proofs.Stands.{is_used, names_moved, names_used}
use Rattle.mm_parts.proofs.KeyChanges.{Rewords, is_beside, rests, key_step, key_life}
use Rattle.mm_parts.proofs.Reading.{resting_word, zero_word, stored_word, away_calm, home_held, home_paging, home_lands, home_resting, home_used}
use Rattle.mm_parts.proofs.Reading.{home_aside, stored_paging, own_backing, stored_used}
use Rattle.mm_types.specs.declared.frames.Backing.TheVariants as backing
use Rattle.mm_types.specs.declared.moves.Move.TheVariants as move
use Rattle.mm_types.specs.declared.moves.Stored.TheVariants as stored
use Rattle.mm_types.specs.declared.frames.Held.TheVariants as held
use Rattle.mm_page_tables.specs.declared.layout.Entry.TheVariants as entry

-- ---- clear

pub clear_step : (t : JoinedParts) → PartsKept t → (f : Frame) (bytes' : List (Option (List ℕ))) → IsLegal (move.Clear f) (life_in t)
    → Step (record t { table = after_clear t.table f.0; bytes = bytes' }) (record (parts_after (shown_of t) (move.Clear f)) { bytes = bytes' })
clear_step t kept f bytes' legal =
    quiet_step t kept (move.Clear f) legal (after_clear t.table f.0) bytes' t.free t.flight t.own f.0 (record_at t.table f.0)
    (rewrites_none t.table (after_clear t.table f.0) f.0 refl) (record { owner = refl; shares = refl; blocks = λ k e. refl }) refl kept.waits refl kept.within.requesting

-- ---- soil

pub block_without : (b : Backing) → has_block (without_slot b) ≡ has_block b
block_without (backing.Slot s) = refl
block_without _ = refl

pub soil_step : (t : JoinedParts) → PartsKept t → (f : Frame) → IsLegal (move.Soil f) (life_in t)
    → Step (record t { table = after_soil t.table f.0; free = freed t.free (slot_after_soil (record_at t.table f.0)) }) (parts_after (shown_of t) (move.Soil f))
soil_step t kept f legal =
    let facts = known t kept in
    let r = record_at t.table f.0 in
    let could = (not r.changed && not (has_request r.request)) || (is_write r.request && not (is_again r.request)) in
    let some = (and_parts (nat_lt 0 r.shares) could (and_parts (nat_lt 0 r.shares && could) (is_touch t.line.kind) legal).0).0 in
    let low = kept_inside t.table f.0 (or_left (is_some r.owner) (has_request r.request) ((facts.standing f.0).fit.shown some)) in
    let change = rewrites_by t.table (after_soil t.table f.0) f.0 (soiled r) low refl in
    quiet_step t kept (move.Soil f) legal (after_soil t.table f.0) t.bytes (freed t.free (slot_after_soil r)) t.flight t.own f.0 (soiled r) change
    (record {
      owner = soiled_part (λ (x : Record). x.owner) r refl refl;
      shares = soiled_part (λ (x : Record). x.shares) r refl refl;
      blocks = λ k e. soiled_part (λ (x : Record). has_block x.backing) r refl (block_without r.backing);
    })
    refl
    (waits_frame t.table (after_soil t.table f.0) f.0 (soiled r) t.flight change (λ read.
    let none = ((facts.standing f.0).fit.reading read).0 in
    let more = ltb-true 0 r.shares some in absurd (omega (arith, none, more))) kept.waits)
    refl kept.within.requesting

-- ---- the end of a request

-- the frame that a request holds
pub record Holding (t : JoinedParts) (f : ℕ) : Type 0 where
  pub low : f < length t.table.records
  pub once : times f (requests_in t) ≡ 1

pub held_by_request : (t : JoinedParts) → PartsKept t → (f : ℕ) → has_request (record_at t.table f).request ≡ true → Holding t f
held_by_request t kept f busy = record {
  low = kept_inside t.table f (or_right (is_some (record_at t.table f).owner) (has_request (record_at t.table f).request) busy);
  once = ((known t kept).standing f).flight ∙ ap one_if busy;
}

module _ (t : JoinedParts) (kept : PartsKept t) (x : Move) (legal : IsLegal x (life_in t)) (d' : FrameTable) (bytes' : List (Option (List ℕ))) (free' : List Bool) (f : ℕ) (r : Record) (ok : Bool)
    (busy : has_request (record_at t.table f).request ≡ true) (records : d'.records ≡ slice_set t.table.records f r) (quiet : Quiet t.table f r)
    (moves : record (life_in t) { frames = d'; free_slots = free'; flight = without f (requests_in t) } ≡ after_move (life_in t) x) where
  change_ended : Rewrites t.table d' f r
  change_ended = rewrites_by t.table d' f r (held_by_request t kept f busy).low records

  pub end_step : Step (record t { table = d'; bytes = bytes'; free = free'; flight = flight_ended (own_is t.own f) t.flight f ok; own = own_ended t.own f })
      (record (parts_after (shown_of t) x) { bytes = bytes'; waits = map (ended f ok) t.flight.waits; own = own_ended t.own f })
  end_step =
      let once = (held_by_request t kept f busy).once in
      let flight' = flight_ended (own_is t.own f) t.flight f ok in
      waits_shown _ (record (parts_after (shown_of t) x) { bytes = bytes'; own = own_ended t.own f })
      (quiet_step t kept x legal d' bytes' free' flight' (own_ended t.own f) f r change_ended quiet
      (ap (λ q. record (life_in t) { frames = d'; free_slots = free'; flight = q }) (ended_requests t.flight t.own f ok once) ∙ moves)
      (waits_ended t.table d' t.flight t.own f r ok change_ended kept.waits once)
      (ended_depth (own_is t.own f) t.flight f ok)
      (λ h. kept.within.requesting (ended_within t.own f h)))
      (ended_waits t.table t.flight t.own f ok kept.waits once)

abbrev pub table_end : Bool → FrameTable → ℕ → FrameTable
table_end true d f = after_wrote d f
table_end false d f = after_lost d f

write_ends : (t : JoinedParts) → PartsKept t → (f : Frame) (ok : Bool) → IsLegal (write_end ok f) (life_in t)
    → Step (record t { table = table_end ok t.table f.0; free = freed t.free (slot_after_write ok (record_at t.table f.0)); flight = flight_ended (own_is t.own f.0) t.flight f.0 ok; own = own_ended t.own f.0 })
    (record (parts_after (shown_of t) (write_end ok f)) { waits = map (ended f.0 ok) t.flight.waits; own = own_ended t.own f.0 })
write_ends t kept f true legal =
    let r = record_at t.table f.0 in
    let writing = (and_parts (is_write r.request) (is_io t.line.kind || is_access t.line.kind || is_call t.line.kind) legal).0 in
    end_step t kept (move.Wrote f) legal (after_wrote t.table f.0) t.bytes (freed t.free (slot_after_wrote r)) f.0 (if is_some r.owner then write_done r else blank) true
    (write_has r.request writing) (records_ended (is_some r.owner) (write_done r) t.table f.0)
    (quiet_by t.table f.0 (write_done r) ((known t kept).standing f.0).fit (done_part (λ (x : Record). x.owner) r refl refl) (done_part (λ (x : Record). x.shares) r refl refl) (done_part (λ (x : Record). has_block x.backing) r (block_without r.backing) refl)) refl
write_ends t kept f false legal =
    let r = record_at t.table f.0 in
    let writing = (and_parts (is_write r.request) (is_io t.line.kind || is_access t.line.kind || is_call t.line.kind) legal).0 in
    end_step t kept (move.Lost f) legal (after_lost t.table f.0) t.bytes (freed t.free (slot_after_lost r)) f.0 (if is_some r.owner then write_lost r else blank) false
    (write_has r.request writing) (records_ended (is_some r.owner) (write_lost r) t.table f.0)
    (quiet_by t.table f.0 (write_lost r) ((known t kept).standing f.0).fit refl refl (block_without r.backing)) refl

writing_in : (t : JoinedParts) (f : Frame) (ok : Bool) → IsLegal (write_end ok f) (life_in t) → is_write (record_at t.table f.0).request ≡ true
writing_in t f true legal = (and_parts (is_write (record_at t.table f.0).request) (is_io t.line.kind || is_access t.line.kind || is_call t.line.kind) legal).0
writing_in t f false legal = (and_parts (is_write (record_at t.table f.0).request) (is_io t.line.kind || is_access t.line.kind || is_call t.line.kind) legal).0

-- a write ends, well or not; nobody waits for it
pub write_end_step : (t : JoinedParts) → PartsKept t → (f : Frame) (ok : Bool) → IsLegal (write_end ok f) (life_in t)
    → Step (record t { table = table_end ok t.table f.0; free = freed t.free (slot_after_write ok (record_at t.table f.0)); flight = flight_ended (own_is t.own f.0) t.flight f.0 ok; own = own_ended t.own f.0 })
    (record (parts_after (shown_of t) (write_end ok f)) { own = own_ended t.own f.0 })
write_end_step t kept f ok legal =
    waits_shown _ (record (parts_after (shown_of t) (write_end ok f)) { own = own_ended t.own f.0 }) (write_ends t kept f ok legal)
    (unread_waits t.table t.flight f.0 ok kept.waits (write_not_read (record_at t.table f.0).request (writing_in t f ok legal)))

-- ---- the begin of a write

is_that_block : (b : Block) (x : Backing) → is_block b.0 x ≡ true → has_block (backing.Block b) ≡ has_block x
is_that_block b backing.None h = cc
is_that_block b _ h = cc

blocks_kept : (t : JoinedParts) (f : Frame) (s : Stored) → CanWrite t f s → has_block (backing_to s) ≡ has_block (record_at t.table f.0).backing
blocks_kept t f (stored.Slot s) can = sym (not-true (has_block (record_at t.table f.0).backing) (and_parts ((record_at t.table f.0).shares == 0) (not (has_block (record_at t.table f.0).backing)) can.goes).1)
blocks_kept t f (stored.Block b) can = is_that_block b (record_at t.table f.0).backing can.goes

write_moves : (l : FrameLife) (f : Frame) (s : Stored) → record l { frames = after_write l.frames f.0 (backing_to s); free_slots = slots_to s l.free_slots; flight = l.flight ++ f.0 ∷ [] } ≡ after_move l (move.Write f s)
write_moves l f (stored.Slot s) = refl
write_moves l f (stored.Block b) = refl

pub write_step : (t : JoinedParts) → PartsKept t → (f : Frame) (s : Stored) → IsLegal (move.Write f s) (life_in t) → (is_own_line t.line.kind ≡ true → t.own ≡ None)
    → Step (record t { table = after_write t.table f.0 (backing_to s); free = slots_to s t.free; flight = flight_begun (is_own_line t.line.kind) t.flight f; own = own_after t.line.kind t.own f })
    (record (parts_after (shown_of t) (move.Write f s)) { own = own_after t.line.kind t.own f })
write_step t kept f s legal can =
    let able = write_can t kept f s legal in
    let r = record_at t.table f.0 in
    let low = kept_inside t.table f.0 (or_left (is_some r.owner) (has_request r.request) able.owned) in
    let change = rewrites_by t.table (after_write t.table f.0 (backing_to s)) f.0 (being_written (backing_to s) r) low refl in
    let flight' = flight_begun (is_own_line t.line.kind) t.flight f in
    waits_shown _ (record (parts_after (shown_of t) (move.Write f s)) { own = own_after t.line.kind t.own f })
    (quiet_step t kept (move.Write f s) legal (after_write t.table f.0 (backing_to s)) t.bytes (slots_to s t.free) flight' (own_after t.line.kind t.own f) f.0 (being_written (backing_to s) r) change
    (record { owner = refl; shares = refl; blocks = λ k e. blocks_kept t f s able })
    (ap (λ q. record (life_in t) { frames = after_write t.table f.0 (backing_to s); free_slots = slots_to s t.free; flight = q }) (begun_requests t.flight t.own t.line.kind f kept.within.requesting can) ∙ write_moves (life_in t) f s)
    (waits_begun (is_own_line t.line.kind) (after_write t.table f.0 (backing_to s)) t.flight f
    (waits_frame t.table (after_write t.table f.0 (backing_to s)) f.0 (being_written (backing_to s) r) t.flight change (λ read. let bad : true ≡ false = sym (read_has r.request read) ∙ able.quiet in cc) kept.waits))
    (begun_depth (is_own_line t.line.kind) t.flight f)
    (begun_within t.own t.line.kind f kept.within.requesting))
    (begun_waits (is_own_line t.line.kind) t.flight f)

-- ---- what the ends of writes say to the calls that they are made of

pub ended_table : (v : FramesOf) (f : ℕ) (ok : Bool) → (write_ended v f ok).table ≡ table_end ok v.table f
ended_table v f true = refl
ended_table v f false = refl

pub ended_bytes : (v : FramesOf) (f : ℕ) (ok : Bool) → (write_ended v f ok).bytes ≡ v.bytes
ended_bytes v f true = refl
ended_bytes v f false = refl

pub write_busy : (t : JoinedParts) (f : Frame) (ok : Bool) → IsLegal (write_end ok f) (life_in t) → has_request (record_at t.table f.0).request ≡ true
write_busy t f ok legal = write_has (record_at t.table f.0).request (writing_in t f ok legal)

pub slot_if : (b : Bool) (x : Backing) (s : ℕ) → (if b then None else slot_of x) ≡ Some s → slot_of x ≡ Some s
slot_if true x s e = cc
slot_if false x s e = e

-- the slot that is given back is not free
pub write_frees : (t : JoinedParts) → PartsKept t → (f : Frame) (ok : Bool) (s : ℕ) → slot_after_write ok (record_at t.table f.0) ≡ Some s → slice_get t.free s ≡ Some false
write_frees t kept f true s e = let r = record_at t.table f.0 in (known t kept).backed f.0 s (slot_if (is_some r.owner && not (is_again r.request)) r.backing s e)
write_frees t kept f false s e = (known t kept).backed f.0 s e

pub read_frees : (t : JoinedParts) → PartsKept t → (f : Frame) (s : ℕ) → slot_after_read (record_at t.table f.0) ≡ Some s → slice_get t.free s ≡ Some false
read_frees t kept f s e = let r = record_at t.table f.0 in (known t kept).backed f.0 s (slot_if (is_some r.owner) r.backing s e)

-- ---- the word of a key changes too: give, read, steal, bad

-- a frame that nobody owns is no key's
pub none_in : (t : JoinedParts) → PartsKept t → (f : Frame) (k : Key) → (record_at t.table f.0).owner ≡ None → (q : Key) → stands_of (owners t.table) t.words q ≡ held.Frame f → q ≡ k
none_in t kept f k none q at = let bad : Some q ≡ None = sym ((known t kept).owner q f at) ∙ none in cc

pub own_in : (t : JoinedParts) → PartsKept t → (f : Frame) (k : Key) → (record_at t.table f.0).owner ≡ Some k → (q : Key) → stands_of (owners t.table) t.words q ≡ held.Frame f → q ≡ k
own_in t kept f k owner q at = let both : Some q ≡ Some k = sym ((known t kept).owner q f at) ∙ owner in cc

-- a key comes to stand in a frame that showed nothing
comes_in : (t : JoinedParts) → PartsKept t → (d' : FrameTable) (f : Frame) (r : Record) (k : Key) → Rewrites t.table d' f.0 r → r.shares ≡ 0 → record_at t.table f.0 ≡ blank → is_valid_entry (key_entry t.words k) ≡ false
    → Rewords t d' f r k (entry.Transition f)
comes_in t kept d' f r k change none bare calm = record {
  change = change;
  unshared = ap (λ (x : Record). x.shares) bare;
  bare = none;
  only = none_in t kept f k (ap (λ (x : Record). x.owner) bare);
  resting = rests k (entry.Transition f) refl refl refl;
  beside = λ h. refl;
  lands = λ g e. let same : f ≡ g = cc in ap (λ (x : Frame). x.0) (sym same);
  calm = calm;
}

-- ---- give

names_give : (t : JoinedParts) (k : Key) (f : Frame) (q : Place) → names_of (owners t.table) (with_entry t.words k (entry.Transition f)) q ≡ names_after_give (shown_of t).aside (shown_of t).names k q
names_give t (Private p v) f q = names_used (owners t.table) t.words p v (entry.Transition f) refl q
names_give t (Shared a i) f q = refl

pub give_step : (t : JoinedParts) → PartsKept t → (f : Frame) (k : Key) → IsLegal (move.Give f k) (life_in t)
    → Step (record t { table = after_give t.table f.0 k; words = with_entry t.words k (entry.Transition f) }) (record (parts_after (shown_of t) (move.Give f k)) { names = names_after_give (shown_of t).aside (shown_of t).names k })
give_step t kept f k legal =
    let facts = known t kept in
    let d = t.table in
    let parts = and_parts (is_first f.0 d.zeroed) (is_zero ((life_in t).stands k)) (and_parts (is_first f.0 d.zeroed && is_zero ((life_in t).stands k)) (is_touch t.line.kind) legal).0 in
    let bare : record_at d f.0 ≡ blank = first_zeroed d (requests_in t) f.0 facts.standing parts.0 in
    let word : key_entry t.words k ≡ entry.Zero = zero_word (owned_by (owners d) k) (key_entry t.words k) parts.1 in
    let c = changes_give d (requests_in t) f.0 facts.standing k parts.0 in
    let change : Rewrites d (after_give d f.0 k) f.0 (given k) = record { elsewhere = λ g m. ap (λ (s : Sight). s.what) (c.elsewhere g m); here = c.here } in
    let re = comes_in t kept (after_give d f.0 k) f (given k) k change refl bare (ap is_valid_entry word) in
    key_step t kept (after_give d f.0 k) f (given k) k (entry.Transition f) re (move.Give f k) legal t.line t.bytes t.free t.flight t.own (names_after_give (shown_of t).aside (shown_of t).names k)
    (key_life t kept (after_give d f.0 k) f (given k) k (entry.Transition f) re t.free (requests_in t)
    (ap (λ (x : Record). not (has_block x.backing)) c.here ∙ sym (ap (λ e. is_of_paging_file d (held_by (owned_by (owners d) k) e)) word)))
    (names_give t k f)
    kept.line refl refl kept.within.requesting refl
    (waits_frame d (after_give d f.0 k) f.0 (given k) t.flight change (λ read. let bad : true ≡ false = sym read ∙ ap (λ (x : Record). is_read x.request) bare in cc) kept.waits)

-- ---- read

pub read_step : (t : JoinedParts) → PartsKept t → (f : Frame) (k : Key) → IsLegal (move.Read f k) (life_in t) → (is_own_line t.line.kind ≡ true → t.own ≡ None)
    → Step (record t { table = after_read t.table f.0 k (backing_of ((life_in t).stands k)); words = with_entry t.words k (entry.Transition f); flight = flight_begun (is_own_line t.line.kind) t.flight f; own = own_after t.line.kind t.own f })
    (record (parts_after (shown_of t) (move.Read f k)) { own = own_after t.line.kind t.own f })
read_step t kept f k legal can =
    let facts = known t kept in
    let d = t.table in
    let l = life_in t in
    let home = backing_of (l.stands k) in
    let there = is_first f.0 d.free || (is_empty d.free && is_first f.0 d.zeroed) in
    let parts = and_parts there (is_stored (l.stands k)) (and_parts (there && is_stored (l.stands k)) (is_access t.line.kind || (is_thread t.line.kind && has_depth l)) legal).0 in
    let fresh : Fresh d (requests_in t) f.0 facts.standing = fresh_read d (requests_in t) f.0 facts.standing parts.0 in
    let bare = fresh.bare in
    let change = rewrites_by d (after_read d f.0 k home) f.0 (being_read k home) fresh.low (ap (λ (xs : List Record). slice_set xs f.0 (being_read k home)) (records_taken d)) in
    let re = comes_in t kept (after_read d f.0 k home) f (being_read k home) k change refl bare (away_calm (key_entry t.words k) (stored_word (owned_by (owners d) k) (key_entry t.words k) parts.1)) in
    let flight' = flight_begun (is_own_line t.line.kind) t.flight f in
    let own' = own_after t.line.kind t.own f in
    waits_shown _ (record (parts_after (shown_of t) (move.Read f k)) { own = own' })
    (key_step t kept (after_read d f.0 k home) f (being_read k home) k (entry.Transition f) re (move.Read f k) legal t.line t.bytes t.free flight' own' (names_of (owners d) t.words)
    (key_life t kept (after_read d f.0 k home) f (being_read k home) k (entry.Transition f) re t.free (requests flight'.frames own')
    (stored_paging d (after_read d f.0 k home) (l.stands k) f parts.1 (ap (λ (x : Record). x.backing) change.here))
    ∙ ap (λ q. record l { frames = after_read d f.0 k home; stands = changed same_key l.stands k (held.Frame f); flight = q }) (begun_requests t.flight t.own t.line.kind f kept.within.requesting can))
    (names_moved (owners d) t.words k (entry.Transition f) (λ own. (refl, stored_used t kept k parts.1 own)))
    kept.line refl refl (begun_within t.own t.line.kind f kept.within.requesting) (begun_depth (is_own_line t.line.kind) t.flight f)
    (waits_begun (is_own_line t.line.kind) (after_read d f.0 k home) t.flight f
    (waits_frame d (after_read d f.0 k home) f.0 (being_read k home) t.flight change (λ read. refl) kept.waits)))
    (begun_waits (is_own_line t.line.kind) t.flight f)

-- ---- a page goes home: steal, bad

-- a frame at rest, with its page and where that goes
record Leaves (t : JoinedParts) (f : Frame) (k : Key) : Type 0 where
  low : f.0 < length t.table.records
  owner : (record_at t.table f.0).owner ≡ Some k
  unshared : (record_at t.table f.0).shares ≡ 0
  backed : is_backed (record_at t.table f.0).backing ≡ true

module _ (t : JoinedParts) (kept : PartsKept t) (f : Frame) (k : Key) (leaves : Leaves t f k) where
  abbrev home_of : Backing
  home_of = (record_at t.table f.0).backing

  leaving_word : key_entry t.words k ≡ entry.Transition f
  leaving_word = resting_word t kept k f ((known t kept).owned f.0 k leaves.owner) leaves.unshared

  leaving_aside : is_beside t.words k ≡ true → is_aside_entry (home_entry (record_at t.table f.0).backing) ≡ true
  leaving_aside = by k leaves.owner
    where
      by : (q : Key) → (record_at t.table f.0).owner ≡ Some q → is_beside t.words q ≡ true → is_aside_entry (home_entry (record_at t.table f.0).backing) ≡ true
      by (Private p v) o h = home_aside t kept (Private p v) f o refl
      by (Shared a i) o h = cc

  leaving : (d' : FrameTable) → d'.records ≡ slice_set t.table.records f.0 blank → Rewords t d' f blank k (home_entry (record_at t.table f.0).backing)
  leaving d' records = record {
    change = rewrites_by t.table d' f.0 blank leaves.low records;
    unshared = leaves.unshared;
    bare = refl;
    only = own_in t kept f k leaves.owner;
    resting = home_resting k home_of (own_backing t kept k f leaves.owner);
    beside = leaving_aside;
    lands = λ g e. home_lands home_of g f e;
    calm = ap is_valid_entry leaving_word;
  }

  leaving_names : (q : Place) → names_of (owners t.table) (with_entry t.words k (home_entry (record_at t.table f.0).backing)) q ≡ names_of (owners t.table) t.words q
  leaving_names = names_moved (owners t.table) t.words k (home_entry home_of) (λ own. (home_used home_of (own_backing t kept k f leaves.owner own) leaves.backed, ap is_used leaving_word))

  leaving_life : (d' : FrameTable) → d'.records ≡ slice_set t.table.records f.0 blank → (free' : List Bool) (flight' : List ℕ)
      → life_of t.line d' free' (with_entry t.words k (home_entry (record_at t.table f.0).backing)) flight'
      ≡ record (life_in t) { frames = d'; free_slots = free'; stands = homed (life_in t) (record_at t.table f.0).owner (record_at t.table f.0).backing; flight = flight' }
  leaving_life d' records free' flight' =
      key_life t kept d' f blank k (home_entry home_of) (leaving d' records) free' flight'
      (home_paging d' (owned_by (owners d') k) home_of ∙ sym (ap (is_of_paging_file t.table) ((known t kept).owned f.0 k leaves.owner)))
      ∙ ap (λ h. record (life_in t) { frames = d'; free_slots = free'; stands = changed same_key (stands_of (owners t.table) t.words) k h; flight = flight' }) (home_held (owned_by (owners d') k) home_of)
      ∙ ap (λ o. record (life_in t) { frames = d'; free_slots = free'; stands = homed (life_in t) o home_of; flight = flight' }) (sym leaves.owner)

pub steal_step : (t : JoinedParts) → PartsKept t → (f : Frame) (k : Key) → IsLegal (move.Steal f) (life_in t) → (record_at t.table f.0).owner ≡ Some k
    → Step (record t { table = after_steal t.table f.0; words = with_entry t.words k (home_entry (record_at t.table f.0).backing) }) (parts_after (shown_of t) (move.Steal f))
steal_step t kept f k legal owner =
    let facts = known t kept in
    let d = t.table in
    let first = (and_parts (is_first f.0 d.standby) (is_empty d.zeroed) (and_parts (is_first f.0 d.standby && is_empty d.zeroed) (is_empty d.free) (and_parts (is_first f.0 d.standby && is_empty d.zeroed && is_empty d.free) (is_touch t.line.kind) legal).0).0).0 in
    let standby : Standby d (requests_in t) f.0 facts.standing = first_standby d (requests_in t) f.0 facts.standing first in
    let leaves : Leaves t f k = record {
      low = kept_inside d f.0 standby.idle.kept;
      owner = owner;
      unshared = standby.idle.unshared;
      backed = (facts.standing f.0).fit.clean standby.idle.kept standby.clean;
    } in
    let re = leaving t kept f k leaves (after_steal d f.0) refl in
    key_step t kept (after_steal d f.0) f blank k (home_entry (record_at d f.0).backing) re (move.Steal f) legal t.line t.bytes t.free t.flight t.own (names_of (owners d) t.words)
    (leaving_life t kept f k leaves (after_steal d f.0) refl t.free (requests_in t))
    (leaving_names t kept f k leaves)
    kept.line refl refl kept.within.requesting refl
    (waits_frame d (after_steal d f.0) f.0 blank t.flight re.change (λ read. let bad : true ≡ false = sym (read_has (record_at d f.0).request read) ∙ standby.idle.quiet in cc) kept.waits)

-- a page that is being read is unchanged and valid nowhere
record Reading (t : JoinedParts) (f : Frame) : Type 0 where
  reading : is_read (record_at t.table f.0).request ≡ true
  unshared : (record_at t.table f.0).shares ≡ 0
  backed : is_backed (record_at t.table f.0).backing ≡ true
  held : Holding t f.0

reading_in : (t : JoinedParts) → PartsKept t → (f : Frame) → IsLegal (move.Bad f) (life_in t) → Reading t f
reading_in t kept f legal =
    let r = record_at t.table f.0 in
    let fit = ((known t kept).standing f.0).fit in
    let reading = (and_parts (is_read r.request) (is_io t.line.kind || is_access t.line.kind) legal).0 in
    record {
      reading = reading;
      unshared = (fit.reading reading).0;
      backed = fit.clean (or_right (is_some r.owner) (has_request r.request) (read_has r.request reading)) (fit.reading reading).1;
      held = held_by_request t kept f.0 (read_has r.request reading);
    }

abbrev BadStep : JoinedParts → Frame → WordsOf → Type 0
BadStep t f w =
    Step (record t { table = after_bad t.table f.0; free = freed t.free (slot_after_read (record_at t.table f.0)); words = w; flight = flight_ended (own_is t.own f.0) t.flight f.0 false; own = own_ended t.own f.0 })
    (record (parts_after (shown_of t) (move.Bad f)) { waits = map (ended f.0 false) t.flight.waits; own = own_ended t.own f.0 })

bad_orphan : (t : JoinedParts) → PartsKept t → (f : Frame) → IsLegal (move.Bad f) (life_in t) → Reading t f → (record_at t.table f.0).owner ≡ None → BadStep t f t.words
bad_orphan t kept f legal r none =
    end_step t kept (move.Bad f) legal (after_bad t.table f.0) t.bytes (freed t.free (slot_after_read (record_at t.table f.0))) f.0 blank false (read_has (record_at t.table f.0).request r.reading) refl
    (record { owner = sym none; shares = sym r.unshared; blocks = λ k e. let bad : Some k ≡ None = sym e ∙ none in cc })
    (ap (λ o. record (life_in t) { frames = after_bad t.table f.0; free_slots = freed t.free (slot_after_read (record_at t.table f.0)); stands = homed (life_in t) o (record_at t.table f.0).backing; flight = without f.0 (requests_in t) }) (sym none))

bad_owned : (t : JoinedParts) → PartsKept t → (f : Frame) (k : Key) → IsLegal (move.Bad f) (life_in t) → Reading t f → (record_at t.table f.0).owner ≡ Some k
    → BadStep t f (with_entry t.words k (home_entry (record_at t.table f.0).backing))
bad_owned t kept f k legal r owner =
    let d = t.table in
    let free' = freed t.free (slot_after_read (record_at d f.0)) in
    let leaves : Leaves t f k = record { low = r.held.low; owner = owner; unshared = r.unshared; backed = r.backed } in
    let re = leaving t kept f k leaves (after_bad d f.0) refl in
    let flight' = flight_ended (own_is t.own f.0) t.flight f.0 false in
    let own' = own_ended t.own f.0 in
    waits_shown _ (record (parts_after (shown_of t) (move.Bad f)) { own = own' })
    (key_step t kept (after_bad d f.0) f blank k (home_entry (record_at d f.0).backing) re (move.Bad f) legal t.line t.bytes free' flight' own' (names_of (owners d) t.words)
    (leaving_life t kept f k leaves (after_bad d f.0) refl free' (requests flight'.frames own')
    ∙ ap (λ q. record (life_in t) { frames = after_bad d f.0; free_slots = free'; stands = homed (life_in t) (record_at d f.0).owner (record_at d f.0).backing; flight = q }) (ended_requests t.flight t.own f.0 false r.held.once))
    (leaving_names t kept f k leaves)
    kept.line refl refl (λ h. kept.within.requesting (ended_within t.own f.0 h)) (ended_depth (own_is t.own f.0) t.flight f.0 false)
    (waits_ended d (after_bad d f.0) t.flight t.own f.0 blank false re.change kept.waits r.held.once))
    (ended_waits d t.flight t.own f.0 false kept.waits r.held.once)

pub bad_step : (t : JoinedParts) → PartsKept t → (f : Frame) → IsLegal (move.Bad f) (life_in t) → (o : Option Key) → (record_at t.table f.0).owner ≡ o → BadStep t f (words_sent o (record_at t.table f.0).backing t.words)
bad_step t kept f legal None e = bad_orphan t kept f legal (reading_in t kept f legal) e
bad_step t kept f legal (Some k) e = bad_owned t kept f k legal (reading_in t kept f legal) e

-- the page, if it lives, can go home
pub send_can : (t : JoinedParts) → PartsKept t → (f : Frame) → IsLegal (move.Bad f) (life_in t) → ((k : Key) → is_there (key_entry t.words k) ≡ true → has_word t.words k ≡ true)
    → (o : Option Key) → (record_at t.table f.0).owner ≡ o → CanSend t.words o (record_at t.table f.0).backing
send_can t kept f legal has None e = tt
send_can t kept f legal has (Some k) e = let can = home_can t kept f k e (reading_in t kept f legal).unshared in (has k can.there, can.fits, can.places)

pub reading_busy : (t : JoinedParts) (f : Frame) (ok : Bool) → IsLegal (end_of_read ok f) (life_in t) → has_request (record_at t.table f.0).request ≡ true
reading_busy t f true legal = read_has (record_at t.table f.0).request (and_parts (is_read (record_at t.table f.0).request) (is_io t.line.kind || is_access t.line.kind) legal).0
reading_busy t f false legal = read_has (record_at t.table f.0).request (and_parts (is_read (record_at t.table f.0).request) (is_io t.line.kind || is_access t.line.kind) legal).0

-- ---- a read ends, with the bytes of the page or without: the frame database's part

abbrev pub table_read : Bool → FrameTable → ℕ → FrameTable
table_read true d f = after_got d f
table_read false d f = after_bad d f

pub read_table : (v : FramesOf) (f : ℕ) (ok : Bool) → (read_ended v f ok).table ≡ table_read ok v.table f
read_table v f true = refl
read_table v f false = refl

-- what the parts are then, but for the page that goes home
abbrev pub read_left : Bool → JoinedParts → Frame → JoinedParts
read_left ok t f = record t {
  table = table_read ok t.table f.0;
  free = freed t.free (slot_after_read (record_at t.table f.0));
  flight = flight_ended (own_is t.own f.0) t.flight f.0 ok;
  own = own_ended t.own f.0;
}

abbrev pub read_over : Bool → JoinedParts → Frame → JoinedParts
read_over true t f = read_left true t f
read_over false t f = record (read_left false t f) { words = words_sent (record_at t.table f.0).owner (record_at t.table f.0).backing t.words }

abbrev pub read_shows : Bool → JoinedParts → Frame → PartsOf
read_shows ok t f = record (parts_after (shown_of t) (end_of_read ok f)) { waits = map (ended f.0 ok) t.flight.waits; own = own_ended t.own f.0 }

pub read_over_step : (t : JoinedParts) → PartsKept t → (f : Frame) (ok : Bool) → IsLegal (end_of_read ok f) (life_in t) → Step (read_over ok t f) (read_shows ok t f)
read_over_step t kept f true legal =
    let r = record_at t.table f.0 in
    let reading = (and_parts (is_read r.request) (is_io t.line.kind || is_access t.line.kind) legal).0 in
    end_step t kept (move.Got f) legal (after_got t.table f.0) t.bytes (freed t.free (slot_after_read r)) f.0 (if is_some r.owner then read_done r else blank) true
    (read_has r.request reading) (records_ended (is_some r.owner) (read_done r) t.table f.0)
    (quiet_by t.table f.0 (read_done r) ((known t kept).standing f.0).fit refl refl refl) refl
read_over_step t kept f false legal = bad_step t kept f legal _ refl

-- by whether it was read
pub read_over_by : (t : JoinedParts) → PartsKept t → (f : Frame) (ok was : Bool) → ok ≡ was → IsLegal (end_of_read ok f) (life_in t) → Step (read_over was t f) (read_shows ok t f)
read_over_by t kept f ok was e legal = step_to _ _ _ (ap (λ b. read_over b t f) (sym e)) (read_over_step t kept f ok legal)
