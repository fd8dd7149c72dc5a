-- What the moves' conditions say to the calls that they are made of.
use Rattle.std.proofs.Common.{◌≡◌, ℕ, ◌+◌, ◌<◌, ◌≤◌, ◌^◌, true, false, Option, Some, None, refl, sym, ap, ◌∙◌, inl, inr, arith, length, ◌≢◌, zero}
use Rattle.std.proofs.Common.{suc, Bool, List, [], ◌∷◌, subst, length-append}
use Rattle.std.specs.Prelude.{◌&&◌, not, is_some, is_none, option_map, unwrap_or, nat_lt, slice_get, ◌==◌, ◌||◌}
use Rattle.std.proofs.lemmas.Bool.{and_parts, or_left, not-true, ltb-true}
use Rattle.mm_types.proofs.{get_within, none_is}
use Rattle.mm_types.specs.{Frame, Area, Pid, Vpn, Key, Place, Backing, Slot, Record, LineKind, Stored}
use Rattle.mm_types.specs.declared.numbers.Key.TheVariants.{Private, Shared}
use Rattle.mm_move_rules.specs.{record_at, is_first, is_empty, slot_of, is_read, has_request, set_in, set_of, same_place, key_of_place, IsLegal, owner_is}
use Rattle.mm_move_rules.specs.{fits_place, is_below_max, touches, is_touch, backing_of, is_on, is_access, is_thread, is_writer, is_call, is_stored}
use Rattle.mm_move_rules.specs.{is_lowest, is_block, has_depth, may_write_block}
use Rattle.mm_move_laws.specs.{block_of, block_in, block_held, one_if}
use Rattle.mm_move_laws.proofs.{kept_inside, Standby, first_standby, owner_passes, same_place-true, on_modified, idle_is, Fresh, fresh_read, times_on}
use Rattle.mm_move_laws.proofs.{lowest_taken}
use Rattle.mm_page_tables.specs.{IsEntry, Entry, WordsOf, key_entry, is_valid_entry, is_there, keeps_places, has_word, valid_frame, made_valid, place_from}
use Rattle.mm_page_tables.specs.{bare}
use Rattle.mm_parts.specs.{JoinedParts, valid_of, owners, owned_by, life_in, requests_in, PartsKept, front, home_entry, entry_backing, CanLeave}
use Rattle.mm_parts.specs.{CanName, own_request, is_own_line, lowest_free_slot, goes_to, write_target}
use Rattle.mm_parts.proofs.Reading.{front_is}
use Rattle.mm_parts.proofs.Keeping.{known, valid_owned}
use Rattle.mm_parts.proofs.KeyChanges.{places_kept}
use Rattle.mm_parts.proofs.Reading.{in_frame, resting_word, backing_bare, backing_held, no_block}
use Rattle.mm_slots.specs.{free_count, IsLowest}
use Rattle.mm_pfn_database.specs.{has_block, can_go_to}
use Rattle.mm_requests.specs.{is_requested}
use Rattle.mm_frame_laws.specs.{backing_to}
use Rattle.mm_parts.proofs.RequestLists.{not_in_flight}
use Rattle.mm_types.specs.declared.frames.Backing.TheVariants as backing
use Rattle.mm_types.specs.declared.moves.Move.TheVariants as move
use Rattle.mm_page_tables.specs.declared.layout.Entry.TheVariants as entry
use Rattle.mm_types.specs.declared.moves.LineKind.TheVariants as kind
use Rattle.mm_types.specs.declared.moves.Stored.TheVariants as stored

-- ---- numbers that a word has room for

pub frame_low : (t : JoinedParts) → PartsKept t → (f : ℕ) → f < length t.table.records → f < 268435456
frame_low t kept f low = let size = (known t kept).framed in let most = kept.line.machine.most_frames in omega (arith, low, size, most)

pub frame_fits : (t : JoinedParts) → PartsKept t → (f : Frame) → f.0 < length t.table.records → IsEntry (entry.Transition f)
frame_fits t kept f low = let small = frame_low t kept f.0 low in record { first = omega (arith, small); second = omega arith }

pub slot_fits : (t : JoinedParts) → PartsKept t → (s : ℕ) → slice_get t.free s ≡ Some false → s < 268435456
slot_fits t kept s taken = let low = get_within t.free s false taken in let size = (known t kept).slotted in let most = kept.line.machine.most_slots in omega (arith, low, size, most)

-- where the page of a frame goes
pub home_fits : (t : JoinedParts) → PartsKept t → (f : Frame) (k : Key) → (record_at t.table f.0).owner ≡ Some k → IsEntry (home_entry (record_at t.table f.0).backing)
home_fits t kept f k owner = by (record_at t.table f.0).backing refl
  where
    by : (b : Backing) → (record_at t.table f.0).backing ≡ b → IsEntry (home_entry b)
    by backing.None e = record { first = omega arith; second = omega arith }
    by (backing.Slot s) e = let small = slot_fits t kept s.0 ((known t kept).backed f.0 s.0 (ap slot_of e)) in record { first = omega (arith, small); second = omega arith }
    by (backing.Block b) e =
        let held_is : block_held (life_in t) k ≡ Some b.0 = ap (block_in t.table) ((known t kept).owned f.0 k owner) ∙ ap block_of e in
        let low = (known t kept).block_low k b.0 held_is in
        let most = kept.line.machine.most_blocks in
        record { first = omega (arith, low, most); second = omega arith }

-- ---- a key whose word can be set

pub record CanSet (t : JoinedParts) (k : Key) (e : Entry) : Type 0 where
  pub there : is_there (key_entry t.words k) ≡ true
  pub fits : IsEntry e
  pub places : keeps_places t.words k e ≡ true

home_calm : (b : Backing) → is_valid_entry (home_entry b) ≡ false
home_calm (backing.Slot s) = refl
home_calm _ = refl

-- a page that has a frame and is valid nowhere goes home
pub home_can : (t : JoinedParts) → PartsKept t → (f : Frame) (k : Key) → (record_at t.table f.0).owner ≡ Some k → (record_at t.table f.0).shares ≡ 0 → CanSet t k (home_entry (record_at t.table f.0).backing)
home_can t kept f k owner none =
    let word = resting_word t kept k f ((known t kept).owned f.0 k owner) none in
    record {
      there = ap is_there word;
      fits = home_fits t kept f k owner;
      places = places_kept t.words k (home_entry (record_at t.table f.0).backing) (home_calm (record_at t.table f.0).backing) (ap is_valid_entry word);
    }

-- a page in a frame has an entry
pub framed_there : (t : JoinedParts) → PartsKept t → (f : Frame) (k : Key) → (record_at t.table f.0).owner ≡ Some k → is_there (key_entry t.words k) ≡ true
framed_there t kept f k owner = elim (in_frame (owned_by (owners t.table) k) (key_entry t.words k) f ((known t kept).owned f.0 k owner)) [
  | inl e ↦ ap is_there e
  | inr x ↦ ap is_there x.1
]

-- the first frame on standby
pub steal_can : (t : JoinedParts) → PartsKept t → IsLegal (move.Steal (front t.table.standby)) (life_in t) → (f : ℕ) (k : Key) → slice_get t.table.standby 0 ≡ Some f → (record_at t.table f).owner ≡ Some k
    → CanSet t k (home_entry (record_at t.table f).backing)
steal_can t kept legal f k first owner =
    let g = front t.table.standby in
    let is : f ≡ g.0 = ap (λ (x : Frame). x.0) (front_is t.table.standby f (record { 0 = f }) first refl) in
    let head = (and_parts (is_first g.0 t.table.standby) (is_empty t.table.zeroed) (and_parts (is_first g.0 t.table.standby && is_empty t.table.zeroed) (is_empty t.table.free) (and_parts (is_first g.0 t.table.standby && is_empty t.table.zeroed && is_empty t.table.free) (is_touch t.line.kind) legal).0).0).0 in
    let standby : Standby t.table (requests_in t) g.0 (known t kept).standing = first_standby t.table (requests_in t) g.0 (known t kept).standing head in
    home_can t kept (record { 0 = f }) k owner (ap (λ (x : ℕ). (record_at t.table x).shares) is ∙ standby.idle.unshared)

-- ---- map

-- what the condition of a map says
pub record Mappable (t : JoinedParts) (f : Frame) (place : Place) : Type 0 where
  pub key : Key
  pub owner : (record_at t.table f.0).owner ≡ Some key
  pub fits : fits_place place key ≡ true
  pub low : f.0 < length t.table.records
  pub unread : is_read (record_at t.table f.0).request ≡ false
  pub invalid : valid_of t.words place ≡ None
  pub room : is_below_max (set_in t.words.sets place.pid.0) ≡ true

pub mappable : (t : JoinedParts) (f : Frame) (place : Place) → IsLegal (move.Map f place) (life_in t) → Mappable t f place
mappable t f place legal =
    let r = record_at t.table f.0 in
    let l = life_in t in
    let a = and_parts (owner_is (fits_place place) r && not (is_read r.request) && is_none (l.valid place) && touches place.pid.0 t.line.kind) (is_below_max (set_of l place.pid.0)) legal in
    let b = and_parts (owner_is (fits_place place) r && not (is_read r.request) && is_none (l.valid place)) (touches place.pid.0 t.line.kind) a.0 in
    let c = and_parts (owner_is (fits_place place) r && not (is_read r.request)) (is_none (l.valid place)) b.0 in
    let e = and_parts (owner_is (fits_place place) r) (not (is_read r.request)) c.0 in
    let owns = owner_passes (fits_place place) r e.0 in
    record {
      key = owns.key;
      owner = owns.is;
      fits = owns.passes;
      low = kept_inside t.table f.0 (or_left (is_some r.owner) (has_request r.request) (ap is_some owns.is));
      unread = not-true (is_read r.request) e.1;
      invalid = none_is (l.valid place) c.1;
      room = a.1;
    }

pub invalid_entry : (e : Entry) → valid_frame e ≡ None → is_valid_entry e ≡ false
invalid_entry (entry.Valid f n) h = cc
invalid_entry _ h = refl

pub shares_room : (t : JoinedParts) → PartsKept t → (f : ℕ) → (record_at t.table f).shares + 1 < 2 ^ 32
shares_room t kept f = let most = (known t kept).most (λ pid s e. (kept.ranges.sets pid s e).1) f in omega (arith, most)

-- the prototype word of the page can be set, once the place is valid
pub name_can : (t : JoinedParts) → PartsKept t → (f : Frame) (place : Place) → (o : Option Key) → (record_at t.table f.0).owner ≡ o → f.0 < length t.table.records
    → ((k : Key) → is_there (key_entry t.words k) ≡ true → has_word t.words k ≡ true) → CanName (made_valid t.words place f) o f
name_can t kept f place (Some (Shared a i)) e low has = (has (Shared a i) (framed_there t kept f (Shared a i) e), record { first = (frame_fits t kept f low).first; second = (frame_fits t kept f low).second }, refl)
name_can t kept f place _ e low has = cc

-- the place's own key, where the page is a private one
pub own_place : (t : JoinedParts) (f : Frame) (place : Place) (p : Pid) (v : Vpn) → Mappable t f place → (record_at t.table f.0).owner ≡ Some (Private p v) → (record_at t.table f.0).owner ≡ Some (key_of_place place)
own_place t f place p v m e =
    let is : m.key ≡ Private p v = (let both : Some m.key ≡ Some (Private p v) = sym m.owner ∙ e in cc) in
    let same : same_place (place_from p v) place ≡ true = ap (fits_place place) (sym is) ∙ m.fits in
    e ∙ ap (λ (x : Place). Some (key_of_place x)) (same_place-true (place_from p v) place same)

-- ---- unmap

pub record Leaving (t : JoinedParts) (f : Frame) (place : Place) : Type 0 where
  pub there : valid_of t.words place ≡ Some f
  pub low : f.0 < length t.table.records
  pub some : 1 ≤ (record_at t.table f.0).shares
  pub owned : is_some (record_at t.table f.0).owner ≡ true

-- by the entry as it is told, with its number
pub leaving_told : (t : JoinedParts) → PartsKept t → (f : Frame) (n : ℕ) (place : Place) (e : Entry) → bare e ≡ t.words.at place → e ≡ entry.Valid f n → Leaving t f place
leaving_told t kept f n place e told is =
    let there : valid_of t.words place ≡ Some f = ap valid_frame (sym told ∙ ap bare is) in
    let owned = valid_owned t kept place f there in
    record { there = there; low = kept_inside t.table f.0 (or_left (is_some (record_at t.table f.0).owner) (has_request (record_at t.table f.0).request) owned); some = (known t kept).shares place f there; owned = owned }

area_low : (w : WordsOf) (a : Area) (i : ℕ) → has_word w (Shared a i) ≡ true → is_some (w.sizes a.0) ≡ true
area_low w a i h = elim (w.sizes a.0) as (λ o. unwrap_or (option_map (λ n. nat_lt i n) o) false ≡ true → is_some o ≡ true) [ None ↦ λ e. cc | Some n ↦ λ e. refl ] h

pub leave_can : (t : JoinedParts) → PartsKept t → (f : Frame) (k : Key) → (record_at t.table f.0).owner ≡ Some k → f.0 < length t.table.records
    → ((k : Key) → is_there (key_entry t.words k) ≡ true → has_word t.words k ≡ true) → CanLeave t.words k f
leave_can t kept f (Private p v) e low has = frame_fits t kept f low
leave_can t kept f (Shared a i) e low has =
    let h = has (Shared a i) (framed_there t kept f (Shared a i) e) in
    let first = kept.ranges.areas a.0 (area_low t.words a i h) in
    (h, frame_fits t kept f low, omega (arith, first))

-- ---- read

-- where the page is read from, by its entry
pub read_backing : (t : JoinedParts) (k : Key) (e : Entry) → bare e ≡ key_entry t.words k → entry_backing e ≡ backing_of ((life_in t).stands k)
read_backing t k e is = sym (backing_bare e) ∙ ap entry_backing is ∙ sym (backing_held (owned_by (owners t.table) k) (key_entry t.words k))

-- ---- what the moves' conditions say of requests and of the slots that are written to

or_split : (a b c : Bool) → a ≡ false → (a || (b && c)) ≡ true → c ≡ true
or_split true b c e h = cc
or_split false b c e h = (and_parts b c h).1

-- fewer than depth requests are in flight then
room_in : (t : JoinedParts) → PartsKept t → has_depth (life_in t) ≡ true → length t.flight.frames < t.flight.depth
room_in t kept h =
    let below = ltb-true (length (requests_in t)) t.line.machine.depth h in
    let sum = length-append t.flight.frames (own_request t.own) in
    let depth = kept.depth in
    omega (arith, below, sum, depth)

not_own : (k : LineKind) → is_own_line k ≡ false → (is_access k ≡ false) × (is_call k ≡ false)
not_own (kind.Access p) h = cc
not_own kind.Call h = cc
not_own _ h = (refl, refl)

-- a frame without a request is not in flight
pub new_in : (t : JoinedParts) → PartsKept t → (f : ℕ) → has_request (record_at t.table f).request ≡ false → is_requested f t.flight.frames ≡ false
new_in t kept f quiet = not_in_flight f t.own t.flight.frames (((known t kept).standing f).flight ∙ ap one_if quiet)

-- ---- reads

pub read_fewer : (t : JoinedParts) → PartsKept t → (f : Frame) (k : Key) → IsLegal (move.Read f k) (life_in t) → is_own_line t.line.kind ≡ false → length t.flight.frames < t.flight.depth
read_fewer t kept f k legal other =
    let l = life_in t in
    let there = is_first f.0 t.table.free || (is_empty t.table.free && is_first f.0 t.table.zeroed) in
    let may = (and_parts (there && is_stored (l.stands k)) (is_access t.line.kind || (is_thread t.line.kind && has_depth l)) legal).1 in
    room_in t kept (or_split (is_access t.line.kind) (is_thread t.line.kind) (has_depth l) (not_own t.line.kind other).0 may)

pub read_there : (t : JoinedParts) (f : Frame) (k : Key) → IsLegal (move.Read f k) (life_in t) → (is_first f.0 t.table.free || (is_empty t.table.free && is_first f.0 t.table.zeroed)) ≡ true
read_there t f k legal =
    let l = life_in t in
    let there = is_first f.0 t.table.free || (is_empty t.table.free && is_first f.0 t.table.zeroed) in
    (and_parts there (is_stored (l.stands k)) (and_parts (there && is_stored (l.stands k)) (is_access t.line.kind || (is_thread t.line.kind && has_depth l)) legal).0).0

pub read_fresh : (t : JoinedParts) → (kept : PartsKept t) → (f : Frame) (k : Key) → IsLegal (move.Read f k) (life_in t) → Fresh t.table (requests_in t) f.0 (known t kept).standing
read_fresh t kept f k legal = fresh_read t.table (requests_in t) f.0 (known t kept).standing (read_there t f k legal)

pub read_new : (t : JoinedParts) → PartsKept t → (f : Frame) (k : Key) → IsLegal (move.Read f k) (life_in t) → is_requested f.0 t.flight.frames ≡ false
read_new t kept f k legal = new_in t kept f.0 (ap (λ (r : Record). has_request r.request) (read_fresh t kept f k legal).bare)

some_frame : (free zeroed : List ℕ) (f : ℕ) → (is_first f free || (is_empty free && is_first f zeroed)) ≡ true → is_empty free ≡ true → is_empty zeroed ≡ false
some_frame [] [] f h e = cc
some_frame _ _ f h e = cc

-- a frame can be taken for it
pub read_frame : (t : JoinedParts) (f : Frame) (k : Key) → IsLegal (move.Read f k) (life_in t) → is_empty t.table.free ≡ true → is_empty t.table.zeroed ≡ false
read_frame t f k legal = some_frame t.table.free t.table.zeroed f.0 (read_there t f k legal)

-- ---- writes

-- what is known of a frame that can be written
pub record CanWrite (t : JoinedParts) (f : Frame) (s : Stored) : Type 0 where
  pub owned : is_some (record_at t.table f.0).owner ≡ true
  pub changed : (record_at t.table f.0).changed ≡ true
  pub quiet : has_request (record_at t.table f.0).request ≡ false
  pub goes : can_go_to (backing_to s) (record_at t.table f.0) ≡ true
  pub fewer : is_own_line t.line.kind ≡ false → length t.flight.frames < t.flight.depth

block_room : (a b c d e : Bool) → b ≡ false → e ≡ false → ((a && b) || (a && c && d) || e) ≡ true → d ≡ true
block_room true false true false false x y h = h
block_room _ _ _ _ _ x y h = cc

pub write_can : (t : JoinedParts) → PartsKept t → (f : Frame) (s : Stored) → IsLegal (move.Write f s) (life_in t) → CanWrite t f s
write_can t kept f (stored.Slot s) legal =
    let facts = known t kept in
    let r = record_at t.table f.0 in
    let l = life_in t in
    let z = and_parts (is_on f.0 t.table.modified && owner_is l.paging r && is_lowest s.0 t.free) (is_access t.line.kind || (is_writer t.line.kind && has_depth l)) legal in
    let a = z.0 in
    let b = (and_parts (is_on f.0 t.table.modified && owner_is l.paging r) (is_lowest s.0 t.free) a).0 in
    let c = and_parts (is_on f.0 t.table.modified) (owner_is l.paging r) b in
    let on = on_modified _ (facts.standing f.0) (times_on f.0 t.table.modified c.0) in
    let passes = owner_passes l.paging r c.1 in
    let idle = idle_is r on.0 on.1.0 in
    let blockless = no_block (l.paging passes.key) r.backing passes.passes (facts.backing f.0 passes.key passes.is) in
    record {
      owned = on.0;
      changed = on.1.1;
      quiet = idle.quiet;
      goes = λ i. (idle.unshared i == 0) && not (blockless i);
      fewer = λ other. room_in t kept (or_split (is_access t.line.kind) (is_writer t.line.kind) (has_depth l) (not_own t.line.kind other).0 z.1);
    }
write_can t kept f (stored.Block b) legal =
    let r = record_at t.table f.0 in
    let l = life_in t in
    let z = and_parts (r.changed && is_some r.owner && not (has_request r.request) && is_block b.0 r.backing) (may_write_block l f.0) legal in
    let c = and_parts (r.changed && is_some r.owner && not (has_request r.request)) (is_block b.0 r.backing) z.0 in
    let e = and_parts (r.changed && is_some r.owner) (not (has_request r.request)) c.0 in
    let g = and_parts r.changed (is_some r.owner) e.0 in
    record {
      owned = g.1;
      changed = g.0;
      quiet = not-true (has_request r.request) e.1;
      goes = c.1;
      fewer = λ other. let no = not_own t.line.kind other in room_in t kept (block_room (is_on f.0 t.table.modified) (is_access t.line.kind) (is_writer t.line.kind) (has_depth l) (is_call t.line.kind) no.0 no.1 z.1);
    }

-- ---- the slot that is written to

lowest_head : (rest : List Bool) (s : ℕ) → IsLowest (true ∷ rest) s → s ≡ 0
lowest_head rest zero h = refl
lowest_head rest (suc s) h = let bad : Some true ≡ Some false = h.below 0 (omega arith) in cc

lowest_tail : (rest : List Bool) (s : ℕ) → IsLowest (false ∷ rest) (suc s) → IsLowest rest s
lowest_tail rest s h = record { is_free = h.is_free; below = λ k low. h.below (suc k) (omega (arith, low)) }

-- the slot that is taken is the one that the move names
pub lowest_is : (free : List Bool) (s : ℕ) → IsLowest free s → s ≡ lowest_free_slot free
lowest_is [] s h = let bad : None ≡ Some true = h.is_free in cc
lowest_is (true ∷ rest) s h = lowest_head rest s h
lowest_is (false ∷ rest) zero h = let bad : Some false ≡ Some true = h.is_free in cc
lowest_is (false ∷ rest) (suc s) h = let e = lowest_is rest s (lowest_tail rest s h) in omega (arith, e)

pub target_slot : (b : Backing) (s : ℕ) → has_block b ≡ false → goes_to b s ≡ stored.Slot (record { 0 = s })
target_slot backing.None s h = refl
target_slot _ s h = cc

pub slot_lowest : (t : JoinedParts) (f : Frame) (s : Slot) → IsLegal (move.Write f (stored.Slot s)) (life_in t) → is_lowest s.0 t.free ≡ true
slot_lowest t f s legal =
    let r = record_at t.table f.0 in
    let l = life_in t in
    let a = (and_parts (is_on f.0 t.table.modified && owner_is l.paging r && is_lowest s.0 t.free) (is_access t.line.kind || (is_writer t.line.kind && has_depth l)) legal).0 in
    (and_parts (is_on f.0 t.table.modified && owner_is l.paging r) (is_lowest s.0 t.free) a).1

pub write_low : (t : JoinedParts) (f : Frame) (s : Stored) → CanWrite t f s → f.0 < length t.table.records
write_low t f s can = kept_inside t.table f.0 (or_left (is_some (record_at t.table f.0).owner) (has_request (record_at t.table f.0).request) can.owned)

-- a page without a block has a free slot to go to
pub write_free : (t : JoinedParts) (f : Frame) → IsLegal (move.Write f (write_target (life_in t) f)) (life_in t) → (b : Backing) → b ≡ (record_at t.table f.0).backing → has_block b ≡ false → free_count t.free ≢ 0
write_free t f legal b is none empty =
    let to : write_target (life_in t) f ≡ stored.Slot (record { 0 = lowest_free_slot t.free }) = ap (λ x. goes_to x (lowest_free_slot t.free)) (sym is) ∙ target_slot b (lowest_free_slot t.free) none in
    let slot_legal : IsLegal (move.Write f (stored.Slot (record { 0 = lowest_free_slot t.free }))) (life_in t) = subst (λ (x : Stored). IsLegal (move.Write f x) (life_in t)) to legal in
    let more = lowest_taken t.free (lowest_free_slot t.free) (slot_lowest t f (record { 0 = lowest_free_slot t.free }) slot_legal) in omega (arith, more, empty)
