-- What follows of one state from `Sound` alone.
use Rattle.std.proofs.Common.{◌≡◌, ◌≢◌, ℕ, ◌<◌, ◌≤◌, Bool, true, false, not, length, Option, Some, None, refl, sym, ap, ◌∙◌, arith, ◌+◌, List, [], ◌∷◌, ◌++◌, inl, inr}
use Rattle.std.proofs.lemmas.List.{length_push}
use Rattle.std.specs.Prelude.{◌&&◌, ◌==◌, is_some, slice_get, count_by}
use Rattle.std.proofs.lemmas.Bool.{and_parts, or_left, not-true, lt-ltb, le-ltb, eqb-true}
use Rattle.mm_types.specs.{Frame, Key, Pid, Vpn, Place, Block, Backing, Held, LineKind, Move}
use Rattle.mm_types.specs.declared.numbers.Key.TheVariants.{Private}
use Rattle.mm_types.proofs.Options.{some_found}
use Rattle.mm_move_rules.specs.{blank, record_at, has_request, is_on, slot_of, is_idle, FrameLife, counts_of, is_live, is_dead, key_of_place, same_key}
use Rattle.mm_move_rules.specs.{slot_at, without, set_of, unstarted, IsLegal, owner_is, is_lowest, is_block, after_move, after_at, dropped_at}
use Rattle.mm_move_rules.specs.{after_unmap_at, Replays, ResidentSet}
use Rattle.mm_move_laws.specs.{one_if, times, standings, counted_frames, IsStandby, IsModified, Holder, Home, Behind, slot_held, holding, CountsPlaces}
use Rattle.mm_move_laws.specs.{CountsKeys, is_home_for, is_backing_for, block_of, sight, frame, is_file_key, block_held, may_begin, ReachedByMoves}
use Rattle.mm_move_laws.specs.Sound.{Sound}
use Rattle.mm_move_laws.proofs.Tallies.{times_on, length-left}
use Rattle.mm_move_laws.proofs.Sound.{some_owner, begins_block, begins_read, begins_slot, ended_few}
use Rattle.mm_move_laws.proofs.Sights.{on_fresh, on_standby, on_modified, kept_inside, three_fail}
use Rattle.mm_move_laws.proofs.Taking.{idle_is}
use Rattle.mm_move_laws.proofs.PlaceCounts.{has_shares}
use Rattle.mm_move_laws.proofs.Homes.{stands_once, total, requests_total}
use Rattle.mm_move_laws.proofs.SlotHolders.{held_low}
use Rattle.mm_move_laws.proofs.Kept.{at_depth, replay_sound}
use Rattle.mm_move_laws.proofs.Moved.{dropped_as, unmapped_as}
use Rattle.mm_move_laws.proofs.SetSizes.{in_range, share_within, places_most}
use Rattle.mm_move_rules.proofs.Replays.{replays_then}
use Rattle.mm_move_laws.proofs.FileKeys.{in_line, file_along}
use Rattle.mm_move_laws.proofs.Blocks.{Apart, replay_apart, file_block_along}
use Rattle.mm_types.specs.declared.frames.Backing.TheVariants as backing
use Rattle.mm_types.specs.declared.frames.Held.TheVariants as held
use Rattle.mm_types.specs.declared.moves.LineKind.TheVariants as kind
use Rattle.mm_types.specs.declared.moves.Stored.TheVariants as stored
use Rattle.mm_types.specs.declared.moves.Move.TheVariants as move

module _ (l : FrameLife) (s : Sound l) where
  -- ---- frames

  pub once : (f : ℕ) → f < l.machine.frames → standings l.frames f ≡ 1
  once f low =
      stands_once l.frames l.flight f (s.standing f) ∙ ap one_if (lt-ltb f (length l.frames.records) (omega (arith, low, s.framed)))

  pub no_other : (f : ℕ) → l.machine.frames ≤ f → standings l.frames f ≡ 0
  no_other f high =
      stands_once l.frames l.flight f (s.standing f) ∙ ap one_if (le-ltb f (length l.frames.records) (omega (arith, high, s.framed)))

  pub counted : counted_frames (counts_of l) ≡ l.machine.frames
  counted = total l.frames l.flight s.standing ∙ s.framed

  pub zeroed_bare : (f : ℕ) → is_on f l.frames.zeroed ≡ true → record_at l.frames f ≡ blank
  zeroed_bare f on = let m = times_on f l.frames.zeroed on in (on_fresh (sight l.frames l.flight f) (s.standing f) (omega (arith, m))).0

  pub free_bare : (f : ℕ) → is_on f l.frames.free ≡ true → record_at l.frames f ≡ blank
  free_bare f on = let m = times_on f l.frames.free on in (on_fresh (sight l.frames l.flight f) (s.standing f) (omega (arith, m))).0

  pub standby_is : (f : ℕ) → is_on f l.frames.standby ≡ true → IsStandby (record_at l.frames f)
  standby_is f on =
      let known = on_standby (sight l.frames l.flight f) (s.standing f) (times_on f l.frames.standby on) in
      let idle = idle_is (record_at l.frames f) known.0 known.1.0 in
      let clean = not-true (record_at l.frames f).changed known.1.1 in
      record { owned = known.0; unshared = idle.unshared; quiet = idle.quiet; unchanged = clean; backed = (s.standing f).fit.clean idle.kept clean }

  pub modified_is : (f : ℕ) → is_on f l.frames.modified ≡ true → IsModified (record_at l.frames f)
  modified_is f on =
      let known = on_modified (sight l.frames l.flight f) (s.standing f) (times_on f l.frames.modified on) in
      let idle = idle_is (record_at l.frames f) known.0 known.1.0 in
      record { owned = known.0; unshared = idle.unshared; quiet = idle.quiet; changed = known.1.1; slotless = (s.standing f).fit.dirty known.1.1 idle.quiet }

  -- ---- slots

  pub slot_free : (t : ℕ) (h : Holder) → slice_get l.free_slots t ≡ Some true → slot_held l h ≢ Some t
  slot_free t h e g =
      let bad : true ≡ false = sym (ap is_some (s.held.found h t g)) ∙ s.held.taken t true e in cc

  pub slot_has : (t : ℕ) → slice_get l.free_slots t ≡ Some false → (h : Holder) × (slot_held l h ≡ Some t)
  slot_has t e = let h = some_found (s.held.holder t) (s.held.taken t false e) in (h.0, s.held.held t h.0 h.1)

  pub slot_one : (t : ℕ) (g h : Holder) → slot_held l g ≡ Some t → slot_held l h ≡ Some t → g ≡ h
  slot_one t g h a b = let both : Some g ≡ Some h = sym (s.held.found g t a) ∙ s.held.found h t b in cc

  pub slot_there : (t : ℕ) (h : Holder) → slot_held l h ≡ Some t → t < l.machine.slots
  slot_there t h e = let low = held_low l.free_slots (holding l.frames l.stands) s.held t h e in let size = s.slotted in omega (arith, low, size)

  -- a held slot is there and is not free
  pub slot_taken : (t : ℕ) (h : Holder) → slot_held l h ≡ Some t → slice_get l.free_slots t ≡ Some false
  slot_taken t h e = at (slice_get l.free_slots t) refl
    where
      at : (o : Option Bool) → slice_get l.free_slots t ≡ o → o ≡ Some false
      at None g = let bad : None ≡ Some h = sym (s.held.past t g) ∙ s.held.found h t e in cc
      at (Some false) g = refl
      at (Some true) g = absurd (slot_free t h g e)

  -- two frames with one slot are one, as are two keys, and no frame has the slot of a key
  pub behind_one : (t f g : ℕ) → slot_of (record_at l.frames f).backing ≡ Some t → slot_of (record_at l.frames g).backing ≡ Some t → f ≡ g
  behind_one t f g a b = let both = slot_one t (Behind f) (Behind g) a b in cc

  pub behind_no_home : (t f : ℕ) (k : Key) → slot_of (record_at l.frames f).backing ≡ Some t → slot_at (l.stands k) ≢ Some t
  behind_no_home t f k a b = let both = slot_one t (Behind f) (Home k) a b in cc

  -- ---- keys

  pub one_frame : (k : Key) (f g : ℕ) → (record_at l.frames f).owner ≡ Some k → (record_at l.frames g).owner ≡ Some k → f ≡ g
  one_frame k f g a b =
      let both : held.Frame (frame f) ≡ held.Frame (frame g) = sym (s.owned.owned f k a) ∙ s.owned.owned g k b in
      let same : frame f ≡ frame g = cc in
      ap (λ (x : Frame). x.0) same

  pub owner_lives : (k : Key) (f : ℕ) → (record_at l.frames f).owner ≡ Some k → is_live l k ≡ true
  owner_lives k f e = ap (λ (h : Held). not (is_dead h)) (s.owned.owned f k e)

  pub frame_there : (k : Key) (f : Frame) → l.stands k ≡ held.Frame f → f.0 < l.machine.frames
  frame_there k f e =
      let low = kept_inside l.frames f.0 (or_left (is_some (record_at l.frames f.0).owner) (has_request (record_at l.frames f.0).request) (ap is_some (s.owned.owner k f e))) in
      omega (arith, s.framed, low)

  -- ---- places

  pub places_counted : CountsPlaces l
  places_counted = record { places = s.shown.places; once = s.shown.once; shares = s.shown.shares; resident = s.shown.resident }

  pub place_shares : (p : Place) (f : Frame) → l.valid p ≡ Some f → 1 ≤ (record_at l.frames f.0).shares
  place_shares p f e = has_shares l.valid l.frames l.sets s.shown p f e

  pub place_owned : (p : Place) (f : Frame) → l.valid p ≡ Some f → is_some (record_at l.frames f.0).owner ≡ true
  place_owned p f e = let some = place_shares p f e in (s.standing f.0).fit.shown (lt-ltb 0 (record_at l.frames f.0).shares (omega (arith, some)))

  pub place_own : (p : Place) (f : Frame) (q : Pid) (v : Vpn) → l.valid p ≡ Some f → (record_at l.frames f.0).owner ≡ Some (Private q v) → Private q v ≡ key_of_place p
  place_own p f q v e o =
      let h = and_parts (q.0 == p.pid.0) (v.0 == p.vpn.0) (s.shown.fits p f (Private q v) e o) in
      let a : q.0 ≡ p.pid.0 = eqb-true q.0 p.pid.0 h.0 in
      let b : v.0 ≡ p.vpn.0 = eqb-true v.0 p.vpn.0 h.1 in
      λ i. Private (record { 0 = a i }) (record { 0 = b i })

  -- ---- requests

  pub requests_counted : length l.flight ≡ count_by (λ r. has_request r.request) l.frames.records
  requests_counted = requests_total l.frames l.flight s.standing

  -- ---- page-file keys

  pub keys_counted : CountsKeys l
  keys_counted = record { keys = s.paged.keys; once = s.paged.once; count = s.paged.long }

  paged_lives : (b : Bool) (h : Held) → b ≡ true → is_home_for b h ≡ true → not (is_dead h) ≡ true
  paged_lives b held.Dead p e = let bad : not b ≡ false = ap not p in cc
  paged_lives b _ p e = refl

  -- a page-file key lives
  pub paging_lives : (k : Key) → l.paging k ≡ true → is_live l k ≡ true
  paging_lives k e = paged_lives (l.paging k) (l.stands k) e (s.homed.home k)

  -- where there is a page-file key there is at least one
  pub some_keys : (k : Key) → l.paging k ≡ true → 1 ≤ l.paging_keys
  some_keys k e = omega (arith, s.paged.once k ∙ ap one_if e, length-left (same_key k) s.paged.keys, s.paged.long)

  -- ---- backings

  file_on : (b : Bool) (x : Backing) → b ≡ false → is_backing_for b x ≡ true → (c : Block) × (x ≡ backing.Block c)
  file_on b (backing.Block c) p e = (c, refl)
  file_on b _ p e = let bad : false ≡ true = sym p ∙ e in cc

  paged_on : (b : Bool) (x : Backing) → b ≡ true → is_backing_for b x ≡ true → slot_of x ≡ None → x ≡ backing.None
  paged_on b (backing.Block c) p e n = let bad : not b ≡ false = ap not p in cc
  paged_on b _ p e n = cc

  -- a file page in a frame has a block
  pub file_backed : (f : ℕ) (k : Key) → (record_at l.frames f).owner ≡ Some k → l.paging k ≡ false → (b : Block) × ((record_at l.frames f).backing ≡ backing.Block b)
  file_backed f k o e = file_on (l.paging k) (record_at l.frames f).backing e (s.homed.backing f k o)

  -- a changed page-file page without a request is on no device
  pub changed_slotless : (f : ℕ) (k : Key) → (record_at l.frames f).owner ≡ Some k → l.paging k ≡ true → (record_at l.frames f).changed ≡ true → has_request (record_at l.frames f).request ≡ false → (record_at l.frames f).backing ≡ backing.None
  changed_slotless f k o e c q = paged_on (l.paging k) (record_at l.frames f).backing e (s.homed.backing f k o) ((s.standing f).fit.dirty c q)

  -- a frame without an owner is on no block
  pub ownerless_unblocked : (f : ℕ) → (record_at l.frames f).owner ≡ None → (b : Block) → (record_at l.frames f).backing ≢ backing.Block b
  ownerless_unblocked f o b e = let bad : None ≡ Some b.0 = sym ((s.standing f).fit.ownerless (ap is_some o)) ∙ ap block_of e in cc

-- ---- a frame on the modified list

pub three_hold : (a b c : Bool) → a ≡ true → b ≡ true → c ≡ true → one_if (a && (b && c)) ≡ 1
three_hold a b c x y z = ap (λ t. one_if (t && (b && c))) x ∙ (ap (λ t. one_if (t && c)) y ∙ ap one_if z)

pub record ModifiedFrame (l : FrameLife) (f : ℕ) : Type 0 where
  pub key : Key
  pub owner : (record_at l.frames f).owner ≡ Some key
  pub owned : is_some (record_at l.frames f).owner ≡ true
  pub unshared : (record_at l.frames f).shares ≡ 0
  pub quiet : has_request (record_at l.frames f).request ≡ false
  pub changed : (record_at l.frames f).changed ≡ true
  pub slotless : slot_of (record_at l.frames f).backing ≡ None
  pub once : times f l.frames.modified ≡ 1
  pub off_standby : times f l.frames.standby ≡ 0
  pub off_flight : times f l.flight ≡ 0
  pub low : f < length l.frames.records
  pub fits : is_backing_for (l.paging key) (record_at l.frames f).backing ≡ true

pub modified_frame : (l : FrameLife) → Sound l → (f : ℕ) → is_on f l.frames.modified ≡ true → ModifiedFrame l f
modified_frame l s f on =
    let st = s.standing f in
    let known = on_modified (sight l.frames l.flight f) st (times_on f l.frames.modified on) in
    let idle = idle_is (record_at l.frames f) known.0 known.1.0 in
    let o = some_owner (record_at l.frames f) known.0 in
    record {
      key = o.0;
      owner = o.1;
      owned = known.0;
      unshared = idle.unshared;
      quiet = idle.quiet;
      changed = known.1.1;
      slotless = st.fit.dirty known.1.1 idle.quiet;
      once = st.modified ∙ three_hold (is_some (record_at l.frames f).owner) (is_idle (record_at l.frames f)) (record_at l.frames f).changed known.0 known.1.0 known.1.1;
      off_standby = st.standby ∙ three_fail (is_some (record_at l.frames f).owner) (is_idle (record_at l.frames f)) (not (record_at l.frames f).changed) (ap not known.1.1);
      off_flight = st.flight ∙ ap one_if idle.quiet;
      low = kept_inside l.frames f idle.kept;
      fits = s.homed.backing f o.0 o.1;
    }

-- ---- what follows of states that a log reaches

pub reached_sound : (l : FrameLife) → ReachedByMoves l → Sound l
reached_sound l r = replay_sound r.moves l r.replays

pub reached_start : ReachedByMoves unstarted
reached_start = record { moves = []; replays = refl }

pub reached_along : (moves : List Move) (l m : FrameLife) → ReachedByMoves l → Replays moves l m → ReachedByMoves m
reached_along moves l m r more = record { moves = r.moves ++ moves; replays = replays_then r.moves moves unstarted l m r.replays more }

pub reached_next : (x : Move) (l : FrameLife) → ReachedByMoves l → IsLegal x l → ReachedByMoves (after_move l x)
reached_next x l r legal = reached_along (x ∷ []) l (after_move l x) r (legal, refl)

-- the most shares of a frame, where no working set has room for more than 65,536 pages
pub share_most : (l : FrameLife) → ReachedByMoves l → ((pid : ℕ) (s : ResidentSet) → set_of l pid ≡ Some s → s.max ≤ 65536) → (f : ℕ) → (record_at l.frames f).shares ≤ 4194304
share_most l reached small f =
    let s = reached_sound l reached in
    omega (arith, share_within l s f, places_most l s 65536 small, (in_range l reached).sets)

-- right after a line has begun
begun_flight : (l : FrameLife) (n : ℕ) (k : LineKind) → length l.flight ≤ l.machine.depth → length (after_at l n k).flight ≤ (after_at l n k).machine.depth
begun_flight l n (kind.Machine frames slots depth blocks) h = omega arith
begun_flight l n _ h = h

pub line_flight : (l : FrameLife) → Sound l → (n : ℕ) (k : LineKind) → IsLegal (move.At n k) l → length (after_move l (move.At n k)).flight ≤ (after_move l (move.At n k)).machine.depth
line_flight l s n k h = begun_flight l n k (at_depth l s n k h)

-- a move and the requests in flight
at_flight : (l : FrameLife) (n : ℕ) (k : LineKind) → length (after_at l n k).flight ≤ length l.flight
at_flight l n (kind.Machine frames slots depth blocks) = omega arith
at_flight l n _ = omega arith

no_more : (l : FrameLife) (q : List ℕ) → length q ≤ length l.flight → length q ≤ length l.flight + one_if (may_begin l)
no_more l q h = omega (arith, h)

one_more : (l : FrameLife) (f : ℕ) → may_begin l ≡ true → length (l.flight ++ f ∷ []) ≤ length l.flight + one_if (may_begin l)
one_more l f b = let one : one_if (may_begin l) ≡ 1 = ap one_if b in let more = length_push l.flight f in omega (arith, one, more)

pub move_flight : (l : FrameLife) (x : Move) → IsLegal x l → length (after_move l x).flight ≤ length l.flight + one_if (may_begin l)
move_flight l (move.At n k) h = no_more l (after_at l n k).flight (at_flight l n k)
move_flight l (move.Drop k) h = no_more l (dropped_at (l.stands k) l k).flight (let e = ap (λ (m : FrameLife). length m.flight) (dropped_as (l.stands k) l k) in omega (arith, e))
move_flight l (move.Read f k) h = one_more l f.0 (begins_read l f.0 k h)
move_flight l (move.Got f) h = no_more l (without f.0 l.flight) (ended_few l.flight f.0)
move_flight l (move.Bad f) h = no_more l (without f.0 l.flight) (ended_few l.flight f.0)
move_flight l (move.Unmap place) h = no_more l (after_unmap_at (l.valid place) l place).flight (let e = ap (λ (m : FrameLife). length m.flight) (unmapped_as (l.valid place) l place) in omega (arith, e))
move_flight l (move.Write f (stored.Slot t)) h = one_more l f.0 (begins_slot l (is_on f.0 l.frames.modified && owner_is l.paging (record_at l.frames f.0) && is_lowest t.0 l.free_slots) h)
move_flight l (move.Write f (stored.Block b)) h = one_more l f.0 (begins_block l ((record_at l.frames f.0).changed && is_some (record_at l.frames f.0).owner && not (has_request (record_at l.frames f.0).request) && is_block b.0 (record_at l.frames f.0).backing) f.0 h)
move_flight l (move.Wrote f) h = no_more l (without f.0 l.flight) (ended_few l.flight f.0)
move_flight l (move.Lost f) h = no_more l (without f.0 l.flight) (ended_few l.flight f.0)
move_flight l (move.Add k None) h = no_more l l.flight (omega arith)
move_flight l _ h = no_more l l.flight (omega arith)

-- a state with a file key is in a line
in_some_line : (l : FrameLife) → ReachedByMoves l → (k : Key) → is_file_key l k ≡ true → 1 ≤ l.line
in_some_line l reached k file = elim (in_line reached.moves l reached.replays) [
  | inl e ↦ let bad : false ≡ true = sym (ap (λ (x : FrameLife). is_file_key x k) e) ∙ file in cc
  | inr on ↦ on
]

-- a file key stays
pub file_key_stays : (l m : FrameLife) → ReachedByMoves l → (moves : List Move) → Replays moves l m → (k : Key) → is_file_key l k ≡ true → is_file_key m k ≡ true
file_key_stays l m reached moves r k file = file_along moves l m k (in_some_line l reached k file) r file

-- ---- blocks

pub block_kept : (l m : FrameLife) → ReachedByMoves l → (moves : List Move) → Replays moves l m → (k : Key) → is_file_key l k ≡ true → block_held m k ≡ block_held l k
block_kept l m reached moves r k file = file_block_along moves l m (reached_sound l reached) (in_some_line l reached k file) r k file

pub blocks_apart : (l : FrameLife) → ReachedByMoves l → Apart l
blocks_apart l reached = replay_apart reached.moves l reached.replays
