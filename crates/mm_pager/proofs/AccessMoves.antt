-- The moves of an access: its pieces, what they leave of the life of the frames, and the device calls that they stand for.
use Rattle.std.proofs.Common.{◌≡◌, ℕ, ◌+◌, ◌≤◌, List, [], ◌∷◌, ◌++◌, refl, sym, ap, ◌∙◌, subst, arith, zero, suc, ◌-◌, Bool, true, false, Option, Some, None, length-set, length, ◌≢◌, inl, inr, ◌⊎◌}
use Rattle.std.specs.Prelude.{count_by, not, is_some, slice_get, map, if◌then◌else◌, slice_set, slice_index_or}
use Rattle.mm_types.specs.{Move, limit_of, MachineOf, Backing, Held, Frame, Key, Place, Direction, Record}
use Rattle.mm_store.specs.{Aim, AccessMove, AccessMoves, ReadFails, touch, block_at, backed_by, in_backing, fetched, with_outcome, with_call, tallied, Served}
use Rattle.mm_store.specs.{told_after, told_through, with_read, with_write, in_slot, in_block, call_of, calls_of}
use Rattle.mm_store.proofs.{accesses_then, fails_then, walked_then}
use Rattle.mm_move_rules.specs.{Walk, Through, walked, walked_all, is_read_move, takes_frame, is_wrote_move, ResidentSet, record_at, FrameLife}
use Rattle.mm_move_rules.specs.{with_resident, resident_by, is_live, is_dead, changed, same_key, key_of_place, after_move, after_unmap_at, Replays, is_on}
use Rattle.mm_move_rules.specs.{SearchMove, FrameTable, blank, settled_by}
use Rattle.mm_state_calls.specs.{StateOf, Made, DoesMoves, walk_of, moved, moved_with_call, StateHolds, IsFlightOf, Searched}
use Rattle.mm_state_calls.proofs.{does_nothing, does_one, does_then, count-append, walked_here}
use Rattle.mm_pager.specs.{Anywhere, Piece, Went, Sought, TakesFrame, IsFresh, walk_at, behind_of, LifeBut, LifeKept, KeepsButNames, IsCalledOn}
use Rattle.mm_pager.specs.{MayUse, OwnOf, store_of, report_of, KeyAdded}
use Rattle.std.proofs.Math.Logic.{∥∥₁_elim}
use Rattle.std.proofs.Props.{props}
use Rattle.mm_types.specs.declared.frames.Backing.TheVariants as backing
use Rattle.mm_types.specs.declared.frames.Held.TheVariants as held
use Rattle.mm_types.specs.declared.moves.Move.TheVariants as move
use Rattle.mm_types.specs.declared.moves.Stored.TheVariants as stored
use Rattle.mm_move_laws.specs.{ReachedByMoves, block_held, block_in, block_of}
use Rattle.mm_move_laws.proofs.{paging_block, reached_sound, block_kept}
use Rattle.mm_store.specs.Told.{Told}
use Rattle.mm_world.specs.Report.{Report}
use Rattle.mm_reclaim.proofs.{moved_called}
use Rattle.mm_types.specs.declared.devices.Direction.TheVariants as way
use Rattle.mm_devices.specs.{DeviceCall, same_direction, Call, logged_call}
use Rattle.mm_world.specs.{Tally}
use Rattle.std.proofs.lemmas.Bool.{or_left}
use Rattle.mm_types.proofs.{same_or_not}
use Rattle.mm_frame_laws.proofs.{on_append, on_left}
use Rattle.mm_move_rules.proofs.{records_settled}

-- ---- the pieces of an access, one behind another

-- ---- pieces

-- these moves are a piece
abbrev pub piece_of : (a : Aim) (E : Walk → Type 0) (b : Bool) (n p o : ℕ) (t : List ℕ) (ms : List Move) (s z : StateOf) → DoesMoves ms s z → Through (AccessMove a) (walk_at t s) ms → E (walked_all (walk_at t s) ms) → ReadFails b ms
    → count_by is_read_move ms ≤ n → count_by is_wrote_move ms + p ≤ count_by takes_frame ms + o → Piece a E b n p o t s z
piece_of a E b n p o t ms s z d h e x r w = record { moves = ms; does = d; each = h; ends = e; fails = x; few_reads = r; few_writes = w }

-- it is one of fewer promises
pub piece_as : {b : Bool} (a : Aim) (E : Walk → Type 0) (m n p o q r : ℕ) (t : List ℕ) (s z : StateOf) → m ≤ n → q + o ≤ p + r → Piece a E b m p o t s z → Piece a E b n q r t s z
piece_as {b = b} a E m n p o q r t s z h l x =
    let reads = x.few_reads in
    let writes = x.few_writes in
    piece_of a E b n q r t x.moves s z x.does x.each x.ends x.fails (omega (arith, reads, h)) (omega (arith, writes, l))

-- wherever it ends
pub piece_anywhere : {b : Bool} (a : Aim) (E : Walk → Type 0) (n : ℕ) (s z : StateOf) → Piece a E b n 0 0 [] s z → Piece a Anywhere b n 0 0 [] s z
piece_anywhere {b = b} a E n s z x = piece_of a Anywhere b n 0 0 [] x.moves s z x.does x.each tt x.fails x.few_reads x.few_writes

pub piece_then : {b : Bool} (a : Aim) (E F : Walk → Type 0) (m p o n q r : ℕ) (s y z : StateOf) (x : Piece a E false m p o [] s y) → Piece a F b n q r (walked_all (walk_of s) x.moves).tried y z → Piece a F b (m + n) (p + q) (o + r) [] s z
piece_then {b = b} a E F m p o n q r s y z x w =
    let at = walked_here x.moves s y x.does in
    let reads = x.few_reads in
    let more_reads = w.few_reads in
    let writes = x.few_writes in
    let more_writes = w.few_writes in
    piece_of a F b (m + n) (p + q) (o + r) [] (x.moves ++ w.moves) s z (does_then x.moves w.moves s y z x.does w.does)
    (accesses_then a x.moves w.moves (walk_of s) x.each (subst (λ (v : Walk). Through (AccessMove a) v w.moves) (sym at) w.each))
    (subst F (sym (walked_then x.moves w.moves (walk_of s) ∙ ap (λ (v : Walk). walked_all v w.moves) at)) w.ends)
    (fails_then b x.moves w.moves x.fails w.fails)
    (omega (arith, reads, more_reads, count-append is_read_move x.moves w.moves))
    (omega (arith, writes, more_writes, count-append is_wrote_move x.moves w.moves, count-append takes_frame x.moves w.moves))

pub went_then : {b : Bool} (a : Aim) (E : Walk → Type 0) (m n : ℕ) (s t z : StateOf) → Went a m s t → Piece a E b n 0 0 [] t z → Piece a E b (m + n) 0 0 [] s z
went_then {b = b} a E m n s t z p q = piece_then a IsFresh E m 0 0 n 0 0 s t z p (subst (λ (u : List ℕ). Piece a E b n 0 0 u t z) (sym p.ends) q)

-- a frame is found, and taken
pub sought_then : {b : Bool} (a : Aim) (E : Walk → Type 0) (n : ℕ) (s t z : StateOf) → Sought a s t → TakesFrame a E b n t z → Piece a E b n 0 0 [] s z
sought_then a E n s t z p q = piece_as a E (0 + n) n 1 1 0 0 [] s z (omega arith) (omega arith) (piece_then a Anywhere E 0 0 1 n 1 0 s t z p (q (walked_all (walk_of s) p.moves).tried))

-- a frame is taken that was there
pub took_at_once : {b : Bool} (a : Aim) (E : Walk → Type 0) (n : ℕ) (s z : StateOf) → TakesFrame a E b n s z → Piece a E b n 0 0 [] s z
took_at_once a E n s z q = piece_as a E n n 1 0 0 0 [] s z (omega arith) (omega arith) (q [])

pub went_nothing : (a : Aim) (reads : ℕ) (s : StateOf) → Went a reads s s
went_nothing a reads s = piece_of a IsFresh false reads 0 0 [] [] s s (does_nothing s) tt refl refl (omega arith) (omega arith)

-- one move, which is none of a device
pub went_one : (a : Aim) (x : Move) (s z : StateOf) → Made x s z → AccessMove a (walk_at [] s) x [] → IsFresh (walked (walk_at [] s) x) → ReadFails false (x ∷ []) → count_by is_read_move (x ∷ []) ≤ 0 → count_by is_wrote_move (x ∷ []) + 0 ≤ count_by takes_frame (x ∷ []) + 0 → Went a 0 s z
went_one a x s z m h e b r w = piece_of a IsFresh false 0 0 0 [] (x ∷ []) s z (does_one x s z m) (h, tt) e b r w

-- a move in front, of which a search learns nothing
unfoldable pub move_front : {b : Bool} (a : Aim) (E : Walk → Type 0) (x : Move) (n : ℕ) (s y z : StateOf) → Made x s y → ((t : List ℕ) → (walked (walk_at t s) x).tried ≡ t) → ReadFails false (x ∷ []) → count_by is_read_move (x ∷ []) ≡ 0 → count_by is_wrote_move (x ∷ []) ≡ 0
    → (q : TakesFrame a E b n y z) → ((t : List ℕ) → AccessMove a (walk_at t s) x (q t).moves) → TakesFrame a E b n s z
move_front {b = b} a E x n s y z m e fine r w q h = λ t.
    let p = q t in
    let reads = p.few_reads in
    let writes = p.few_writes in
    let at : walked (walk_at t s) x ≡ walk_at t y = λ i. record { life = sym m.life i; ages = sym m.ages i; tried = e t i } in
    piece_of a E b n 1 0 t (x ∷ p.moves) s z (does_then (x ∷ []) p.moves s y z (does_one x s y m) p.does) (h t, subst (λ (v : Walk). Through (AccessMove a) v p.moves) (sym at) p.each)
    (subst (λ (v : Walk). E (walked_all v p.moves)) (sym at) p.ends)
    (fails_then b (x ∷ []) p.moves fine p.fails)
    (omega (arith, reads, r, count-append is_read_move (x ∷ []) p.moves))
    (omega (arith, writes, w, count-append is_wrote_move (x ∷ []) p.moves, count-append takes_frame (x ∷ []) p.moves))

-- ---- as the boundary tells it

pub made_by : {b : Bool} (a : Aim) (E : Walk → Type 0) (n : ℕ) (s z : StateOf) (x : Piece a E b n 0 0 [] s z) → n ≤ 1 → AccessMoves a (behind_of s) x.moves
made_by a E n s z x h =
    let reads = x.few_reads in
    let writes = x.few_writes in
    record { each = x.each; one_read = omega (arith, reads, h); few_writes = omega (arith, writes) }

-- ---- what the moves of an access that makes no copy leave of the life of the frames

pub kept_same : (l : FrameLife) → LifeKept l l
kept_same l = record { machine = refl; line = refl; kind = refl; paging = refl; keys = refl; pids = refl; added = refl }

pub but_then : (p : Key → Bool) (n : ℕ) (l m o : FrameLife) → LifeBut p n l m → LifeKept m o → LifeBut p n l o
but_then p n l m o a w = record { machine = w.machine ∙ a.machine; line = w.line ∙ a.line; kind = w.kind ∙ a.kind; paging = w.paging ∙ a.paging; keys = w.keys ∙ a.keys; pids = w.pids ∙ a.pids; added = w.added ∙ a.added }

pub kept_then : (l m n : FrameLife) → LifeKept l m → LifeKept m n → LifeKept l n
kept_then l m n p q = but_then l.paging l.paging_keys l m n p q

-- a key comes to be, behind and before what moves within a line leave
pub added_then : (k : Key) (l m n : FrameLife) → KeyAdded k l m → LifeKept m n → KeyAdded k l n
added_then k l m n a w = but_then (changed same_key l.paging k true) (l.paging_keys + 1) l m n a w

pub added_behind : (k : Key) (l m n : FrameLife) → LifeKept l m → KeyAdded k m n → KeyAdded k l n
added_behind k l m n w a = record {
  machine = a.machine ∙ w.machine;
  line = a.line ∙ w.line;
  kind = a.kind ∙ w.kind;
  paging = a.paging ∙ ap (λ (p : Key → Bool). changed same_key p k true) w.paging;
  keys = a.keys ∙ ap (λ (n : ℕ). n + 1) w.keys;
  pids = a.pids ∙ w.pids;
  added = a.added ∙ w.added;
}

resident_length : (o : Option ResidentSet) (sets : List ResidentSet) (k : ℕ) (f : ℕ → ℕ) → length (resident_by o sets k f) ≡ length sets
resident_length None sets k f = refl
resident_length (Some s) sets k f = length-set sets k _

with_length : (sets : List ResidentSet) (pid : ℕ) (f : ℕ → ℕ) → length (with_resident sets pid f) ≡ length sets
with_length sets zero f = refl
with_length sets (suc k) f = resident_length (slice_get sets k) sets k f

pub kept_unmap : (l : FrameLife) (p : Place) (o : Option Frame) → LifeKept l (after_unmap_at o l p)
kept_unmap l p None = kept_same l
kept_unmap l p (Some f) = record { machine = refl; line = refl; kind = refl; paging = refl; keys = refl; pids = with_length l.sets p.pid.0 (λ n. n - 1); added = refl }

-- moves that neither begin a line nor add or drop a key
abbrev pub IsWithin : Move → Type 0
IsWithin (move.At n k) = ⊥
IsWithin (move.Add k b) = ⊥
IsWithin (move.Drop k) = ⊥
IsWithin m = Unit {0}

pub kept_within : (l : FrameLife) (m : Move) → IsWithin m → LifeKept l (after_move l m)
kept_within l (move.At n k) h = absurd h
kept_within l (move.Add k b) h = absurd h
kept_within l (move.Drop k) h = absurd h
kept_within l (move.Map f p) h = record { machine = refl; line = refl; kind = refl; paging = refl; keys = refl; pids = with_length l.sets p.pid.0 (λ n. n + 1); added = refl }
kept_within l (move.Unmap p) h = kept_unmap l p (l.valid p)
kept_within l (move.Write f (stored.Slot s)) h = record { machine = refl; line = refl; kind = refl; paging = refl; keys = refl; pids = refl; added = refl }
kept_within l m h = record { machine = refl; line = refl; kind = refl; paging = refl; keys = refl; pids = refl; added = refl }

pub kept_made : (m : Move) (s z : StateOf) → Made m s z → IsWithin m → LifeKept s.life z.life
kept_made m s z made h = subst (λ (l : FrameLife). LifeKept s.life l) (sym made.life) (kept_within s.life m h)

kept_one : (a : Aim) (w : Walk) (m : Move) (ms : List Move) → a.need.copy ≡ None → AccessMove a w m ms → LifeKept w.life (after_move w.life m)
kept_one a w (move.At n k) ms c h = absurd h
kept_one a w (move.Add k None) ms c h = let bad : None ≡ Some k = sym c ∙ h.0 in cc
kept_one a w (move.Add k (Some b)) ms c h = absurd h
kept_one a w (move.Drop k) ms c h = absurd h
kept_one a w m ms c h = kept_within w.life m tt

pub kept_all : (a : Aim) (ms : List Move) (w : Walk) (m : FrameLife) → a.need.copy ≡ None → Through (AccessMove a) w ms → Replays ms w.life m → LifeKept w.life m
kept_all a [] w m c h r = subst (λ (l : FrameLife). LifeKept w.life l) (sym r) (kept_same w.life)
kept_all a (x ∷ xs) w m c h r = kept_then w.life (after_move w.life x) m (kept_one a w x xs c h.0) (kept_all a xs (walked w x) m c h.1 r.1)

-- what an access of a page is about that makes no copy
abbrev pub aim_at : Bool → Key → Place → StateOf → Aim
aim_at w k place s = record { place = place; need = touch k; writes = w; start = s.life }

pub piece_life : {b : Bool} (a : Aim) (E : Walk → Type 0) (n p o : ℕ) (s z : StateOf) → a.need.copy ≡ None → Piece a E b n p o [] s z → LifeKept s.life z.life
piece_life a E n p o s z c x = kept_all a x.moves (walk_of s) z.life c x.each x.does.replays

-- ---- blocks of keys

same_block : (b : Backing) → block_at (in_backing b) ≡ block_of b
same_block backing.None = refl
same_block b = refl

shown_block : (l : FrameLife) (h : Held) → block_at (backed_by l h) ≡ block_in l.frames h
shown_block l (held.Frame f) = same_block (record_at l.frames f.0).backing
shown_block l h = refl

dead_block : (l : FrameLife) (h : Held) → not (is_dead h) ≡ false → block_in l.frames h ≡ None
dead_block l held.Dead e = refl
dead_block l h e = cc

blocks_by : (l m : FrameLife) (ms : List Move) (k : Key) → ReachedByMoves l → ReachedByMoves m → Replays ms l m → m.paging k ≡ l.paging k → is_live m k ≡ is_live l k → (x y : Bool) → is_live l k ≡ x → l.paging k ≡ y → block_held m k ≡ block_held l k
blocks_by l m ms k p q r pg lv true true e f = paging_block m (reached_sound m q) k (pg ∙ f) ∙ sym (paging_block l (reached_sound l p) k f)
blocks_by l m ms k p q r pg lv true false e f = block_kept l m p ms r k (grind (arith, e, f))
blocks_by l m ms k p q r pg lv false y e f = dead_block m (m.stands k) (lv ∙ e) ∙ sym (dead_block l (l.stands k) e)

-- a key has the block that it had, where it lives as it did
pub block_same : (s z : StateOf) (ms : List Move) → StateHolds s → StateHolds z → Replays ms s.life z.life → (k : Key) → z.life.paging k ≡ s.life.paging k → is_some (z.contents k) ≡ is_some (s.contents k)
    → block_at (backed_by z.life (z.life.stands k)) ≡ block_at (backed_by s.life (s.life.stands k))
block_same s z ms h g r k pg c =
    shown_block z.life (z.life.stands k)
    ∙ ∥∥₁_elim h.reached (hlevel props) (λ p. ∥∥₁_elim g.reached (hlevel props) (λ q.
    blocks_by s.life z.life ms k p q r pg (g.live k ∙ c ∙ sym (h.live k)) (is_live s.life k) (s.life.paging k) refl refl))
    ∙ sym (shown_block s.life (s.life.stands k))

-- a page-file key has none, nor has one that is dead
pub paging_has_none : (s : StateOf) (k : Key) → StateHolds s → s.life.paging k ≡ true → block_at (backed_by s.life (s.life.stands k)) ≡ None
paging_has_none s k h e = shown_block s.life (s.life.stands k) ∙ ∥∥₁_elim h.reached (hlevel props) (λ r. paging_block s.life (reached_sound s.life r) k e)

pub dead_has_none : (s : StateOf) (k : Key) → StateHolds s → s.contents k ≡ None → block_at (backed_by s.life (s.life.stands k)) ≡ None
dead_has_none s k h e = shown_block s.life (s.life.stands k) ∙ dead_block s.life (s.life.stands k) (h.live k ∙ ap is_some e)

pub blocks_kept : (s z : StateOf) (ms : List Move) → StateHolds s → StateHolds z → Replays ms s.life z.life → z.life.paging ≡ s.life.paging → z.contents ≡ s.contents → (k : Key) → block_at (backed_by z.life (z.life.stands k)) ≡ block_at (backed_by s.life (s.life.stands k))
blocks_kept s z ms h g r pg c k = block_same s z ms h g r k (ap (λ (f : Key → Bool). f k) pg) (ap (λ (f : Key → Option (List ℕ)). is_some (f k)) c)

-- ---- the store after it

-- a report with the counts of these calls
abbrev pub with_told : Report → Told → Report
with_told r t = record r {
  paging_reads = t.paging_reads;
  paging_writes = t.paging_writes;
  file_reads = t.file_reads;
  file_writes = t.file_writes;
  last_failed_read = t.last_failed_read;
  search_writes = t.search_writes;
}

pub fetched_by : (s z : StateOf) (o u : OwnOf) → LifeKept s.life z.life → ((k : Key) → block_at (backed_by z.life (z.life.stands k)) ≡ block_at (backed_by s.life (s.life.stands k)))
    → z.is_open ≡ s.is_open → z.areas ≡ s.areas → z.bound ≡ s.bound → u.extended ≡ o.extended → u.blocks_used ≡ o.blocks_used
    → store_of z u ≡ record (fetched (store_of s o) (store_of z u)) { names = z.names }
fetched_by s z o u k b opened areas bound ext used = λ i. record {
  machine = k.machine i;
  is_open = opened i;
  areas = areas i;
  bound = bound i;
  names = z.names;
  paging = k.paging i;
  paging_keys = k.keys i;
  room = limit_of (k.machine i);
  block_of = λ key. b key i;
  blocks_used = used i;
  file_blocks = z.blocks;
  line = k.line i;
  kind = k.kind i;
  last_pid = k.pids i;
  ready = u.ready;
  report = record (report_of z u) { extended = ext i };
  paging_device = z.paging;
  file_device = z.files;
}

-- after moves and calls of devices
pub called_store : (ms : List Move) (s z : StateOf) (o u : OwnOf) → Replays ms s.life z.life → LifeKept s.life z.life → IsCalledOn s z → StateHolds s → StateHolds z → u.extended ≡ o.extended → u.blocks_used ≡ o.blocks_used
    → store_of z u ≡ record (fetched (store_of s o) (store_of z u)) { names = z.names }
called_store ms s z o u r l e h g ext used =
    fetched_by s z o u l (blocks_kept s z ms h g r l.paging (ap (λ (x : StateOf). x.contents) e))
    (ap (λ (x : StateOf). x.is_open) e) (ap (λ (x : StateOf). x.areas) e) (ap (λ (x : StateOf). x.bound) e) ext used

pub stored_same : (s z : StateOf) → LifeKept s.life z.life → StateHolds s → StateHolds z → length z.blocks ≡ length s.blocks
stored_same s z l h g = g.blocks ∙ ap (λ (n : MachineOf). n.blocks) l.machine ∙ sym h.blocks

-- ---- what of the state stays

-- no device was called
pub moved_on : (s z : StateOf) (n : Place → Option Key) (a : Option Place) → z ≡ record (moved s z) { names = n; aside = a } → z ≡ record (moved_with_call s z) { names = n; aside = a }
moved_on s z n a e = e ∙ (λ i. record (moved s z) {
  names = n;
  aside = a;
  paging = ap (λ (t : StateOf). t.paging) (sym e) i;
  files = ap (λ (t : StateOf). t.files) (sym e) i;
  slots = ap (λ (t : StateOf). t.slots) (sym e) i;
  blocks = ap (λ (t : StateOf). t.blocks) (sym e) i;
})

pub keeps_then : (s y z : StateOf) → KeepsButNames s y → KeepsButNames y z → KeepsButNames s z
keeps_then s y z a b = record {
  kind = b.kind ∙ a.kind;
  unmapped = λ p h. b.unmapped p (a.unmapped p h);
  same = b.same ∙ ap (λ (x : StateOf). record (moved_with_call x z) { names = z.names }) a.same;
}

pub called_on : (s z : StateOf) → z ≡ moved_with_call s z → IsCalledOn s z
called_on s z e = e ∙ ap (λ (n : Place → Option Key). record (moved_with_call s z) { names = n }) (sym (ap (λ (x : StateOf). x.names) e))

-- after a call of devices
pub keeps_called : (s z : StateOf) → z.life.kind ≡ s.life.kind → z.life.valid ≡ s.life.valid → z ≡ moved_with_call s z → KeepsButNames s z
keeps_called s z k v e = record { kind = k; unmapped = λ p h. ap (λ (f : Place → Option Frame). f p) v ∙ h; same = called_on s z e }

pub may_use_then : (k : Key) (place : Place) (s z : StateOf) → IsCalledOn s z → MayUse k place s → MayUse k place z
may_use_then k place s z e m = record {
  bound = ap (λ (x : StateOf). x.bound place) e ∙ m.bound;
  fits = m.fits;
  alone = λ h. ap (λ (x : StateOf). x.contents (key_of_place place)) e ∙ m.alone h;
  aside = ap (λ (x : StateOf). x.aside) e ∙ m.aside;
}

pub may_use_moved : (k : Key) (place : Place) (s z : StateOf) → z ≡ moved s z → MayUse k place s → MayUse k place z
may_use_moved k place s z e m = may_use_then k place s z (called_on s z (moved_called s z e)) m

-- ---- the report's counts, by the device calls that moves stand for

abbrev pub counted : Direction → List DeviceCall → Tally → Tally
counted d [] t = t
counted d (c ∷ cs) t = counted d cs (if same_direction d c.direction then with_outcome c.succeeded t else t)

counted_then : (d : Direction) (cs ds : List DeviceCall) (t : Tally) → counted d (cs ++ ds) t ≡ counted d ds (counted d cs t)
counted_then d [] ds t = refl
counted_then d (c ∷ cs) ds t = counted_then d cs ds _

tallied_is : (d : Direction) (cs : List Call) (t : Tally) → tallied d cs t ≡ counted d (map logged_call cs) t
tallied_is d [] t = refl
tallied_is d (c ∷ cs) t = tallied_is d cs (with_call d c t)

-- the four counts, by these calls of the two devices
pub record Counts (ps fs : List DeviceCall) (t u : Told) : Type 0 where
  pub paging_reads : u.paging_reads ≡ counted way.Read ps t.paging_reads
  pub paging_writes : u.paging_writes ≡ counted way.Write ps t.paging_writes
  pub file_reads : u.file_reads ≡ counted way.Read fs t.file_reads
  pub file_writes : u.file_writes ≡ counted way.Write fs t.file_writes

-- a line does not begin
abbrev pub InLine : List Move → Type 0
InLine [] = Unit {0}
InLine (move.At n k ∷ ms) = ⊥
InLine (m ∷ ms) = InLine ms

counts_then : (ps qs fs gs : List DeviceCall) (t v u : Told) → Counts ps fs t v → Counts qs gs v u → Counts (ps ++ qs) (fs ++ gs) t u
counts_then ps qs fs gs t v u a h = record {
  paging_reads = h.paging_reads ∙ ap (counted way.Read qs) a.paging_reads ∙ sym (counted_then way.Read ps qs _);
  paging_writes = h.paging_writes ∙ ap (counted way.Write qs) a.paging_writes ∙ sym (counted_then way.Write ps qs _);
  file_reads = h.file_reads ∙ ap (counted way.Read gs) a.file_reads ∙ sym (counted_then way.Read fs gs _);
  file_writes = h.file_writes ∙ ap (counted way.Write gs) a.file_writes ∙ sym (counted_then way.Write fs gs _);
}

-- of one device call
one_read : (ok : Bool) (b : Backing) (t : Told) → Counts (in_slot way.Read ok b) (in_block way.Read ok b) t (with_read ok b t)
one_read ok backing.None t = record { paging_reads = refl; paging_writes = refl; file_reads = refl; file_writes = refl }
one_read ok b t = record { paging_reads = refl; paging_writes = refl; file_reads = refl; file_writes = refl }

one_write : (ok : Bool) (b : Backing) (t : Told) → Counts (in_slot way.Write ok b) (in_block way.Write ok b) t (with_write ok b t)
one_write ok backing.None t = record { paging_reads = refl; paging_writes = refl; file_reads = refl; file_writes = refl }
one_write ok b t = record { paging_reads = refl; paging_writes = refl; file_reads = refl; file_writes = refl }

count_one : (l : FrameLife) (m : Move) (t : Told) → InLine (m ∷ []) → Counts (call_of in_slot l m) (call_of in_block l m) t (told_after l m t)
count_one l (move.At n k) t h = absurd h
count_one l (move.Got f) t h = one_read true (record_at l.frames f.0).backing t
count_one l (move.Bad f) t h = let o = one_read false (record_at l.frames f.0).backing t in record { paging_reads = o.paging_reads; paging_writes = o.paging_writes; file_reads = o.file_reads; file_writes = o.file_writes }
count_one l (move.Wrote f) t h = one_write true (record_at l.frames f.0).backing t
count_one l (move.Lost f) t h = one_write false (record_at l.frames f.0).backing t
count_one l m t h = record { paging_reads = refl; paging_writes = refl; file_reads = refl; file_writes = refl }

first_in_line : (m : Move) (ms : List Move) → InLine (m ∷ ms) → InLine (m ∷ []) × InLine ms
first_in_line (move.At n k) ms h = absurd h
first_in_line m ms h = (tt, h)

counts_all : (ms : List Move) (l : FrameLife) (t : Told) → InLine ms → Counts (calls_of in_slot l ms) (calls_of in_block l ms) t (told_through l ms t)
counts_all [] l t h = record { paging_reads = refl; paging_writes = refl; file_reads = refl; file_writes = refl }
counts_all (m ∷ ms) l t h =
    let lines = first_in_line m ms h in
    counts_then (call_of in_slot l m) (calls_of in_slot (after_move l m) ms) (call_of in_block l m) (calls_of in_block (after_move l m) ms) t (told_after l m t) (told_through l (m ∷ ms) t)
    (count_one l m t lines.0) (counts_all ms (after_move l m) (told_after l m t) lines.1)

-- each call is one of the devices'
pub served_by : (ms : List Move) (s z : StateOf) (o u : OwnOf) → InLine ms → DoesMoves ms s z → Served (store_of s o) (store_of z u)
served_by ms s z o u h d =
    let c = counts_all ms s.life s.told h in
    record {
      paging_calls = d.paging_calls;
      file_calls = d.file_calls;
      paging = d.paging;
      files = d.files;
      paging_reads = ap (λ (t : Told). t.paging_reads) d.told ∙ c.paging_reads ∙ ap (λ (cs : List DeviceCall). counted way.Read cs s.told.paging_reads) (sym d.paging_are) ∙ sym (tallied_is way.Read d.paging_calls s.told.paging_reads);
      paging_writes = ap (λ (t : Told). t.paging_writes) d.told ∙ c.paging_writes ∙ ap (λ (cs : List DeviceCall). counted way.Write cs s.told.paging_writes) (sym d.paging_are) ∙ sym (tallied_is way.Write d.paging_calls s.told.paging_writes);
      file_reads = ap (λ (t : Told). t.file_reads) d.told ∙ c.file_reads ∙ ap (λ (cs : List DeviceCall). counted way.Read cs s.told.file_reads) (sym d.files_are) ∙ sym (tallied_is way.Read d.file_calls s.told.file_reads);
      file_writes = ap (λ (t : Told). t.file_writes) d.told ∙ c.file_writes ∙ ap (λ (cs : List DeviceCall). counted way.Write cs s.told.file_writes) (sym d.files_are) ∙ sym (tallied_is way.Write d.file_calls s.told.file_writes);
    }

-- ---- what was in flight when an access began is so still, but the page's own read

-- ---- lists

pushed_on : (g f : ℕ) (xs : List ℕ) → is_on g xs ≡ true → is_on g (xs ++ f ∷ []) ≡ true
pushed_on g f xs h = on_append g xs (f ∷ []) ∙ or_left (is_on g xs) (is_on g (f ∷ [])) h

-- ---- of a state

pub flight_same : (flight : List ℕ) (pin : Option Frame) (l : FrameLife) → l.flight ≡ flight → IsFlightOf flight pin l
flight_same flight pin l e = λ g h. inl (ap (λ (xs : List ℕ). is_on g.0 xs) e ∙ h)

pub flight_then : (flight : List ℕ) (pin : Option Frame) (l m : FrameLife) → IsFlightOf flight None l → IsFlightOf l.flight pin m → IsFlightOf flight pin m
flight_then flight pin l m p q = λ g h. elim (p g h) [
  | inl e ↦ q g e
  | inr e ↦ let bad : None ≡ Some g = e in cc
]

pub flight_on : (flight : List ℕ) (pin : Option Frame) (l m : FrameLife) → IsFlightOf flight pin l → m.flight ≡ l.flight → IsFlightOf flight pin m
flight_on flight pin l m p q = λ g h. elim (p g h) [
  | inl e ↦ inl (ap (λ (xs : List ℕ). is_on g.0 xs) q ∙ e)
  | inr e ↦ inr e
]

-- ---- a read that ends

pub got_flight : (f : Frame) (s z : StateOf) → Made (move.Got f) s z → IsFlightOf s.life.flight (Some f) z.life
got_flight f s z m = λ g h. elim (same_or_not g.0 f.0) [
  | inl e ↦ inr (ap (λ (n : ℕ). Some (record { 0 = n })) (sym e))
  | inr n ↦ inl (ap (λ (l : FrameLife). is_on g.0 l.flight) m.life ∙ on_left g.0 f.0 s.life.flight n h)
]

pub read_flight : (k : Key) (f : Frame) (s y z : StateOf) → Made (move.Read f k) s y → Made (move.Got f) y z → IsFlightOf s.life.flight (Some f) z.life
read_flight k f s y z m n = λ g h. got_flight f y z n g (ap (λ (l : FrameLife). is_on g.0 l.flight) m.life ∙ pushed_on g.0 f.0 s.life.flight h)

-- ---- a search

others_stay : (flight xs : List ℕ) (f g : ℕ) → is_on f flight ≡ false → is_on g flight ≡ true → g ≢ f
others_stay flight xs f g off on = λ e. let bad : true ≡ false = sym on ∙ ap (λ (n : ℕ). is_on n flight) e ∙ off in cc

unmap_flight : (l : FrameLife) (p : Place) (o : Option Frame) → (after_unmap_at o l p).flight ≡ l.flight
unmap_flight l p None = refl
unmap_flight l p (Some f) = refl

pub unmapped_flight : (l m : FrameLife) (p : Place) → m ≡ after_move l (move.Unmap p) → m.flight ≡ l.flight
unmapped_flight l m p e = ap (λ (x : FrameLife). x.flight) e ∙ unmap_flight l p (l.valid p)

ended_flight : (flight : List ℕ) (pin : Option Frame) (f : Frame) (l m : FrameLife) → (on : (g : ℕ) → g ≢ f.0 → is_on g l.flight ≡ true → is_on g m.flight ≡ true) → is_on f.0 flight ≡ false → IsFlightOf flight pin l → IsFlightOf flight pin m
ended_flight flight pin f l m on off p = λ g h. elim (p g h) [
  | inl e ↦ inl (on g.0 (others_stay flight l.flight f.0 g.0 off h) e)
  | inr e ↦ inr e
]

flight_one : (pin : Option Frame) (flight : List ℕ) (w : Walk) (m : Move) (ms : List Move) → SearchMove pin flight w m ms → IsFlightOf flight pin w.life → IsFlightOf flight pin (after_move w.life m)
flight_one pin flight w (move.Write f (stored.Slot s)) ms h p = λ g o. elim (p g o) [ inl e ↦ inl (pushed_on g.0 f.0 w.life.flight e) | inr e ↦ inr e ]
flight_one pin flight w (move.Write f (stored.Block b)) ms h p = λ g o. elim (p g o) [ inl e ↦ inl (pushed_on g.0 f.0 w.life.flight e) | inr e ↦ inr e ]
flight_one pin flight w (move.Wrote f) ms h p = ended_flight flight pin f w.life (after_move w.life (move.Wrote f)) (λ g n e. on_left g f.0 w.life.flight n e) h p
flight_one pin flight w (move.Lost f) ms h p = ended_flight flight pin f w.life (after_move w.life (move.Lost f)) (λ g n e. on_left g f.0 w.life.flight n e) h p
flight_one pin flight w (move.Unmap q) ms h p = flight_on flight pin w.life (after_move w.life (move.Unmap q)) p (unmapped_flight w.life _ q refl)
flight_one pin flight w m ms h p = absurd h

flight_all : (pin : Option Frame) (flight : List ℕ) (ms : List Move) (w : Walk) (m : FrameLife) → Through (SearchMove pin flight) w ms → Replays ms w.life m → IsFlightOf flight pin w.life → IsFlightOf flight pin m
flight_all pin flight [] w m h r p = flight_on flight pin w.life m p (ap (λ (l : FrameLife). l.flight) r)
flight_all pin flight (x ∷ xs) w m h r p = flight_all pin flight xs (walked w x) m h.1 r.1 (flight_one pin flight w x xs h.0 p)

pub search_flight : (found : Bool) (s z : StateOf) → Searched None found s z → IsFlightOf s.life.flight None z.life
search_flight found s z h =
    let all = flight_same s.life.flight None s.life refl in
    flight_all None s.life.flight h.moves (walk_of s) z.life (h.each s.life.flight all) h.does.replays all

-- ---- the record of a frame after a move

-- the record is the new one, or no frame has this number
pub set_there : (xs : List Record) (f : ℕ) (r : Record) → (slice_index_or (slice_set xs f r) f blank ≡ r) ⊎ ((slice_index_or (slice_set xs f r) f blank ≡ blank) × (slice_index_or xs f blank ≡ blank))
set_there [] f r = inr (refl, refl)
set_there (x ∷ xs) zero r = inl refl
set_there (x ∷ xs) (suc f) r = set_there xs f r

-- what is looked at in the records, where one changes
pub look_set : {A : Type 0} (look : Record → A) (xs : List Record) (f g : ℕ) (r : Record) → look r ≡ look (slice_index_or xs f blank) → look (slice_index_or (slice_set xs f r) g blank) ≡ look (slice_index_or xs g blank)
look_set look [] f g r e = refl
look_set look (x ∷ xs) zero zero r e = e
look_set look (x ∷ xs) zero (suc g) r e = refl
look_set look (x ∷ xs) (suc f) zero r e = refl
look_set look (x ∷ xs) (suc f) (suc g) r e = look_set look xs f g r e

pub settled_record : (t : Record) (d : FrameTable) (f g : ℕ) → record_at (settled_by t d f) g ≡ record_at d g
settled_record t d f g = ap (λ (xs : List Record). slice_index_or xs g blank) (records_settled t d f)
