-- How an access of a thread begins: its pieces, why it waits, and what the store shows then.
use Rattle.std.proofs.Common.{◌≡◌, ℕ, Bool, true, false, List, [], ◌∷◌, Option, Some, None, refl, sym, ap, ◌∙◌, arith, inl, inr, ◌⊎◌, length, ◌≤◌, subst}
use Rattle.std.specs.Prelude.{not, is_some, ◌&&◌, ◌||◌, ◌==◌, nat_le, nat_lt, if◌then◌else◌, is_none}
use Rattle.mm_types.specs.{Why, Held, LineKind, Frame, Key, Place, Wait}
use Rattle.mm_types.specs.declared.answers.Why.TheVariants as why
use Rattle.mm_types.specs.declared.frames.Held.TheVariants as held
use Rattle.mm_types.specs.declared.moves.LineKind.TheVariants as kind
use Rattle.mm_types.specs.declared.moves.Move.TheVariants as move
use Rattle.mm_move_rules.specs.{record_at, is_read, is_empty, FrameLife, is_zero, is_stored, is_short, is_thread, is_access, has_depth, fits_place, is_live, IsLegal}
use Rattle.mm_move_rules.specs.{is_touch, Waiting, wait_of}
use Rattle.mm_move_laws.proofs.{changed_here}
use Rattle.mm_types.proofs.{or_true, both}
use Rattle.mm_world.specs.{Whereabouts, InFrame, BeingRead, AtZero, InStore, is_short as report_is_short, is_being_read, is_in_store, pending}
use Rattle.mm_world.specs.{still_needs_frame, has_frame}
use Rattle.mm_store.specs.{Aim, waits_at_once, is_framed, where_of, Need, Start, Starts, IsHeldUp, is_read_in_flight, wants_frame, wait_begun, touch, copying, need_for, wait_after, Passes}
use Rattle.mm_store.specs.{started, no_calls, fetched, Ready, own_key}
use Rattle.mm_move_rules.specs.{changed}
use Rattle.mm_store.specs.declared.outcomes.Need.TheVariants as need
use Rattle.mm_store.specs.declared.outcomes.Start.TheVariants as start
use Rattle.mm_parts.specs.{front_for_read, own_after, is_own_line}
use Rattle.mm_state_calls.specs.{StateOf, Made, moved, moved_with_call, StateHolds}
use Rattle.mm_pager.specs.{Went, IsFresh, FreeNow, GivesFrame, PutsAtPlace, OwnOf, report_of, AccessCame, AccessBegun, IsBeingRead, IsFull, IsUncopied, PutsFor, WantsFrame, answered}
use Rattle.mm_pager.specs.{reason_at_once, needs_copy, LifeKept, StoreKept, store_of, behind_of, ready_after}
use Rattle.mm_pager.proofs.AccessMoves.{piece_as, went_then, went_nothing, took_at_once, called_on, aim_at, piece_life, called_store, with_told, made_by}
use Rattle.mm_pager.proofs.FaultSteps.{zero_unframed}
use Rattle.mm_pager.proofs.Ending.{named_by, unframed_has}
use Rattle.mm_pager.proofs.Taking.{freed_ready, read_legal, reads_for, stored_unframed, took_read, uncopied_then, wants_copy, wants_unframed}
use Rattle.mm_reclaim.proofs.{moved_called}
use Rattle.mm_store.specs.Told.{Told}
use Rattle.mm_pager.proofs.Shows.{Rests, rests_through, thread_touches, stands_nowhere, passes_beside}

-- ---- how an access of a thread begins: its pieces, and why it waits

-- ---- why it waits at once

abbrev once_by : Option Whereabouts → ℕ → ℕ → Bool → Option Why
once_by w depth requests short =
    if is_being_read w then Some why.Read
    else if is_in_store w && nat_le depth requests then Some why.Full
    else if is_in_store w && not short then Some why.Read
    else None

-- the reason, by where the page is
abbrev AtOnce : Option Whereabouts → Key → StateOf → OwnOf → Type 0
AtOnce w k s o = waits_at_once s.life.machine.depth k (report_of s o) ≡ once_by w s.life.machine.depth (length s.life.flight) (report_is_short (report_of s o))

once_where : (w : Option Whereabouts) (k : Key) (s : StateOf) (o : OwnOf) → where_of s.life (s.life.stands k) ≡ w → AtOnce w k s o
once_where w k s o e = ap (λ (x : Option Whereabouts). once_by x s.life.machine.depth (length s.life.flight) (report_is_short (report_of s o))) e

where_framed : (k : Key) (f : Frame) (b : Bool) (s : StateOf) → s.life.stands k ≡ held.Frame f → is_read (record_at s.life.frames f.0).request ≡ b → where_of s.life (s.life.stands k) ≡ Some (if b then BeingRead else InFrame)
where_framed k f b s e q = ap (where_of s.life) e ∙ ap (λ (c : Bool). Some (if c then BeingRead else InFrame)) q

where_zero : (l : FrameLife) (h : Held) → is_zero h ≡ true → where_of l h ≡ Some AtZero
where_zero l held.Zero e = refl
where_zero l h e = cc

where_stored : (l : FrameLife) (h : Held) → is_stored h ≡ true → where_of l h ≡ Some InStore
where_stored l (held.Slot s) e = refl
where_stored l (held.Block b) e = refl
where_stored l h e = cc

none_long : (xs : List ℕ) → (length xs == 0) ≡ is_empty xs
none_long [] = refl
none_long (x ∷ xs) = grind arith

-- the report tells shortage
pub shown_short : (s : StateOf) (o : OwnOf) → report_is_short (report_of s o) ≡ is_short s.life
shown_short s o = λ i. none_long s.life.frames.zeroed i && none_long s.life.frames.free i && none_long s.life.frames.standby i

full_by : (n depth : ℕ) → nat_lt n depth ≡ false → nat_le depth n ≡ true
full_by n depth e = grind (arith, e)

room_by : (n depth : ℕ) → nat_lt n depth ≡ true → nat_le depth n ≡ false
room_by n depth e = grind (arith, e)

once_full : (k : Key) (s : StateOf) (o : OwnOf) → is_stored (s.life.stands k) ≡ true → has_depth s.life ≡ false → waits_at_once s.life.machine.depth k (report_of s o) ≡ Some why.Full
once_full k s o e d = once_where (Some InStore) k s o (where_stored s.life (s.life.stands k) e)
    ∙ ap (λ (b : Bool). if b then Some why.Full else if not (report_is_short (report_of s o)) then Some why.Read else None) (full_by (length s.life.flight) s.life.machine.depth d)

once_stored : (k : Key) (s : StateOf) (o : OwnOf) (short : Bool) → is_stored (s.life.stands k) ≡ true → has_depth s.life ≡ true → is_short s.life ≡ short → waits_at_once s.life.machine.depth k (report_of s o) ≡ (if not short then Some why.Read else None)
once_stored k s o short e d h = once_where (Some InStore) k s o (where_stored s.life (s.life.stands k) e)
    ∙ ap (λ (b : Bool). if b then Some why.Full else if not (report_is_short (report_of s o)) then Some why.Read else None) (room_by (length s.life.flight) s.life.machine.depth d)
    ∙ ap (λ (b : Bool). if not b then Some why.Read else None) (shown_short s o ∙ h)

-- ---- pages that have a frame

came_nowhere : (k : Key) (place : Place) (s : StateOf) → AccessCame k place s s
came_nowhere k place s = record { went = λ a e u. went_nothing a 1 s; names = inl refl; slots = refl; blocks = refl; same = refl }

begun_ready : (n : Need) (k : Key) (place : Place) (s z : StateOf) → AccessCame k place s z → is_some (z.life.valid place) ≡ true → (needs_copy n ≡ true → is_short z.life ≡ false) → ((o : OwnOf) → waits_at_once s.life.machine.depth k (report_of s o) ≡ None) → AccessBegun n k place start.Ready s z
begun_ready n k place s z m valid room once = record { came = m; valid = λ e. valid; room = λ e. room; at_once = once; reading = λ e. cc; unmapped = λ e. cc; full = λ e. cc; short = λ e. cc; wanting = λ e. cc }

begun_pending : (n : Need) (k : Key) (place : Place) (w : Why) (s z : StateOf) → AccessCame k place s z → ((o : OwnOf) → waits_at_once s.life.machine.depth k (report_of s o) ≡ reason_at_once (start.Pending w))
    → (start.Pending w ≡ start.Pending why.Read → IsBeingRead k z) → (start.Pending w ≡ start.Pending why.Read → z.life.valid place ≡ None) → (start.Pending w ≡ start.Pending why.Full → IsFull k place z) → (start.Pending w ≡ start.Pending why.Frame → is_short z.life ≡ true) → (start.Pending w ≡ start.Pending why.Frame → WantsFrame n k place z) → AccessBegun n k place (start.Pending w) s z
begun_pending n k place w s z m once reading unmapped full short wanting = record { came = m; valid = λ e. cc; room = λ e c. cc; at_once = once; reading = reading; unmapped = unmapped; full = full; short = short; wanting = wanting }

-- its page is valid already
pub begun_here : (k : Key) (f : Frame) (place : Place) (s : StateOf) → StateHolds s → s.life.valid place ≡ Some f → (s.names place ≡ None) ⊎ (s.names place ≡ Some k) → AccessBegun need.Touch k place start.Ready s s
begun_here k f place s h v n = begun_ready need.Touch k place s s (came_nowhere k place s) (ap is_some v) (λ c. cc)
    (λ o. once_where (Some InFrame) k s o (where_framed k f false s (h.of_frame k f (h.named place f v ∙ named_by (s.names place) k (h.owned place f v) n)) (h.unread place f v)))

pub begun_reading : (k : Key) (f : Frame) (place : Place) (s : StateOf) → s.life.valid place ≡ None → s.life.stands k ≡ held.Frame f → is_read (record_at s.life.frames f.0).request ≡ true → AccessBegun need.Touch k place (start.Pending why.Read) s s
begun_reading k f place s v t r = begun_pending need.Touch k place why.Read s s (came_nowhere k place s) (λ o. once_where (Some BeingRead) k s o (where_framed k f true s t r)) (λ e. (f, t, r)) (λ e. v) (λ e. cc) (λ e. cc) (λ e. cc)

pub begun_put : (k : Key) (f : Frame) (place : Place) (s z : StateOf) → s.life.stands k ≡ held.Frame f → is_read (record_at s.life.frames f.0).request ≡ false → ((a : Aim) → PutsFor a k place s → Went a 0 s z) → PutsAtPlace k f place s z → AccessBegun need.Touch k place start.Ready s z
begun_put k f place s z t r w p = begun_ready need.Touch k place s z
    (record { went = λ a e u. piece_as a IsFresh 0 1 0 0 0 0 [] s z (omega arith) (omega arith) (w a (record { at = e.at; needs = e.needs; uncopied = u })); names = inr p.placed.names; slots = p.stored.0; blocks = p.stored.1; same = p.placed.same })
    (ap is_some p.placed.valid) (λ c. cc) (λ o. once_where (Some InFrame) k s o (where_framed k f false s t r))

-- ---- demand-zero pages

pub begun_given : (k : Key) (f : Frame) (place : Place) (s y z : StateOf) → s.life.valid place ≡ None → is_zero (s.life.stands k) ≡ true → GivesFrame k f s y → ((a : Aim) → PutsFor a k place y → Went a 0 y z) → fits_place place k ≡ true → PutsAtPlace k f place y z → AccessBegun need.Touch k place start.Ready s z
begun_given k f place s y z v t g w fits p = begun_ready need.Touch k place s z
    (record {
      went = λ a e u. piece_as a IsFresh 0 1 0 0 0 0 [] s z (omega arith) (omega arith) (went_then a IsFresh 0 0 s y z (took_at_once a IsFresh 0 s y (g.went a e.needs (ap s.life.valid e.at ∙ v)))
          (w a (record { at = e.at; needs = e.needs; uncopied = uncopied_then a s y (ap (λ (x : StateOf). x.contents) g.keeps.same) u })));
      names = inr (p.placed.names ∙ g.names place (Some k) fits);
      slots = p.stored.0 ∙ g.stored.0;
      blocks = p.stored.1 ∙ g.stored.1;
      same = p.placed.same ∙ ap (λ (x : StateOf). record (moved_with_call x z) { names = z.names }) g.keeps.same;
    })
    (ap is_some p.placed.valid) (λ c. cc) (λ o. once_where (Some AtZero) k s o (where_zero s.life (s.life.stands k) t))

pub begun_starved : (k : Key) (place : Place) (s : StateOf) → s.life.valid place ≡ None → is_zero (s.life.stands k) ≡ true → is_short s.life ≡ true → AccessBegun need.Touch k place (start.Pending why.Frame) s s
begun_starved k place s v t h = begun_pending need.Touch k place why.Frame s s (came_nowhere k place s) (λ o. once_where (Some AtZero) k s o (where_zero s.life (s.life.stands k) t)) (λ e. cc) (λ e. cc) (λ e. cc) (λ e. h) (λ e. inl (zero_unframed (s.life.stands k) t, v))

-- ---- pages on a device

pub begun_full : (k : Key) (place : Place) (s : StateOf) → s.life.valid place ≡ None → is_stored (s.life.stands k) ≡ true → has_depth s.life ≡ false → AccessBegun need.Touch k place (start.Pending why.Full) s s
begun_full k place s v t d = begun_pending need.Touch k place why.Full s s (came_nowhere k place s) (λ o. once_full k s o t d) (λ e. cc) (λ e. cc) (λ e. record { free = v; stored = t; full = d }) (λ e. cc) (λ e. cc)

pub begun_short : (k : Key) (place : Place) (s : StateOf) → s.life.valid place ≡ None → is_stored (s.life.stands k) ≡ true → has_depth s.life ≡ true → is_short s.life ≡ true → AccessBegun need.Touch k place (start.Pending why.Frame) s s
begun_short k place s v t d h = begun_pending need.Touch k place why.Frame s s (came_nowhere k place s) (λ o. once_stored k s o true t d h) (λ e. cc) (λ e. cc) (λ e. cc) (λ e. h) (λ e. inl (stored_unframed (s.life.stands k) t, v))

-- nor has it a request of its own
no_own : (k : LineKind) (o : Option Frame) (f : Frame) → is_thread k ≡ true → own_after k o f ≡ o
no_own (kind.Thread pid) o f t = refl
no_own k o f t = cc

no_own_line : (k : LineKind) → is_thread k ≡ true → is_own_line k ≡ true → ⊥
no_own_line (kind.Thread pid) t e = cc
no_own_line k t e = cc

no_access : (k : LineKind) → is_thread k ≡ true → is_access k ≡ true → ⊥
no_access (kind.Machine a b c d) t e = cc
no_access k t e = cc

-- a read can begin in a thread's line
pub thread_reads : (k : Key) (s y : StateOf) → StateHolds s → FreeNow s y → is_thread s.life.kind ≡ true → is_stored (s.life.stands k) ≡ true → has_depth s.life ≡ true → (is_empty y.life.frames.zeroed ≡ true → is_empty y.life.frames.free ≡ false)
    → IsLegal (move.Read (front_for_read y.life) k) y.life × (is_own_line y.life.kind ≡ true → y.own ≡ None)
thread_reads k s y h frees th t d some =
    let r = freed_ready s y h frees in
    let thread : is_thread y.life.kind ≡ true = ap is_thread r.life.kind ∙ th in
    let depth : has_depth y.life ≡ true = (λ i. has_depth (record y.life { flight = r.flight i; machine = r.life.machine i })) ∙ d in
    (read_legal k y.life some (r.stands is_stored k (λ f. refl) t) ((λ i. is_access y.life.kind || (thread i && depth i)) ∙ or_true (is_access y.life.kind)), λ e. absurd (no_own_line y.life.kind thread e))

-- it stays in flight
pub begun_read : (k : Key) (f : Frame) (place : Place) (s y z : StateOf) → s.life.valid place ≡ None → StateHolds s → StateHolds z → is_thread s.life.kind ≡ true → is_stored (s.life.stands k) ≡ true → has_depth s.life ≡ true → is_short s.life ≡ false
    → FreeNow s y → f ≡ front_for_read y.life → Made (move.Read f k) y z → z ≡ record (moved y z) { own = own_after y.life.kind y.own f } → is_read (record_at z.life.frames f.0).request ≡ true → AccessBegun need.Touch k place (start.Pending why.Read) s z
begun_read k f place s y z v h g th t d n frees first m e reading =
    let r = freed_ready s y h frees in
    let thread : is_thread y.life.kind ≡ true = ap is_thread r.life.kind ∙ th in
    let same : z ≡ moved s z = e ∙ ap (λ (x : Option Frame). record (moved y z) { own = x }) (no_own y.life.kind y.own f thread) ∙ ap (λ (x : StateOf). moved x z) r.rest in
    let stands : z.life.stands k ≡ held.Frame f = ap (λ (l : FrameLife). l.stands k) m.life ∙ changed_here y.life.stands k (held.Frame f) in
    begun_pending need.Touch k place why.Read s z
    (record {
      went = λ a b u. took_at_once a IsFresh 1 s z (took_read a f k s y z z frees first g m h (reads_for a k s s b.needs b.from t (ap s.life.valid b.at ∙ v) refl) (no_access y.life.kind thread));
      names = inl (ap (λ (x : StateOf). x.names) same);
      slots = ap (λ (x : StateOf). x.slots) same;
      blocks = ap (λ (x : StateOf). x.blocks) same;
      same = called_on s z (moved_called s z same);
    })
    (λ o. once_stored k s o false t d n) (λ q. (f, stands, reading)) (λ q. ap (λ (l : FrameLife). l.valid place) m.life ∙ ap (λ (x : Place → Option Frame). x place) r.valid ∙ v) (λ q. cc) (λ q. cc) (λ q. cc)

-- ---- a frame for a copy

still_wants : (k : Key) (place : Place) (z : StateOf) → WantsFrame need.Touch k place z → WantsFrame need.Copy k place z
still_wants k place z (inl e) = inl e
still_wants k place z (inr e) = let bad : false ≡ true = e.0 in cc

pub begun_with_frame : (n : Need) (k : Key) (place : Place) (r : Start) (s z : StateOf) → AccessBegun need.Touch k place r s z → AccessBegun n k place (answered n r (is_short z.life)) s z
begun_with_frame need.Touch k place r s z h = h
begun_with_frame need.Copy k place start.Ready s z h = at (is_short z.life) refl
  where
    at : (b : Bool) → is_short z.life ≡ b → AccessBegun need.Copy k place (answered need.Copy start.Ready b) s z
    at true e = begun_pending need.Copy k place why.Frame s z h.came h.at_once (λ q. cc) (λ q. cc) (λ q. cc) (λ q. e) (λ q. inr (refl, h.valid refl))
    at false e = begun_ready need.Copy k place s z h.came (h.valid refl) (λ c. e) h.at_once
begun_with_frame need.Copy k place (start.Pending w) s z h = begun_pending need.Copy k place w s z h.came h.at_once h.reading h.unmapped h.full h.short (λ q. still_wants k place z (h.wanting q))

-- ---- what the store shows once an access of a thread has begun

-- ---- what stays

went_plain : (n : Need) (k : Key) (place : Place) (r : Start) (s y : StateOf) → AccessBegun n k place r s y → Went (aim_at false k place s) 1 s y
went_plain n k place r s y h = h.came.went (aim_at false k place s) (record { at = refl; needs = refl; from = refl }) (λ j q. cc)

pub begun_rests : (n : Need) (k : Key) (place : Place) (r : Start) (s y : StateOf) → AccessBegun n k place r s y → is_thread s.life.kind ≡ true → s.told.search_writes ≡ no_calls → Rests s y
begun_rests n k place r s y h t e = rests_through (aim_at false k place s) IsFresh 1 0 0 s y (went_plain n k place r s y h) t e

begun_life : (n : Need) (k : Key) (place : Place) (r : Start) (s y : StateOf) → AccessBegun n k place r s y → LifeKept s.life y.life
begun_life n k place r s y h = piece_life (aim_at false k place s) IsFresh 1 0 0 s y refl (went_plain n k place r s y h)

-- ---- what the store shows

-- the thread's wait is set then
abbrev pub waiting : StateOf → (ℕ → Waiting) → StateOf
waiting y w = record y { waits = w }

shown_started : (n : Need) (k : Key) (place : Place) (r : Start) (s y : StateOf) (w : ℕ → Waiting) (o u : OwnOf) → AccessBegun n k place r s y → is_thread s.life.kind ≡ true → s.told.search_writes ≡ no_calls → StateHolds s → StateHolds (waiting y w)
    → u.extended ≡ o.extended → u.blocks_used ≡ o.blocks_used → store_of (waiting y w) u ≡ started (store_of s o) (store_of (waiting y w) u)
shown_started n k place r s y w o u h t e hs hz ext used =
    let life = begun_life n k place r s y h in
    let rests = begun_rests n k place r s y h t e in
    let moves = went_plain n k place r s y h in
    called_store moves.moves s (waiting y w) o u moves.does.replays life (ap (λ (x : StateOf). waiting x w) h.came.same) hs hz ext used
    ∙ (λ i. record (fetched (store_of s o) (store_of (waiting y w) u)) {
      names = y.names;
      file_blocks = h.came.blocks i;
      report = with_told (record (report_of (waiting y w) u) { extended = o.extended }) (rests.told i);
      paging_device = rests.paging i;
      file_device = rests.files i;
    })

pub started_store : (n : Need) (k : Key) (place : Place) (r : Start) (s y z : StateOf) (w : ℕ → Waiting) (o u : OwnOf) → AccessBegun n k place r s y → z ≡ waiting y w → is_thread s.life.kind ≡ true → s.told.search_writes ≡ no_calls → StateHolds s → StateHolds z
    → u.extended ≡ o.extended → u.blocks_used ≡ o.blocks_used → store_of z u ≡ started (store_of s o) (store_of z u)
started_store n k place r s y z w o u h q t e hs hz ext used =
    subst (λ (x : StateOf). store_of x u ≡ started (store_of s o) (store_of x u)) (sym q) (shown_started n k place r s y w o u h t e hs (subst (λ (x : StateOf). StateHolds x) q hz) ext used)

-- ---- why it waits

abbrev reason : Start → Option Why
reason start.Ready = None
reason (start.Pending w) = Some w

pend_at_once : (a b c d : Bool) (w : Why) → (if a then Some why.Read else if b then Some why.Full else if c then Some why.Read else None) ≡ Some w
    → (if a then Some why.Read else if b then Some why.Full else if c then Some why.Read else if d then Some why.Frame else None) ≡ Some w
pend_at_once true b c d w e = e
pend_at_once false true c d w e = e
pend_at_once false false true d w e = e
pend_at_once false false false d w e = cc

pend_frame : (a b c d : Bool) → (if a then Some why.Read else if b then Some why.Full else if c then Some why.Read else None) ≡ None → d ≡ true
    → (if a then Some why.Read else if b then Some why.Full else if c then Some why.Read else if d then Some why.Frame else None) ≡ Some why.Frame
pend_frame true b c d e f = cc
pend_frame false true c d e f = cc
pend_frame false false true d e f = cc
pend_frame false false false d e f = ap (λ (x : Bool). if x then Some why.Frame else None) f

-- a frame is still needed
touch_needs : (k : Key) (place : Place) (y : StateOf) (u : OwnOf) → WantsFrame need.Touch k place y → still_needs_frame (touch k) (report_of y u) ≡ true
touch_needs k place y u (inl e) = ap (λ (b : Bool). not b || false) (unframed_has y.life (y.life.stands k) e.0)
touch_needs k place y u (inr e) = let bad : false ≡ true = e.0 in cc

copy_needs : (k : Key) (place : Place) (y : StateOf) (u : OwnOf) → StateHolds y → y.contents (own_key place) ≡ None → still_needs_frame (copying k place) (report_of y u) ≡ true
copy_needs k place y u h e =
    ap (λ (d : Held). still (where_of y.life d)) (stands_nowhere y (own_key place) h e) ∙ or_true (not (has_frame (where_of y.life (y.life.stands k))))
  where
    still : Option Whereabouts → Bool
    still w = not (has_frame (where_of y.life (y.life.stands k))) || not (not (is_none w))

touch_pends : (k : Key) (place : Place) (r : Start) (w : Why) (s y : StateOf) (v : ℕ → Waiting) (o u : OwnOf) → AccessBegun need.Touch k place r s y → r ≡ start.Pending w → pending s.life.machine.depth (touch k) (report_of s o) (report_of (waiting y v) u) ≡ Some w
touch_pends k place start.Ready w s y v o u h e = cc
touch_pends k place (start.Pending why.Read) w s y v o u h e = pend_at_once _ _ _ _ why.Read (h.at_once o) ∙ ap reason e
touch_pends k place (start.Pending why.Full) w s y v o u h e = pend_at_once _ _ _ _ why.Full (h.at_once o) ∙ ap reason e
touch_pends k place (start.Pending why.Frame) w s y v o u h e =
    pend_frame _ _ _ _ (h.at_once o) (both _ _ (touch_needs k place (waiting y v) u (h.wanting refl)) (shown_short (waiting y v) u ∙ h.short refl)) ∙ ap reason e

copy_pends : (k : Key) (place : Place) (r : Start) (w : Why) (s y : StateOf) (v : ℕ → Waiting) (o u : OwnOf) → AccessBegun need.Copy k place r s y → StateHolds (waiting y v) → s.contents (own_key place) ≡ None → r ≡ start.Pending w
    → pending s.life.machine.depth (copying k place) (report_of s o) (report_of (waiting y v) u) ≡ Some w
copy_pends k place start.Ready w s y v o u h hz d e = cc
copy_pends k place (start.Pending why.Read) w s y v o u h hz d e = pend_at_once _ _ _ _ why.Read (h.at_once o) ∙ ap reason e
copy_pends k place (start.Pending why.Full) w s y v o u h hz d e = pend_at_once _ _ _ _ why.Full (h.at_once o) ∙ ap reason e
copy_pends k place (start.Pending why.Frame) w s y v o u h hz d e =
    pend_frame _ _ _ _ (h.at_once o) (both _ _ (copy_needs k place (waiting y v) u hz (ap (λ (x : StateOf). x.contents (own_key place)) h.came.same ∙ d)) (shown_short (waiting y v) u ∙ h.short refl)) ∙ ap reason e

pub started_pends : (n : Need) (k : Key) (place : Place) (r : Start) (w : Why) (s y z : StateOf) (v : ℕ → Waiting) (o u : OwnOf) → AccessBegun n k place r s y → z ≡ waiting y v → StateHolds z → (n ≡ need.Copy → s.contents (own_key place) ≡ None) → r ≡ start.Pending w
    → pending s.life.machine.depth (need_for n k place) (report_of s o) (report_of z u) ≡ Some w
started_pends need.Touch k place r w s y z v o u h q hz d e = subst (λ (x : StateOf). pending s.life.machine.depth (touch k) (report_of s o) (report_of x u) ≡ Some w) (sym q) (touch_pends k place r w s y v o u h e)
started_pends need.Copy k place r w s y z v o u h q hz d e = subst (λ (x : StateOf). pending s.life.machine.depth (copying k place) (report_of s o) (report_of x u) ≡ Some w) (sym q) (copy_pends k place r w s y v o u h (subst (λ (x : StateOf). StateHolds x) q hz) (d refl) e)

-- ---- the wait

wait_is : (k : Key) (r : Start) (y : StateOf) → (r ≡ start.Pending why.Read → IsBeingRead k y) → wait_of (wait_begun r (y.life.stands k)) ≡ wait_after r
wait_is k (start.Pending why.Read) y h = ap (λ (d : Held). wait_of (wait_begun (start.Pending why.Read) d)) (h refl).1
wait_is k r y h = refl

-- a page that is waited for is being read
pub started_awaited : (n : Need) (k : Key) (place : Place) (r : Start) (s y z : StateOf) (w : ℕ → Waiting) (u : OwnOf) → AccessBegun n k place r s y → z ≡ waiting y w → r ≡ start.Pending why.Read → (report_of z u).whereabouts k ≡ Some BeingRead
started_awaited n k place r s y z w u h q e =
    let read = h.reading e in
    ap (λ (x : StateOf). (report_of x u).whereabouts k) q ∙ ap (where_of y.life) read.1 ∙ ap (λ (b : Bool). Some (if b then BeingRead else InFrame)) read.2

wait_set : (b : Bool) (v : Waiting) (x : Wait) (p q : Waiting) → wait_of v ≡ x → p ≡ q → wait_of (if b then v else p) ≡ (if b then x else wait_of q)
wait_set true v x p q e f = e
wait_set false v x p q e f = ap wait_of f

-- the thread's wait, and no other, has changed
pub started_waits : (n : Need) (k : Key) (place : Place) (r : Start) (tid : ℕ) (s y z : StateOf) (o u : OwnOf) → AccessBegun n k place r s y → z ≡ waiting y (changed ◌==◌ y.waits tid (wait_begun r (y.life.stands k))) → is_thread s.life.kind ≡ true → s.told.search_writes ≡ no_calls
    → (report_of z u).wait ≡ changed ◌==◌ (report_of s o).wait tid (wait_after r)
started_waits n k place r tid s y z o u h q t e =
    ap (λ (x : StateOf). (report_of x u).wait) q
    ∙ (λ i. λ id. wait_set (id == tid) (wait_begun r (y.life.stands k)) (wait_after r) (y.waits id) (s.waits id) (wait_is k r y h.reading) (ap (λ (f : ℕ → Waiting). f id) (begun_rests n k place r s y h t e).waits) i)

-- ---- the moves

need_key : (n : Need) (k : Key) (place : Place) → (need_for n k place).key ≡ k
need_key need.Touch k place = refl
need_key need.Copy k place = refl

abbrev aim_for : Bool → Need → Key → Place → StateOf → Aim
aim_for w n k place s = record { place = place; need = need_for n k place; writes = w; start = s.life }

uncopied_for : (writes : Bool) (n : Need) (k : Key) (place : Place) (s : StateOf) → (n ≡ need.Copy → s.contents (own_key place) ≡ None) → IsUncopied (aim_for writes n k place s) s
uncopied_for writes need.Touch k place s dead j e = cc
uncopied_for writes need.Copy k place s dead j e =
    let same : own_key place ≡ j = cc in
    ap s.contents (sym same) ∙ dead refl

-- why it waits, by the tables
module _ (writes : Bool) (k : Key) (place : Place) (s y : StateOf) where
  reading_held : (n : Need) → IsBeingRead k y → is_read_in_flight y.life (y.life.stands (need_for n k place).key) ≡ true
  reading_held n b = ap (λ (j : Key). is_read_in_flight y.life (y.life.stands j)) (need_key n k place) ∙ ap (is_read_in_flight y.life) b.1 ∙ b.2

  full_held : (n : Need) → IsFull k place y → IsHeldUp why.Full (aim_for writes n k place s) y.life
  full_held n f = (f.free, ap (λ (j : Key). is_stored (y.life.stands j)) (need_key n k place) ∙ f.stored, f.full)

  -- a frame is wanted
  wants_held : (n : Need) → (n ≡ need.Copy → is_live y.life (own_key place) ≡ false) → WantsFrame n k place y → wants_frame (need_for n k place) place y.life ≡ true
  wants_held n dead (inl e) = wants_unframed (aim_for writes n k place s) k y.life (need_key n k place) e.1 (ap not e.0)
  wants_held need.Touch dead (inr e) = let bad : false ≡ true = e.0 in cc
  wants_held need.Copy dead (inr e) = wants_copy (copying k place) place (own_key place) y.life e.1 refl (dead refl)

  held_up : (n : Need) (r : Start) → AccessBegun n k place r s y → (n ≡ need.Copy → is_live y.life (own_key place) ≡ false) → (w : Why) → r ≡ start.Pending w → IsHeldUp w (aim_for writes n k place s) y.life
  held_up n r h dead why.Read e = (h.unmapped e, reading_held n (h.reading e))
  held_up n r h dead why.Full e = full_held n (h.full e)
  held_up n r h dead why.Frame e = both _ _ (h.short e) (wants_held n dead (h.wanting e))

pub started_passes : (writes : Bool) (n : Need) (k : Key) (place : Place) (r : Start) (tid : ℕ) (s y z : StateOf) (o u : OwnOf) → StateHolds y → (n ≡ need.Copy → s.contents (own_key place) ≡ None) → AccessBegun n k place r s y → z ≡ waiting y (changed ◌==◌ y.waits tid (wait_begun r (y.life.stands k)))
    → Passes (Starts (record { place = place; need = need_for n k place; writes = writes; start = s.life }) tid r) (store_of s o) (store_of z u) (behind_of s) (behind_of z)
started_passes writes n k place r tid s y z o u hy dead h q =
    let p : Went (aim_for writes n k place s) 1 s y = h.came.went (aim_for writes n k place s) (record { at = refl; needs = need_key n k place; from = refl }) (uncopied_for writes n k place s dead) in
    passes_beside (Starts (aim_for writes n k place s) tid r) p.moves s y z o u y.bound y.names y.contents y.ages (changed ◌==◌ y.waits tid (wait_begun r (y.life.stands k))) p.does q (record {
      made = made_by (aim_for writes n k place s) IsFresh 1 s y p (omega arith);
      read = p.fails;
      waits = λ i. changed ◌==◌ (p.does.waits i) tid (wait_begun r (y.life.stands (sym (need_key n k place) i)));
      ages = p.does.ages;
      slots = h.came.slots;
      valid = h.valid;
      held_up = held_up writes k place s y n r h (λ c. hy.live (own_key place) ∙ ap (λ (x : StateOf). is_some (x.contents (own_key place))) h.came.same ∙ ap is_some (dead c));
    })

-- ---- what the store keeps

ready_is : (r : Start) (n : Need) (k : Key) (place : Place) (x : Ready) → ready_after r n k place ≡ Some x → (r ≡ start.Ready) × (x ≡ record { place = place; need = need_for n k place })
ready_is start.Ready n k place x e = let same : record { place = place; need = need_for n k place } ≡ x = cc in (refl, sym same)
ready_is (start.Pending w) n k place x e = cc

copy_needed : (n : Need) (k : Key) (place : Place) → is_some (need_for n k place).copy ≡ true → needs_copy n ≡ true
copy_needed need.Touch k place e = e
copy_needed need.Copy k place e = refl

pub started_kept : (n : Need) (k : Key) (place : Place) (r : Start) (s y z : StateOf) (w : ℕ → Waiting) (o u : OwnOf) → AccessBegun n k place r s y → z ≡ waiting y w → is_thread s.life.kind ≡ true → StoreKept s o → u.ready ≡ ready_after r n k place → u.blocks_used ≡ o.blocks_used → StoreKept z u
started_kept n k place r s y z w o u h q t kept e used = subst (λ (x : StateOf). StoreKept x u) (sym q) (record {
  own = ap (λ (x : StateOf). x.own) h.came.same ∙ kept.own;
  aside = ap (λ (x : StateOf). x.aside) h.came.same ∙ kept.aside;
  ready = λ x f. let is = ready_is r n k place x (sym e ∙ f) in ap (λ (a : Ready). is_some (y.life.valid a.place)) is.1 ∙ h.valid is.0;
  touching = λ x f. ap (λ (a : LineKind). is_touch a) life.kind ∙ thread_touches s.life.kind t;
  room = λ x f c. let is = ready_is r n k place x (sym e ∙ f) in h.room is.0 (copy_needed n k place (ap (λ (a : Ready). is_some a.need.copy) (sym is.1) ∙ c));
  fresh = λ b low. ap (λ (f : ℕ → Bool). f b) life.added ∙ kept.fresh b (subst (λ (a : ℕ). a ≤ b) used low);
  calm = λ th. ap (λ (a : Told). a.search_writes) (begun_rests n k place r s y h t (kept.calm t)).told ∙ kept.calm t;
})
  where
    life : LifeKept s.life y.life
    life = begun_life n k place r s y h
