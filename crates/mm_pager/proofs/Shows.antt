-- What is told of moves and of calls without one: the store's report and what stands behind it.
use Rattle.std.proofs.Common.{◌≡◌, ℕ, ◌+◌, ◌≤◌, ◌<◌, inl, inr, Bool, true, List, [], ◌∷◌, None, refl, sym, ap, ◌∙◌, subst, length-append, false, ◌++◌, suc, ◌-◌, length, Option, Some, arith}
use Rattle.std.specs.Prelude.{not, is_some, ◌==◌, if◌then◌else◌, replicate, Result, Ok, Err, OnOk, OnErr, IsErrOf, ◌&&◌, nat_le, nat_lt, ◌||◌, map}
use Rattle.mm_types.specs.{limit_of, Held, Move, LineKind, Key, Place, GrowFault, Frame, Pid}
use Rattle.mm_types.specs.declared.frames.Held.TheVariants as held
use Rattle.mm_move_laws.proofs.{key_or_not, changed_here, changed_else, set_here, set_else}
use Rattle.mm_types.specs.declared.moves.Move.TheVariants as move
use Rattle.mm_types.specs.declared.moves.LineKind.TheVariants as kind
use Rattle.mm_types.specs.declared.numbers.Key.TheVariants.{Private, Shared}
use Rattle.mm_devices.specs.{DeviceOf, DeviceCall, Call, AllServed, logged_call}
use Rattle.mm_move_rules.specs.{FrameLife, same_key, Log, after_move, Waiting, waits_after, ages_after, wait_of, is_dead, zero_page, Idle, ResidentSet}
use Rattle.mm_move_rules.specs.{set_in, set_of, with_resident, IsLegal, after_unmap_at, dropped_at, Replays, record_at, is_read, is_write, is_thread}
use Rattle.mm_move_rules.specs.{is_touch, is_io, is_access, is_call, Walk, Through, walked, waits_through}
use Rattle.mm_world.specs.{same_key as same_in_world, filled, Tally}
use Rattle.mm_store.specs.Behind.{Behind}
use Rattle.mm_store.specs.{IsLineKind, pid_after, OneMove, Turns, MakesFrom, key_number, Passes, begun, rearranged, block_at, backed_by}
use Rattle.mm_move_rules.specs.{changed}
use Rattle.mm_store.specs.{none_told, Forgets, Turn, NoMove, Grows, GrowsAs, PassesIn, Notes, Aim, AccessMove, no_calls, told_after, told_through}
use Rattle.mm_store.specs.{in_slot, in_block, call_of, calls_of, Ready}
use Rattle.mm_state_calls.specs.{StateOf, Made, moved, DoesMoves, GrowBegins, asked_to_grow, StateHolds, moved_with_call, walk_of}
use Rattle.mm_pager.specs.{OwnOf, report_of, store_of, behind_of, Piece, StoreKept, LifeKept}
use Rattle.mm_state_calls.proofs.{does_one, does_nothing}
use Rattle.mm_pager.proofs.AccessMoves.{with_told, kept_within}
use Rattle.mm_types.specs.declared.answers.Wait.TheVariants as wait
use Rattle.mm_types.specs.declared.faults.GrowFault.TheVariants as grow_fault
use Rattle.mm_store.proofs.{turns_nothing}
use Rattle.std.proofs.Math.Logic.{∥∥₁_elim}
use Rattle.std.proofs.Props.{props}
use Rattle.std.specs.Bool.{IsTrue}
use Rattle.mm_types.proofs.{get_last, same_or_not}
use Rattle.mm_types.specs.declared.moves.Stored.TheVariants as stored
use Rattle.mm_store.specs.Told.{Told}

-- ---- what is told of moves, of the store's report and of what stands behind it

-- moves, and then a change of what no move tells of: places, names, bytes, ages and waits
pub passes_beside : (That : Behind → List Move → Behind → Type 0) (moves : List Move) (s y z : StateOf) (o u : OwnOf) (b : Place → Bool) (n : Place → Option Key) (c : Key → Option (List ℕ)) (a : Place → ℕ) (w : ℕ → Waiting) → DoesMoves moves s y
    → z ≡ record y { bound = b; names = n; contents = c; ages = a; waits = w } → That (behind_of s) moves (behind_of (record y { ages = a; waits = w })) → Passes That (store_of s o) (store_of z u) (behind_of s) (behind_of z)
passes_beside That moves s y z o u b n c a w d e t = subst (λ (x : StateOf). Passes That (store_of s o) (store_of x u) (behind_of s) (behind_of x)) (sym e) (record {
  moves = moves;
  in_range = d.in_range;
  grew = d.grew;
  replays = d.replays;
  that = t;
  report = d.told;
  paging_calls = d.paging_calls;
  paging = d.paging;
  paging_are = d.paging_are;
  file_calls = d.file_calls;
  files = d.files;
  files_are = d.files_are;
  slots_kept = d.slots_kept;
  blocks_kept = d.blocks_kept;
})

pub passes_of : (That : Behind → List Move → Behind → Type 0) (moves : List Move) (s z : StateOf) (o u : OwnOf) → DoesMoves moves s z → That (behind_of s) moves (behind_of z) → Passes That (store_of s o) (store_of z u) (behind_of s) (behind_of z)
passes_of That moves s z o u d t = passes_beside That moves s z z o u z.bound z.names z.contents z.ages z.waits d refl t

-- no move
pub none_passes : (That : Behind → List Move → Behind → Type 0) (s z : StateOf) (o u : OwnOf) (c : Key → Option (List ℕ)) (a : Place → ℕ) (w : ℕ → Waiting) → z ≡ record s { contents = c; ages = a; waits = w }
    → That (behind_of s) [] (behind_of (record s { ages = a; waits = w })) → Passes That (store_of s o) (store_of z u) (behind_of s) (behind_of z)
none_passes That s z o u c a w e t = passes_beside That [] s s z o u s.bound s.names c a w (does_nothing s) e t

-- one move that the store's call is
pub one_passes : (x : Move) (s z : StateOf) (o u : OwnOf) → Made x s z → z.slots ≡ s.slots → Passes (OneMove x) (store_of s o) (store_of z u) (behind_of s) (behind_of z)
one_passes x s z o u m e = passes_of (OneMove x) (x ∷ []) s z o u (does_one x s z m) (record { one = refl; moved = record { waits = m.waits; ages = m.ages }; slots = e })

pub adds_passes : (k : Key) (s z : StateOf) (o u : OwnOf) → Made (move.Add k None) s z → z.slots ≡ s.slots → (from to : ℕ) → from ≤ key_number k → key_number k < to → Passes (Turns (MakesFrom from to)) (store_of s o) (store_of z u) (behind_of s) (behind_of z)
adds_passes k s z o u m e from to l h = passes_of (Turns (MakesFrom from to)) (move.Add k None ∷ []) s z o u (does_one (move.Add k None) s z m)
    (record { turned = record { all = (refl, tt); order = (l, h, tt); lowest = (tt, tt) }; moved = record { waits = m.waits; ages = m.ages }; slots = e })

-- ---- keys

same_keys : (k q : Key) → same_key k q ≡ same_in_world k q
same_keys (Private p v) (Private q w) = refl
same_keys (Private p v) (Shared a i) = refl
same_keys (Shared a i) (Private p v) = refl
same_keys (Shared a i) (Shared b j) = refl

pub changed_keys : {V : Type 0} (f : Key → V) (k : Key) (v : V) → changed same_key f k v ≡ changed same_in_world f k v
changed_keys {V} f k v = λ i. λ q. at q i
  where
    at : (q : Key) → changed same_key f k v q ≡ changed same_in_world f k v q
    at q = ap (λ (same : Key → Key → Bool). changed same f k v q) (λ i. λ a. λ b. same_keys a b i)

-- a key that comes to be has no block
added_block : (s : StateOf) (k q : Key) → s.life.stands k ≡ held.Dead → block_at (backed_by s.life ((after_move s.life (move.Add k None)).stands q)) ≡ block_at (backed_by s.life (s.life.stands q))
added_block s k q dead = elim (key_or_not q k) [
  | inl e ↦ ap (λ (x : Key). block_at (backed_by s.life (changed same_key s.life.stands k held.Zero x))) e.0
      ∙ ap (λ (h : Held). block_at (backed_by s.life h)) (changed_here s.life.stands k held.Zero)
      ∙ ap (λ (h : Held). block_at (backed_by s.life h)) (sym dead)
      ∙ ap (λ (x : Key). block_at (backed_by s.life (s.life.stands x))) (sym e.0)
  | inr e ↦ ap (λ (h : Held). block_at (backed_by s.life h)) (changed_else s.life.stands k q held.Zero e.0)
]

pub added_store : (s z : StateOf) (o : OwnOf) (k : Key) (c : Key → Option (List ℕ)) (a : Option Place) → s.life.stands k ≡ held.Dead → Made (move.Add k None) s z → z ≡ record (moved s z) { contents = c; aside = a }
    → store_of z o ≡ record (store_of s o) { paging = changed same_in_world s.life.paging k true; paging_keys = s.life.paging_keys + 1; report = rearranged (report_of s o) (report_of z o) }
added_store s z o k c a dead m e =
    ap (λ (x : StateOf). store_of x o) e
    ∙ ap (λ (l : FrameLife). record (store_of s o) {
      machine = l.machine;
      room = limit_of l.machine;
      paging = l.paging;
      paging_keys = l.paging_keys;
      block_of = λ q. block_at (backed_by l (l.stands q));
      line = l.line;
      kind = l.kind;
      last_pid = length l.sets;
      report = report_of z o;
    }) m.life
    ∙ (λ i. record (store_of s o) {
      paging = changed_keys s.life.paging k true i;
      paging_keys = s.life.paging_keys + 1;
      block_of = λ q. added_block s k q dead i;
      report = with_told (record (report_of z o) { wait = λ tid. wait_of (m.waits i tid) }) (m.told i);
    })

-- ---- a line

abbrev pub line_at : StateOf → Log → DeviceOf → ℕ → LineKind → StateOf
line_at s log d n k = record s { life = after_move s.life (move.At n k); log = log; told = none_told; ages = ages_after (move.At n k) s.ages; waits = waits_after (move.At n k) s.waits; paging = d }

-- the state, once a line has begun, where at most the paging device was called
pub line_whole : (s z : StateOf) (d : DeviceOf) (n : ℕ) (k : LineKind) → z.life ≡ after_move s.life (move.At n k) → z.told ≡ none_told → z.ages ≡ ages_after (move.At n k) s.ages → z.waits ≡ waits_after (move.At n k) s.waits → z ≡ record (moved s z) { paging = d } → z ≡ line_at s z.log d n k
line_whole s z d n k life told ages waits e = e ∙ (λ i. record s { life = life i; log = z.log; told = told i; ages = ages i; waits = waits i; paging = d })

abbrev begun_own : OwnOf → OwnOf
begun_own o = record { extended = None; ready = None; blocks_used = o.blocks_used }

abbrev IsBegunAs : StateOf → OwnOf → ℕ → LineKind → StateOf → Type 0
IsBegunAs s o n k z = store_of z (begun_own o) ≡ record (store_of s o) { line = n; kind = k; last_pid = pid_after (store_of s o).last_pid k; ready = None; report = begun (store_of s o).report }

line_begun : (s : StateOf) (o : OwnOf) (log : Log) (n : ℕ) (k : LineKind) → IsLineKind (store_of s o) k → IsBegunAs s o n k (line_at s log s.paging n k)
line_begun s o log n (kind.Machine a b c d) h = absurd h
line_begun s o log n (kind.Process pid min max) h = let e = h.next in ap (λ (p : ℕ). record (store_of s o) { line = n; kind = kind.Process pid min max; last_pid = p; ready = None; report = begun (store_of s o).report }) (length-append s.life.sets _ ∙ sym e)
line_begun s o log n (kind.Grow count) h = absurd h
line_begun s o log n k h = refl

pub line_store : (s z : StateOf) (o : OwnOf) (n : ℕ) (k : LineKind) → IsLineKind (store_of s o) k → Made (move.At n k) s z → z ≡ moved s z → IsBegunAs s o n k z
line_store s z o n k h m e = subst (λ (x : StateOf). IsBegunAs s o n k x) (sym (line_whole s z s.paging n k m.life m.told m.ages m.waits e)) (line_begun s o z.log n k h)

-- ---- calls that make no move, and lines in which the paging file grows

-- ---- calls that make no move

-- pages neither come to be nor go
pub turns_still : (s z : StateOf) (o u : OwnOf) → behind_of z ≡ behind_of s → z.told ≡ s.told → z.paging ≡ s.paging → z.files ≡ s.files → z.blocks ≡ s.blocks → (turn : Turn) → PassesIn false (Turns turn) (store_of s o) (store_of z u) (behind_of s) (behind_of z)
turns_still s z o u b t p f k turn = turns_nothing false turn (store_of s o) (store_of z u) (behind_of s) (behind_of z) b t p f k

pub turns_either : {T E : Type 0} (r : Result T E) (s y z : StateOf) (o u : OwnOf) → OnOk r (z ≡ y) → OnErr r (z ≡ s) → behind_of y ≡ behind_of s → y.told ≡ s.told → y.paging ≡ s.paging → y.files ≡ s.files → y.blocks ≡ s.blocks
    → (turn : Turn) → PassesIn false (Turns turn) (store_of s o) (store_of z u) (behind_of s) (behind_of z)
turns_either (Ok v) s y z o u a e b t p f k turn = subst (λ (x : StateOf). PassesIn false (Turns turn) (store_of s o) (store_of x u) (behind_of s) (behind_of x)) (sym a) (turns_still s y o u b t p f k turn)
turns_either (Err v) s y z o u a e b t p f k turn = subst (λ (x : StateOf). PassesIn false (Turns turn) (store_of s o) (store_of x u) (behind_of s) (behind_of x)) (sym e) (turns_still s s o u refl refl refl refl refl turn)

-- ---- keys

dead_is : (h : Held) → not (is_dead h) ≡ false → h ≡ held.Dead
dead_is held.Dead e = refl
dead_is h e = cc

-- a key without bytes stands nowhere
pub stands_nowhere : (s : StateOf) (k : Key) → StateHolds s → s.contents k ≡ None → s.life.stands k ≡ held.Dead
stands_nowhere s k h e = dead_is (s.life.stands k) (h.live k ∙ ap is_some e)

-- ---- waits

forgot_wait : (b : Bool) (w : Waiting) → wait_of (if b then Idle else w) ≡ (if b then wait.None else wait_of w)
forgot_wait true w = refl
forgot_wait false w = refl

pub forgot_store : (s z : StateOf) (o : OwnOf) (t : ℕ) → z ≡ record s { waits = changed ◌==◌ s.waits t Idle } → store_of z o ≡ record (store_of s o) { report = record (report_of s o) { wait = changed ◌==◌ (report_of s o).wait t wait.None } }
forgot_store s z o t e = ap (λ (x : StateOf). store_of x o) e ∙ (λ i. record (store_of s o) { report = record (report_of s o) { wait = λ q. forgot_wait (q == t) (s.waits q) i } })

pub forgot_passes : (s z : StateOf) (o : OwnOf) (t : ℕ) → z ≡ record s { waits = changed ◌==◌ s.waits t Idle } → Passes (Forgets t) (store_of s o) (store_of z o) (behind_of s) (behind_of z)
forgot_passes s z o t e = none_passes (Forgets t) s z o o s.contents s.ages (changed ◌==◌ s.waits t Idle) e (record { none = refl; same = refl })

-- ---- the paging file grows

begun_notes : (That : Behind → List Move → Behind → Type 0) (x : Move) (s z : StateOf) → GrowBegins x s z → That (behind_of s) (x ∷ []) (behind_of z) → Notes That (behind_of s) (behind_of z)
begun_notes That x s z b t = record { moves = x ∷ []; in_range = b.in_range; grew = b.grew; replays = (b.legal, b.life); that = t }

pub notes_by : {T : Type 0} (r : Result T GrowFault) (s z : StateOf) (line n : ℕ) → OnOk r (GrowBegins (move.At line (kind.Grow n)) s z) → OnOk r (z ≡ record (moved s z) { slots = s.slots ++ replicate n zero_page })
    → (IsErrOf r grow_fault.Failed → GrowBegins (move.At line kind.Call) s z) → (IsErrOf r grow_fault.Failed → z ≡ record (moved s z) { paging = asked_to_grow s.paging z.paging }) → (IsErrOf r grow_fault.Memory → z ≡ s)
    → Notes (GrowsAs line n r) (behind_of s) (behind_of z)
unfolding filled
notes_by (Ok v) s z line n a e f k m = begun_notes (Grows line n) (move.At line (kind.Grow n)) s z a (record { one = refl; moved = record { waits = a.waits; ages = a.ages }; slots = ap (λ (x : StateOf). x.slots) e })
notes_by (Err grow_fault.Failed) s z line n a e f k m =
    let b = f refl in
    begun_notes (OneMove (move.At line kind.Call)) (move.At line kind.Call) s z b (record { one = refl; moved = record { waits = b.waits; ages = b.ages }; slots = ap (λ (x : StateOf). x.slots) (k refl) })
notes_by (Err grow_fault.Memory) s z line n a e f k m = subst (λ (x : StateOf). Notes NoMove (behind_of s) (behind_of x)) (sym (m refl)) (record { moves = []; in_range = tt; grew = (does_nothing s).grew; replays = refl; that = record { none = refl; same = refl } })

-- ---- in the line of a process it has a working set

-- the process of the line has a set
abbrev has_own : LineKind → List ResidentSet → Bool
has_own (kind.Process pid min max) sets = is_some (set_in sets pid.0)
has_own _ sets = true

own_kept : (k : LineKind) (sets later : List ResidentSet) → ((p : ℕ) → is_some (set_in sets p) ≡ true → is_some (set_in later p) ≡ true) → has_own k sets ≡ true → has_own k later ≡ true
own_kept (kind.Process pid min max) sets later f h = f pid.0 h
own_kept k sets later f h = refl

resized_has : (sets : List ResidentSet) (q : ℕ) (change : ℕ → ℕ) (p : ℕ) → is_some (set_in sets p) ≡ true → is_some (set_in (with_resident sets q change) p) ≡ true
resized_has sets q change p h = elim (same_or_not p q) [
  | inl e ↦ subst (λ (n : ℕ). is_some (set_in (with_resident sets n change) p) ≡ true) e (here (set_in sets p) refl h)
  | inr n ↦ ap is_some (set_else sets q p change n) ∙ h
]
  where
    here : (o : Option ResidentSet) → set_in sets p ≡ o → is_some o ≡ true → is_some (set_in (with_resident sets p change) p) ≡ true
    here None e g = cc
    here (Some s) e g = ap is_some (set_here sets p change s e)

last_has : (sets : List ResidentSet) (s : ResidentSet) (p : ℕ) → p ≡ length sets + 1 → is_some (set_in (sets ++ s ∷ []) p) ≡ true
last_has sets s p e = subst (λ (n : ℕ). is_some (set_in (sets ++ s ∷ []) n) ≡ true) (sym (next e)) (ap is_some (get_last sets s))
  where
    next : p ≡ length sets + 1 → p ≡ suc (length sets)
    next e = omega (arith, e)

next_pid : (n m : ℕ) (a b c d : Bool) → IsTrue (a && b && (c && (n == m) && d)) → n ≡ m
next_pid n m a b c d h = grind (arith, h)

own_step : (x : Move) (l : FrameLife) → IsLegal x l → has_own l.kind l.sets ≡ true → has_own (after_move l x).kind (after_move l x).sets ≡ true
own_step (move.At n (kind.Process pid min max)) l g h = last_has l.sets _ pid.0 (next_pid pid.0 (length l.sets + 1) (n == l.line + 1) (nat_le (length l.flight) l.machine.depth) (nat_lt 0 l.line) (nat_le pid.0 64) g)
own_step (move.At n k) l g h = refl
own_step (move.Add k None) l g h = h
own_step (move.Drop k) l g h = at (l.stands k)
  where
    at : (o : Held) → has_own (dropped_at o l k).kind (dropped_at o l k).sets ≡ true
    at (held.Frame f) = h
    at o = h
own_step (move.Map f p) l g h = own_kept l.kind l.sets _ (resized_has l.sets p.pid.0 (λ n. n + 1)) h
own_step (move.Unmap p) l g h = at (l.valid p)
  where
    at : (o : Option Frame) → has_own (after_unmap_at o l p).kind (after_unmap_at o l p).sets ≡ true
    at None = h
    at (Some f) = own_kept l.kind l.sets _ (resized_has l.sets p.pid.0 (λ n. n - 1)) h
own_step (move.Write f (stored.Slot s)) l g h = h
own_step x l g h = h

own_along : (xs : List Move) (l m : FrameLife) → Replays xs l m → has_own l.kind l.sets ≡ true → has_own m.kind m.sets ≡ true
own_along [] l m r h = ap (λ (x : FrameLife). has_own x.kind x.sets) r ∙ h
own_along (x ∷ xs) l m r h = own_along xs (after_move l x) m r.1 (own_step x l r.0 h)

pub process_set : (s : StateOf) (pid : Pid) (min max : ℕ) → StateHolds s → s.life.kind ≡ kind.Process pid min max → is_some (set_of s.life pid.0) ≡ true
process_set s pid min max h e = ∥∥₁_elim h.reached (hlevel props) (λ r. ap (λ (k : LineKind). has_own k s.life.sets) (sym e) ∙ own_along r.moves _ s.life r.replays refl)

-- ---- what the moves of an access leave alone in a thread's line: no device is called there, and no read ends

-- ---- the line goes on

kind_after : (a : Aim) (w : Walk) (m : Move) (ms : List Move) → AccessMove a w m ms → (after_move w.life m).kind ≡ w.life.kind
kind_after a w (move.At n k) ms h = absurd h
kind_after a w (move.Add k None) ms h = refl
kind_after a w (move.Add k (Some b)) ms h = absurd h
kind_after a w (move.Drop k) ms h = absurd h
kind_after a w m ms h = (kept_within w.life m tt).kind

kind_through : (a : Aim) (ms : List Move) (w : Walk) (m : FrameLife) → Through (AccessMove a) w ms → Replays ms w.life m → m.kind ≡ w.life.kind
kind_through a [] w m h r = ap (λ (l : FrameLife). l.kind) r
kind_through a (x ∷ xs) w m h r = kind_through a xs (walked w x) m h.1 r.1 ∙ kind_after a w x xs h.0

-- ---- one move

no_end : (r : Bool) (k : LineKind) → is_thread k ≡ true → IsTrue (r && (is_io k || is_access k)) → ⊥
no_end true (kind.Thread pid) t h = cc
no_end r k t h = cc

no_write_end : (r : Bool) (k : LineKind) → is_thread k ≡ true → IsTrue (r && (is_io k || is_access k || is_call k)) → ⊥
no_write_end true (kind.Thread pid) t h = cc
no_write_end r k t h = cc

record QuietOne (m : Move) (l : FrameLife) : Type 0 where
  pub told : (t : Told) → t.search_writes ≡ no_calls → told_after l m t ≡ t
  pub slots : call_of in_slot l m ≡ []
  pub blocks : call_of in_block l m ≡ []
  pub waits : (w : ℕ → Waiting) → waits_after m w ≡ w

reset : (t : Told) → t.search_writes ≡ no_calls → record t { search_writes = no_calls } ≡ t
reset t e = ap (λ (x : Tally). record t { search_writes = x }) (sym e)

quiet_one : (a : Aim) (w : Walk) (m : Move) (ms : List Move) → is_thread w.life.kind ≡ true → AccessMove a w m ms → IsLegal m w.life → QuietOne m w.life
quiet_one a w (move.At n k) ms t h i = absurd h
quiet_one a w (move.Drop k) ms t h i = absurd h
quiet_one a w (move.Give f k) ms t h i = record { told = reset; slots = refl; blocks = refl; waits = λ v. refl }
quiet_one a w (move.Read f k) ms t h i = record { told = reset; slots = refl; blocks = refl; waits = λ v. refl }
quiet_one a w (move.Got f) ms t h i = absurd (no_end (is_read (record_at w.life.frames f.0).request) w.life.kind t i)
quiet_one a w (move.Bad f) ms t h i = absurd (no_end (is_read (record_at w.life.frames f.0).request) w.life.kind t i)
quiet_one a w (move.Wrote f) ms t h i = absurd (no_write_end (is_write (record_at w.life.frames f.0).request) w.life.kind t i)
quiet_one a w (move.Lost f) ms t h i = absurd (no_write_end (is_write (record_at w.life.frames f.0).request) w.life.kind t i)
quiet_one a w m ms t h i = record { told = λ x e. refl; slots = refl; blocks = refl; waits = λ v. refl }

-- ---- lines that access no page

pub thread_touches : (k : LineKind) → is_thread k ≡ true → is_touch k ≡ true
thread_touches (kind.Access pid) t = refl
thread_touches (kind.Thread pid) t = refl
thread_touches k t = cc

-- such a line is no thread's
no_thread : (k l : LineKind) → l ≡ k → is_touch k ≡ false → is_thread l ≡ true → ⊥
no_thread k l e n t = let bad : false ≡ true = sym n ∙ ap is_touch (sym e) ∙ thread_touches l t in cc

-- ---- what the store keeps

-- where nothing is ready
pub kept_by : (s z : StateOf) (o u : OwnOf) → ((r : Ready) → u.ready ≡ Some r → ⊥) → StoreKept s o → z.own ≡ s.own → z.aside ≡ s.aside → z.life.added ≡ s.life.added → u.blocks_used ≡ o.blocks_used → (is_thread z.life.kind ≡ true → z.told.search_writes ≡ no_calls) → StoreKept z u
kept_by s z o u none k own aside added used calm = record {
  own = own ∙ k.own;
  aside = aside ∙ k.aside;
  ready = λ r e. absurd (none r e);
  touching = λ r e. absurd (none r e);
  room = λ r e c. absurd (none r e);
  fresh = λ b low. ap (λ (f : ℕ → Bool). f b) added ∙ k.fresh b (subst (λ (n : ℕ). n ≤ b) used low);
  calm = calm;
}

pub none_ready : (u : OwnOf) → u.ready ≡ None → (r : Ready) → u.ready ≡ Some r → ⊥
none_ready u e r h = let bad : None ≡ Some r = sym e ∙ h in cc

-- nothing is ready in a line that accesses no page
pub kept_untouched : (s z : StateOf) (o : OwnOf) → StoreKept s o → is_touch s.life.kind ≡ false → LifeKept s.life z.life → z ≡ moved_with_call s z → StoreKept z o
kept_untouched s z o k still life same = kept_by s z o o (λ r e. let bad : false ≡ true = sym still ∙ k.touching r e in cc) k (ap (λ (x : StateOf). x.own) same) (ap (λ (x : StateOf). x.aside) same) life.added refl
    (λ th. absurd (no_thread s.life.kind z.life.kind life.kind still th))

-- ---- all of them

record Quiet (ms : List Move) (l : FrameLife) : Type 0 where
  pub told : (t : Told) → t.search_writes ≡ no_calls → told_through l ms t ≡ t
  pub slots : calls_of in_slot l ms ≡ []
  pub blocks : calls_of in_block l ms ≡ []
  pub waits : (w : ℕ → Waiting) → waits_through ms w ≡ w

quiet_all : (a : Aim) (ms : List Move) (w : Walk) (m : FrameLife) → is_thread w.life.kind ≡ true → Through (AccessMove a) w ms → Replays ms w.life m → Quiet ms w.life
quiet_all a [] w m t h r = record { told = λ x e. refl; slots = refl; blocks = refl; waits = λ v. refl }
quiet_all a (x ∷ xs) w m t h r =
    let one = quiet_one a w x xs t h.0 r.0 in
    let more = quiet_all a xs (walked w x) m (ap is_thread (kind_after a w x xs h.0) ∙ t) h.1 r.1 in
    record {
      told = λ y e. ap (told_through (after_move w.life x) xs) (one.told y e) ∙ more.told y e;
      slots = ap (λ (cs : List DeviceCall). cs ++ calls_of in_slot (after_move w.life x) xs) one.slots ∙ more.slots;
      blocks = ap (λ (cs : List DeviceCall). cs ++ calls_of in_block (after_move w.life x) xs) one.blocks ∙ more.blocks;
      waits = λ v. ap (waits_through xs) (one.waits v) ∙ more.waits v;
    }

none_served : (cs : List Call) (d e : DeviceOf) → map logged_call cs ≡ [] → AllServed cs d e → e ≡ d
none_served [] d e n h = h
none_served (c ∷ cs) d e n h = cc

-- what of the state stays then
pub record Rests (s z : StateOf) : Type 0 where
  pub kind : z.life.kind ≡ s.life.kind
  pub told : z.told ≡ s.told
  pub waits : z.waits ≡ s.waits
  pub paging : z.paging ≡ s.paging
  pub files : z.files ≡ s.files

pub rests_through : {b : Bool} (a : Aim) (E : Walk → Type 0) (n p o : ℕ) (s z : StateOf) → Piece a E b n p o [] s z → is_thread s.life.kind ≡ true → s.told.search_writes ≡ no_calls → Rests s z
rests_through a E n p o s z x t e =
    let d = x.does in
    let q = quiet_all a x.moves (walk_of s) z.life t x.each d.replays in
    record {
      kind = kind_through a x.moves (walk_of s) z.life x.each d.replays;
      told = d.told ∙ q.told s.told e;
      waits = d.waits ∙ q.waits s.waits;
      paging = none_served d.paging_calls s.paging z.paging (d.paging_are ∙ q.slots) d.paging;
      files = none_served d.file_calls s.files z.files (d.files_are ∙ q.blocks) d.files;
    }

-- no device write was tried, still
pub calm_through : {b : Bool} (a : Aim) (E : Walk → Type 0) (n p o : ℕ) (s z : StateOf) → Piece a E b n p o [] s z → (is_thread s.life.kind ≡ true → s.told.search_writes ≡ no_calls) → is_thread z.life.kind ≡ true → z.told.search_writes ≡ no_calls
calm_through a E n p o s z x e t =
    let was = sym (ap is_thread (kind_through a x.moves (walk_of s) z.life x.each x.does.replays)) ∙ t in
    ap (λ (y : Told). y.search_writes) (rests_through a E n p o s z x was (e was)).told ∙ e was
