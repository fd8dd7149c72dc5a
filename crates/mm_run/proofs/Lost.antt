-- A read that a thread waits for fails only where a call of a device did.
use Rattle.std.proofs.Common.{◌≡◌, ◌⊎◌, ℕ, Bool, true, false, List, [], ◌∷◌, ◌++◌, Option, Some, None, refl, sym, ap, ◌∙◌, inl, inr}
use Rattle.std.specs.List.{list_any}
use Rattle.std.specs.Prelude.{map, if◌then◌else◌, is_some, ◌&&◌, ◌||◌, ◌==◌, not, unwrap_or, option_map}
use Rattle.std.proofs.lemmas.Bool.{and_parts}
use Rattle.mm_types.proofs.{or_left, or_right}
use Rattle.mm_types.specs.{Answer, Event, Backing, Record, Request, Move}
use Rattle.mm_types.specs.declared.events.Event.TheVariants as line
use Rattle.mm_types.specs.declared.devices.Direction.TheVariants as way
use Rattle.mm_types.specs.declared.frames.Backing.TheVariants as backing
use Rattle.mm_types.specs.declared.frames.Request.TheVariants as request
use Rattle.mm_types.specs.declared.moves.Move.TheVariants as move
use Rattle.mm_move_rules.specs.{record_at, is_read, has_request, FrameLife, is_io, is_access, after_move, Replays, Waiting, Idle, ForFrame, Ended, wait_of}
use Rattle.mm_move_rules.specs.{ended_by, waits_after, waits_through}
use Rattle.mm_move_laws.specs.{Fit, is_backed}
use Rattle.mm_move_laws.specs.Sound.{Sound}
use Rattle.mm_move_laws.proofs.{keeps}
use Rattle.mm_world.specs.{wait_failed, Page, kept_by}
use Rattle.mm_devices.specs.{DeviceCall, DeviceOf, Call, AllServed, logged_call, CallFailed}
use Rattle.mm_devices.proofs.{all_served_failed}
use Rattle.mm_store.specs.{in_slot, in_block, call_of, calls_of, paging_traffic, file_traffic, AllTurn, Makes, Aim}
use Rattle.mm_store.specs.Behind.{Behind}
use Rattle.mm_world.specs.World.{World}
use Rattle.mm_world.specs.Report.{Report}
use Rattle.mm_line_moves.specs.{aim_of, Line, Does, awaited, is_pending_read, keeps_for, wait_of_begin, waits_of_line, asks_beside}
use Rattle.mm_dispatch.specs.{OneFailed}

-- ---- the read of a thread has failed

abbrev pub is_lost : Waiting → Bool
is_lost w = wait_failed (wait_of w)

abbrev pub is_bad : Move → Bool
is_bad (move.Bad f) = true
is_bad _ = false

abbrev pub has_bad : List Move → Bool
has_bad [] = false
has_bad (m ∷ ms) = is_bad m || has_bad ms

either_end : (b : Bool) (ok : Bool) (g : ℕ) → ok ≡ true → is_lost (if b then Ended ok else ForFrame g) ≡ true → ⊥
either_end true true g e h = let no_way : false ≡ true = h in cc
either_end true false g e h = cc
either_end false ok g e h = let no_way : false ≡ true = h in cc

ended_well : (f : ℕ) (w : Waiting) → is_lost (ended_by f true w) ≡ true → is_lost w ≡ true
ended_well f Idle h = h
ended_well f (ForFrame g) h = absurd (either_end (g == f) true g refl h)
ended_well f (Ended b) h = h

lost_by : (m : Move) (waits : ℕ → Waiting) (t : ℕ) → is_lost (waits_after m waits t) ≡ true → (is_lost (waits t) ≡ true) ⊎ (is_bad m ≡ true)
lost_by (move.Got f) waits t h = inl (ended_well f.0 (waits t) h)
lost_by (move.Bad f) waits t h = inr refl
lost_by m waits t h = inl h

pub lost_through : (ms : List Move) (waits : ℕ → Waiting) (t : ℕ) → is_lost (waits_through ms waits t) ≡ true → (is_lost (waits t) ≡ true) ⊎ (has_bad ms ≡ true)
lost_through [] waits t h = inl h
lost_through (m ∷ ms) waits t h = elim (lost_through ms (waits_after m waits) t h) [
  | inr bad ↦ inr (or_right (is_bad m) (has_bad ms) bad)
  | inl was ↦ elim (lost_by m waits t was) [ inl w ↦ inl w | inr bad ↦ inr (or_left (is_bad m) (has_bad ms) bad) ]
]

-- ---- a failed read of a frame is a failed call of a device

abbrev pub any_failed : List DeviceCall → Bool
any_failed [] = false
any_failed (c ∷ cs) = not c.succeeded || any_failed cs

later_failed : (xs ys : List DeviceCall) → any_failed ys ≡ true → any_failed (xs ++ ys) ≡ true
later_failed [] ys h = h
later_failed (x ∷ xs) ys h = or_right (not x.succeeded) (any_failed (xs ++ ys)) (later_failed xs ys h)

read_has : (r : Request) → is_read r ≡ true → has_request r ≡ true
read_has request.None e = cc
read_has r e = refl

backed_read : (r : Record) → Fit r → is_read r.request ≡ true → is_backed r.backing ≡ true
backed_read r fit read = fit.clean (or_right (is_some r.owner) (has_request r.request) (read_has r.request read)) (fit.reading read).1

-- one of the calls that these moves stand for failed
abbrev pub AnyFailed : FrameLife → List Move → Type 0
AnyFailed l ms = (any_failed (paging_traffic l ms) ≡ true) ⊎ (any_failed (file_traffic l ms) ≡ true)

bad_calls : (b : Backing) (ps fs : List DeviceCall) → is_backed b ≡ true → (any_failed (in_slot way.Read false b ++ ps) ≡ true) ⊎ (any_failed (in_block way.Read false b ++ fs) ≡ true)
bad_calls backing.None ps fs e = cc
bad_calls (backing.Slot s) ps fs e = inl refl
bad_calls (backing.Block b) ps fs e = inr refl

further : (m : Move) (l : FrameLife) (ms : List Move) → AnyFailed (after_move l m) ms → AnyFailed l (m ∷ ms)
further m l ms h = elim h [
  | inl p ↦ inl (later_failed (call_of in_slot l m) (calls_of in_slot (after_move l m) ms) p)
  | inr f ↦ inr (later_failed (call_of in_block l m) (calls_of in_block (after_move l m) ms) f)
]

bad_traffic : (ms : List Move) (l m : FrameLife) → Sound l → Replays ms l m → has_bad ms ≡ true → AnyFailed l ms
bad_traffic [] l m s r h = cc
bad_traffic (move.Bad f ∷ ms) l m s r h =
    bad_calls (record_at l.frames f.0).backing (calls_of in_slot (after_move l (move.Bad f)) ms) (calls_of in_block (after_move l (move.Bad f)) ms)
    (backed_read (record_at l.frames f.0) (s.standing f.0).fit (and_parts (is_read (record_at l.frames f.0).request) (is_io l.kind || is_access l.kind) r.0).0)
bad_traffic (x ∷ ms) l m s r h = further x l ms (bad_traffic ms (after_move l x) m (keeps x l s r.0) r.1 h)

any_call : (cs : List Call) → list_any (λ c. not c.succeeded) cs ≡ any_failed (map logged_call cs)
any_call [] = refl
any_call (c ∷ cs) = ap (λ b. not c.succeeded || b) (any_call cs)

one_failed : (cs : List Call) (d z : DeviceOf) → AllServed cs d z → any_failed (map logged_call cs) ≡ true → CallFailed d z
one_failed cs d z h q = all_served_failed cs d z h (any_call cs ∙ q)

makes_no_bad : (ms : List Move) → AllTurn Makes ms → has_bad ms ≡ false
makes_no_bad [] u = refl
makes_no_bad (move.Add k b ∷ ms) u = makes_no_bad ms u.1
makes_no_bad (m ∷ ms) u = (let no_way : false ≡ true = u.0 in cc)

-- ---- a line

frame_waits : (o : Option ℕ) → is_lost (unwrap_or (option_map ForFrame o) Idle) ≡ true → ⊥
frame_waits None h = let no_way : false ≡ true = h in cc
frame_waits (Some f) h = let no_way : false ≡ true = h in cc

awaited_waits : (o : Option Aim) (l : FrameLife) → is_lost (awaited o l) ≡ true → ⊥
awaited_waits None l h = let no_way : false ≡ true = h in cc
awaited_waits (Some a) l h = frame_waits _ h

pending_waits : (b : Bool) (w : Waiting) → (is_lost w ≡ true → ⊥) → is_lost (if b then w else Idle) ≡ true → ⊥
pending_waits true w n h = n h
pending_waits false w n h = let no_way : false ≡ true = h in cc

one_waits : (b : Bool) (w y : Waiting) → (is_lost w ≡ true → ⊥) → is_lost (if b then w else y) ≡ true → is_lost y ≡ true
one_waits true w y n h = absurd (n h)
one_waits false w y n h = h

left_waits : (b : Bool) (y : Waiting) → is_lost (if b then Idle else y) ≡ true → is_lost y ≡ true
left_waits true y h = let no_way : false ≡ true = h in cc
left_waits false y h = h

begin_waits : (o : Option Aim) (tid : ℕ) (a : Answer) (waits : ℕ → Waiting) (l : FrameLife) (t : ℕ) → is_lost (wait_of_begin o tid a waits l t) ≡ true → is_lost (waits t) ≡ true
begin_waits None tid a waits l t h = h
begin_waits (Some aim) tid a waits l t h =
    one_waits (t == tid) (if is_pending_read a then awaited (Some aim) l else Idle) (waits t)
    (pending_waits (is_pending_read a) (awaited (Some aim) l) (awaited_waits (Some aim) l)) h

line_waits : (w : World) (e : Event) (a : Answer) (b : Behind) (waits : ℕ → Waiting) (l : FrameLife) (t : ℕ) → is_lost (waits_of_line w e a b waits l t) ≡ true → is_lost (waits t) ≡ true
line_waits w (line.Begin tid pid what) a b waits l t h = begin_waits (aim_of w b.life (line.Begin tid pid what)) tid.0 a waits l t h
line_waits w (line.Resume tid) a b waits l t h =
    one_waits (t == tid.0) (if is_pending_read a then awaited (aim_of w b.life (line.Resume tid)) l else Idle) (waits t)
    (pending_waits (is_pending_read a) (awaited (aim_of w b.life (line.Resume tid)) l) (awaited_waits (aim_of w b.life (line.Resume tid)) l)) h
line_waits w (line.Exit pid) a b waits l t h = left_waits (keeps_for (kept_by w t) pid) (waits t) h
line_waits w e a b waits l t h = h

beside_no_bad : (w : World) (e : Event) (a : Answer) (v : World) (r : Report) (b : Behind) (ms : List Move) (c : Behind) → asks_beside e ≡ true → Does w e a v r b ms c → has_bad ms ≡ false
beside_no_bad w (line.File name pages byte) a v r b ms c q d = makes_no_bad ms d.all
beside_no_bad w (line.Grow n) a v r b ms c q d = ap has_bad d
beside_no_bad w (line.Fail device direction k n) a v r b ms c q d = ap has_bad d
beside_no_bad w e a v r b ms c q d = (let no_way : false ≡ true = q in cc)

module _ (w : World) (before : Report) (b : Behind) (paging files : DeviceOf) (blocks : List Page) (e : Event) (a : Answer) (piece : List Move) (v : World) (after : Report) (c : Behind) (paging' files' : DeviceOf) (blocks' : List Page) (l : Line w before b paging files blocks e a piece v after c paging' files' blocks') (sound : Sound b.life) (replays : Replays piece b.life c.life) where
  bad_failed : has_bad l.moves ≡ true → OneFailed paging paging' files files'
  bad_failed h = by_traffic (asks_beside e) refl
    where
      whole : has_bad piece ≡ true
      whole = ap has_bad l.begins ∙ h

      by_traffic : (x : Bool) → asks_beside e ≡ x → OneFailed paging paging' files files'
      by_traffic true q = let clash : false ≡ true = sym (beside_no_bad w e a v after _ l.moves c q l.does) ∙ h in cc
      by_traffic false q =
          let t = l.traffic q in
          elim (bad_traffic piece b.life c.life sound replays whole) [
            | inl p ↦ inl (one_failed t.paging_calls paging paging' t.paging_served (ap any_failed t.paging_are ∙ p))
            | inr f ↦ inr (one_failed t.file_calls files files' t.files_served (ap any_failed t.files_are ∙ f))
          ]

  pub lost_line : (t : ℕ) → is_lost (c.waits t) ≡ true → (is_lost (b.waits t) ≡ true) ⊎ OneFailed paging paging' files files'
  lost_line t h =
      elim (lost_through l.moves b.waits t (line_waits w e a b (waits_through l.moves b.waits) c.life t (sym (ap (λ (f : ℕ → Waiting). is_lost (f t)) l.waits) ∙ h))) [
        | inl was ↦ inl was
        | inr bad ↦ inr (bad_failed bad)
      ]
