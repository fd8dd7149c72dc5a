-- The moves that an access makes.
-- Profile, "Which frame moves, and when".
use Rattle.std.specs.Prelude.{◌≡◌, ◌⊎◌, ◌≤◌, ℕ, Bool, true, false, not, if◌then◌else◌, is_some, List, [], ◌∷◌, count_by, Some, None, option_map, unwrap_or, ◌==◌, Result, Ok, Err}
use Rattle.mm_types.specs.{PageFault, Held, Move, Frame, Key, Place, Record, Why}
use Rattle.mm_types.specs.declared.faults.PageFault.TheVariants as fault
use Rattle.mm_types.specs.declared.frames.Held.TheVariants as held
use Rattle.mm_types.specs.declared.moves.Move.TheVariants as move
use Rattle.mm_move_rules.specs.{record_at, is_on, is_read, is_write, is_again, is_stored, has_depth, FrameLife, set_of, is_live, is_access, is_at_max, shows_shared}
use Rattle.mm_move_rules.specs.{Waiting, Idle, ForFrame, Walk, Through}
use Rattle.mm_move_rules.specs.{walked_all, waits_through, ages_through, is_read_move, takes_frame, is_wrote_move, IsOldest, IsVictim, IsWriteEnded}
use Rattle.mm_move_rules.specs.{Starved, next_writable}
use Rattle.mm_world.specs.{Need}
use Rattle.mm_move_rules.specs.{same_place}
use Rattle.mm_move_rules.specs.{changed}
use Rattle.mm_types.specs.declared.answers.Why.TheVariants as why
use Rattle.mm_store.specs.declared.outcomes.Start.{Start}
use Rattle.mm_store.specs.declared.outcomes.Start.TheVariants as start
use Rattle.mm_store.specs.Behind.{Behind}
use Rattle.mm_store.specs.Shortage.{is_shortage, wants_frame}

-- what an access is about: its place, what it needs, whether it writes, and how the frames stood
-- when its line began
pub record Aim : Type 0 where
  pub place : Place
  pub need : Need
  pub writes : Bool
  pub start : FrameLife

-- the page has a frame, and no read of it is in flight
abbrev pub is_had : FrameLife → Held → Bool
is_had l (held.Frame f) = not (is_read (record_at l.frames f.0).request)
is_had l (held.Slot s) = false
is_had l (held.Block b) = false
is_had l held.Zero = false
is_had l held.Dead = false

-- the next move gives the frame to a page
abbrev pub IsGivenAtOnce : Frame → List Move → Type 0
IsGivenAtOnce f [] = ⊥
IsGivenAtOnce f (move.Give g k ∷ ms) = g ≡ f
IsGivenAtOnce f (m ∷ ms) = ⊥

-- the same, where a page to be given it may come to be in between
abbrev pub IsGivenNext : Frame → List Move → Type 0
IsGivenNext f [] = ⊥
IsGivenNext f (move.Give g k ∷ ms) = g ≡ f
IsGivenNext f (move.Add k b ∷ ms) = IsGivenAtOnce f ms
IsGivenNext f (m ∷ ms) = ⊥

-- the next move clears the frame, or reads a page into it
abbrev pub IsUsedNext : Frame → List Move → Type 0
IsUsedNext f [] = ⊥
IsUsedNext f (move.Clear g ∷ ms) = g ≡ f
IsUsedNext f (move.Read g k ∷ ms) = g ≡ f
IsUsedNext f (m ∷ ms) = ⊥

-- the next move gives a frame to the key
abbrev pub IsGiven : Key → List Move → Type 0
IsGiven k [] = ⊥
IsGiven k (m ∷ ms) = (f : Frame) × (m ≡ move.Give f k)

-- the next move ends the frame's request
abbrev pub IsReadEnded : Frame → List Move → Type 0
IsReadEnded f [] = ⊥
IsReadEnded f (m ∷ ms) = (m ≡ move.Got f) ⊎ (m ≡ move.Bad f)

-- the next move maps a page at this place
abbrev pub IsMapped : Place → List Move → Type 0
IsMapped p [] = ⊥
IsMapped p (m ∷ ms) = (f : Frame) × (m ≡ move.Map f p)

-- the page that a write changes: the copy, where one is made
abbrev pub key_written : Need → Key
key_written n = unwrap_or n.copy n.key

abbrev pub is_copied : Need → FrameLife → Bool
is_copied n l = unwrap_or (option_map (λ k. is_live l k) n.copy) false

-- the page that becomes valid at the place: the copy, once it has come to be
abbrev pub key_shown : Need → FrameLife → Key
key_shown n l = if is_copied n l then key_written n else n.key

-- a page goes in an access: the shared one of the access's own place, right before its copy is
-- mapped there; the oldest of a full set, where the place is not valid, right before the map into
-- it; or in shortage, where each frame that can be written was tried, in an access that may wait for
-- devices
pub data PageGoes (a : Aim) (w : Walk) (p : Place) (rest : List Move) : Type 0 where
  ByCopy : p ≡ a.place → is_copied a.need w.life ≡ true → shows_shared w.life p ≡ true →
      IsMapped a.place rest → PageGoes a w p rest
  FromFull : p.pid ≡ a.place.pid → w.life.valid a.place ≡ None →
      is_at_max (set_of w.life p.pid.0) ≡ true → IsOldest w.life w.ages None p →
      IsMapped a.place rest → PageGoes a w p rest
  InShortage : is_access w.life.kind ≡ true → is_shortage a.need a.place w.life ≡ true →
      next_writable w ≡ None → IsVictim w.life w.ages (w.life.valid a.place) p →
      PageGoes a w p rest

-- the frame's page is the key to be had, and is not valid at the place yet
abbrev pub IsOfNeed : Aim → FrameLife → Frame → Type 0
IsOfNeed a l f = ((record_at l.frames f.0).owner ≡ Some a.need.key) × (l.valid a.place ≡ None)

-- what each move of an access is
abbrev pub AccessMove : Aim → Walk → Move → List Move → Type 0
AccessMove a w (move.At n k) rest = ⊥
AccessMove a w (move.Add k None) rest = (a.need.copy ≡ Some k) ×
    (is_some (w.life.valid a.place) ≡ true) × IsGiven k rest
AccessMove a w (move.Add k (Some b)) rest = ⊥
AccessMove a w (move.Drop k) rest = ⊥
AccessMove a w (move.Clear f) rest = (wants_frame a.need a.place w.life ≡ true) ×
    IsGivenNext f rest
AccessMove a w (move.Steal f) rest = (wants_frame a.need a.place w.life ≡ true) × IsUsedNext f rest
AccessMove a w (move.Give f k) rest = ((k ≡ a.need.key) × (w.life.valid a.place ≡ None)) ⊎
    (a.need.copy ≡ Some k)
AccessMove a w (move.Read f k) rest =
    (k ≡ a.need.key) × (w.life.valid a.place ≡ None) ×
    (is_had a.start (a.start.stands k) ≡ false) ×
    (is_access w.life.kind ≡ true → IsReadEnded f rest)
AccessMove a w (move.Got f) rest = IsOfNeed a w.life f
AccessMove a w (move.Bad f) rest = IsOfNeed a w.life f
AccessMove a w (move.Map f p) rest = (p ≡ a.place) ×
    ((record_at w.life.frames f.0).owner ≡ Some (key_shown a.need w.life))
AccessMove a w (move.Unmap p) rest = PageGoes a w p rest
AccessMove a w (move.Soil f) rest = (a.writes ≡ true) × (w.life.valid a.place ≡ Some f) ×
    ((record_at w.life.frames f.0).owner ≡ Some (key_written a.need))
AccessMove a w (move.Write f s) rest = (is_shortage a.need a.place w.life ≡ true) ×
    (next_writable w ≡ Some f.0) × IsWriteEnded f rest
AccessMove a w (move.Wrote f) rest = is_on f.0 a.start.flight ≡ false
AccessMove a w (move.Lost f) rest = is_on f.0 a.start.flight ≡ false

abbrev pub walk_from : Behind → Walk
walk_from b = record { life = b.life; ages = b.ages; tried = [] }

-- the moves of an access, from what stood behind the store when they began
pub record AccessMoves (a : Aim) (b : Behind) (moves : List Move) : Type 0 where
  pub each : Through (AccessMove a) (walk_from b) moves
  pub one_read : count_by is_read_move moves ≤ 1
  pub few_writes : count_by is_wrote_move moves ≤ count_by takes_frame moves

-- whether a read fails among these moves: if so, it is the last of them and the only one
abbrev pub ReadFails : Bool → List Move → Type 0
ReadFails failed [] = failed ≡ false
ReadFails failed (move.Bad f ∷ ms) = (failed ≡ true) × (ms ≡ [])
ReadFails failed (m ∷ ms) = ReadFails failed ms

abbrev pub is_read_fault : PageFault → Bool
is_read_fault fault.Read = true
is_read_fault fault.NoFrame = false

-- the frame's page is this, and what was written to it last is not lost: it is changed, and where a
-- write of it is in flight it is to be written again
pub record IsSoiledFor (k : Key) (r : Record) : Type 0 where
  pub owner : r.owner ≡ Some k
  pub changed : r.changed ≡ true
  pub again : is_write r.request ≡ true → is_again r.request ≡ true

-- what an access leaves that was served: its place is valid, and if it writes, for the page that it
-- changed, which is soiled
pub record IsServed (a : Aim) (l : FrameLife) : Type 0 where
  pub valid : is_some (l.valid a.place) ≡ true
  pub soiled : a.writes ≡ true → (f : Frame) → l.valid a.place ≡ Some f →
      IsSoiledFor (key_written a.need) (record_at l.frames f.0)

-- of an access answered with its bytes: its place is as young as can be, and no thread waits but by
-- its moves
pub record Had (a : Aim) (b : Behind) (moves : List Move) (c : Behind) : Type 0 where
  pub made : AccessMoves a b moves
  pub read : ReadFails false moves
  pub waits : c.waits ≡ waits_through moves b.waits
  pub served : IsServed a c.life
  pub ages : c.ages ≡ changed same_place (ages_through moves b.ages) a.place 0

-- of an access that failed: a read of its page, or no frame was found where one was wanted
pub record Failed (a : Aim) (why : PageFault) (b : Behind) (moves : List Move) (c : Behind) :
    Type 0 where
  pub made : AccessMoves a b moves
  pub read : ReadFails (is_read_fault why) moves
  pub waits : c.waits ≡ waits_through moves b.waits
  pub ages : c.ages ≡ ages_through moves b.ages
  pub short : why ≡ fault.NoFrame → is_shortage a.need a.place c.life ≡ true
  pub starved : why ≡ fault.NoFrame →
      Starved (c.life.valid a.place) (walked_all (walk_from b) moves)

abbrev pub AccessEnds : {T : Type 0} → Aim → Result T PageFault → Behind → List Move → Behind →
    Type 0
AccessEnds a (Ok v) b moves c = Had a b moves c
AccessEnds a (Err f) b moves c = Failed a f b moves c

-- of an access at a place that is ready: no move, or the page is soiled
abbrev pub ReadyMoves : Aim → List Move → Behind → Type 0
ReadyMoves a [] b = Unit {0}
ReadyMoves a (m ∷ []) b = (f : Frame) × (m ≡ move.Soil f) × (a.writes ≡ true) ×
    (b.life.valid a.place ≡ Some f) ×
    ((record_at b.life.frames f.0).owner ≡ Some (key_written a.need))
ReadyMoves a (m ∷ n ∷ ms) b = ⊥

-- of a `read` or a `write`, of a place that was ready or not
pub record Touches {T : Type 0} (a : Aim) (IsReady : Type 0) (result : Result T PageFault)
    (b : Behind) (moves : List Move) (c : Behind) : Type 0 where
  pub ends : AccessEnds a result b moves c
  pub calm : IsReady → ReadyMoves a moves b

-- of a `copy`: where it was ready it reads no page
pub record Copies {T : Type 0} (a : Aim) (IsReady : Type 0) (result : Result T PageFault)
    (b : Behind) (moves : List Move) (c : Behind) : Type 0 where
  pub ends : AccessEnds a result b moves c
  pub calm : IsReady → count_by is_read_move moves ≡ 0

-- ---- `start`

abbrev pub wait_begun : Start → Held → Waiting
wait_begun (start.Pending why.Read) (held.Frame f) = ForFrame f.0
wait_begun _ _ = Idle

-- a read of the page is in flight
abbrev pub is_read_in_flight : FrameLife → Held → Bool
is_read_in_flight l (held.Frame f) = is_read (record_at l.frames f.0).request
is_read_in_flight l (held.Slot s) = false
is_read_in_flight l (held.Block b) = false
is_read_in_flight l held.Zero = false
is_read_in_flight l held.Dead = false

-- why an access of a thread cannot go on: its page is being read, or is on a device and no request
-- can begin, or there is no frame for it
abbrev pub IsHeldUp : Why → Aim → FrameLife → Type 0
IsHeldUp why.Read a l = (l.valid a.place ≡ None) ×
    (is_read_in_flight l (l.stands a.need.key) ≡ true)
IsHeldUp why.Full a l = (l.valid a.place ≡ None) × (is_stored (l.stands a.need.key) ≡ true) ×
    (has_depth l ≡ false)
IsHeldUp why.Frame a l = is_shortage a.need a.place l ≡ true

-- of an access of a thread, which waits for no device
pub record Starts (a : Aim) (tid : ℕ) (result : Start) (b : Behind) (moves : List Move)
    (c : Behind) : Type 0 where
  pub made : AccessMoves a b moves
  pub read : ReadFails false moves
  pub waits : c.waits ≡
      changed ◌==◌ (waits_through moves b.waits) tid (wait_begun result (c.life.stands a.need.key))
  pub ages : c.ages ≡ ages_through moves b.ages
  pub slots : c.slots ≡ b.slots
  pub valid : result ≡ start.Ready → is_some (c.life.valid a.place) ≡ true
  pub held_up : (why : Why) → result ≡ start.Pending why → IsHeldUp why a c.life

-- ---- `forget`

pub record Forgets (tid : ℕ) (b : Behind) (moves : List Move) (c : Behind) : Type 0 where
  pub none : moves ≡ []
  pub same : c ≡ record b { waits = changed ◌==◌ b.waits tid Idle }
