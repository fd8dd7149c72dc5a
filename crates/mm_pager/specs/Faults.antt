-- What the steps of a fault ask and promise, once for each family of steps.
-- Profile, "Which frame moves, and when".
use Rattle.std.specs.Prelude.{◌≡◌, ℕ, true, false, Option, Some, None, IsSome}
use Rattle.mm_types.specs.{PageFault, Frame, Key, Place}
use Rattle.mm_types.specs.declared.faults.PageFault.TheVariants as fault
use Rattle.mm_types.specs.declared.moves.LineKind.TheVariants as kind
use Rattle.mm_types.specs.declared.moves.Move.TheVariants as move
use Rattle.mm_move_rules.specs.{record_at, is_empty, FrameLife, changed, same_place, is_live, is_shared, key_of_place, set_of, is_access, is_stored}
use Rattle.mm_move_rules.specs.{is_short, is_at_max, fits_place}
use Rattle.mm_frame_laws.specs.{IsSoiled}
use Rattle.mm_store.specs.{Aim, no_calls, is_framed}
use Rattle.mm_parts.specs.{HasSet, front}
use Rattle.mm_state_calls.specs.{StateOf, Made, Searched, moved, moved_with_call, IsFlightOf}
use Rattle.mm_pager.specs.Pieces.{Went, Stuck, TookFrame, AccessBegins, KeepsButNames, Calm, NamesFor, Placed, Fails, InQuietFrame}

-- nothing changed but what calls of devices and moves change, and names
abbrev pub IsCalledOn : StateOf → StateOf → Type 0
IsCalledOn s z = z ≡ record (moved_with_call s z) { names = z.names }

-- ---- what is asked

-- a page on a device can be read in an access, which has no request of its own yet
pub record MayReadIn (k : Key) (s : StateOf) : Type 0 where
  pub access : is_access s.life.kind ≡ true
  pub stored : is_stored (s.life.stands k) ≡ true
  pub own : s.own ≡ None

-- a page may become valid at a place, in whose place no other of its own is live
pub record MayUse (k : Key) (place : Place) (s : StateOf) : Type 0 where
  pub bound : s.bound place ≡ true
  pub fits : fits_place place k ≡ true
  pub alone : is_shared k ≡ true → s.contents (key_of_place place) ≡ None
  pub aside : s.aside ≡ None

-- a process has a working set, which is full
pub record HasFullSet (l : FrameLife) (pid : ℕ) : Type 0 where
  pub set : HasSet l pid
  pub full : is_at_max (set_of l pid) ≡ true

-- an access of a page that is not valid at its place has come so far as to need it there
pub record MayFault (k : Key) (place : Place) (s : StateOf) : Type 0 where
  pub access : s.life.kind ≡ kind.Access place.pid
  pub live : is_live s.life k ≡ true
  pub usable : MayUse k place s
  pub free : s.life.valid place ≡ None
  pub own : s.own ≡ None

-- ---- a frame is found

-- no frame was found beside the pinned one
pub record FindsNone (pinned : Option Frame) (e : PageFault) (s z : StateOf) : Type 0 where
  pub why : e ≡ fault.NoFrame
  pub short : is_short s.life ≡ true
  pub searched : Searched pinned false s z

-- a frame is free or zeroed now, where one could be taken: it was, or the first on standby is taken
pub data FreeNow (s z : StateOf) : Type 0 where
  Free : z ≡ s → FreeNow s z
  Stolen : is_empty s.life.frames.zeroed ≡ true → is_empty s.life.frames.free ≡ true →
      Made (move.Steal (front s.life.frames.standby)) s z → z ≡ moved s z → FreeNow s z

-- a frame is zeroed now: it was, or the first that is free then is cleared
pub data Readies (s z : StateOf) : Type 0 where
  Zeroed : z ≡ s → Readies s z
  Cleared : (x : StateOf) → is_empty s.life.frames.zeroed ≡ true → FreeNow s x →
      Made (move.Clear (front x.life.frames.free)) x z → z ≡ moved x z → Readies s z

-- ---- a frame is given

-- a demand-zero page got this frame: no device was called, and no place is valid that was not
pub record GivesFrame (k : Key) (f : Frame) (s z : StateOf) : Type 0 where
  pub went : (a : Aim) → a.need.key ≡ k → s.life.valid a.place ≡ None → TookFrame a 0 s z
  pub keeps : KeepsButNames s z
  pub stored : (z.slots ≡ s.slots) × (z.blocks ≡ s.blocks)
  pub calm : z.told ≡ record (s.told) { search_writes = no_calls }
  pub names : NamesFor k s z
  pub frame : InQuietFrame k f z
  pub flight : z.life.flight ≡ s.life.flight
  pub valid : z.life.valid ≡ s.life.valid
  -- a key beside the tables stays there
  pub beside : (place : Place) → s.aside ≡ Some place → k ≡ key_of_place place → z.names ≡ s.names
  pub soiled : (record_at z.life.frames f.0).owner ≡ Some k → IsSoiled (record_at z.life.frames f.0)

-- ---- a page gets its frame

-- the page has a frame
pub record Brings (k : Key) (f : Frame) (s z : StateOf) : Type 0 where
  pub went : (a : Aim) → AccessBegins a k s → Went a 1 s z
  pub keeps : KeepsButNames s z
  pub calm : Calm s z
  pub names : NamesFor k s z
  pub frame : InQuietFrame k f z
  pub flight : IsFlightOf s.life.flight (Some f) z.life

-- it has none
pub record FailsToBring (k : Key) (e : PageFault) (s z : StateOf) : Type 0 where
  pub stuck : (a : Aim) → AccessBegins a k s → Stuck a e 1 s z
  pub fails : Fails e k s z

-- ---- it becomes valid

-- a page became valid at a place, by no call of a device
pub record PutsAtPlace (k : Key) (f : Frame) (place : Place) (s z : StateOf) : Type 0 where
  pub stored : (z.slots ≡ s.slots) × (z.blocks ≡ s.blocks)
  pub placed : Placed k f place s z
  pub told : z.told ≡ s.told
  pub flight : z.life.flight ≡ s.life.flight

-- a page that was not valid at a place is so now, in this frame
pub record Faulted (k : Key) (f : Frame) (place : Place) (s z : StateOf) : Type 0 where
  pub went : (a : Aim) → a.place ≡ place → AccessBegins a k s → Went a 1 s z
  pub calm : Calm s z
  pub placed : Placed k f place s z
  pub flight : IsFlightOf s.life.flight (Some f) z.life

-- and can be written
pub record FaultsToWrite (k : Key) (place : Place) (s z : StateOf) : Type 0 where
  pub went : (a : Aim) → a.place ≡ place → a.writes ≡ true → a.need.copy ≡ None →
      AccessBegins a k s → Went a 1 s z
  pub calm : Calm s z
  pub framed : is_framed (z.life.stands k) ≡ true
  pub valid : IsSome (z.life.valid place)
  pub soiled : (f : Frame) → z.life.valid place ≡ Some f → IsSoiled (record_at z.life.frames f.0)
  pub names : z.names ≡ changed same_place s.names place (Some k)
  pub same : IsCalledOn s z
