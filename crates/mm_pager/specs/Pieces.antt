-- Pieces of an access: moves that end where a search could begin, and those with which it fails.
-- Profile, "Which frame moves, and when".
use Rattle.std.specs.Prelude.{length, ◌≡◌, ◌≤◌, ◌+◌, ◌⊎◌, ℕ, Bool, true, false, List, [], count_by, Option, Some, None, ◌<◌, ◌-◌, slice_get}
use Rattle.mm_types.specs.{PageFault, Move, Frame, Key, Place, Pid}
use Rattle.mm_types.specs.declared.faults.PageFault.TheVariants as fault
use Rattle.mm_types.specs.declared.frames.Held.TheVariants as held
use Rattle.mm_types.specs.declared.moves.LineKind.TheVariants as kind
use Rattle.mm_types.specs.declared.moves.Move.TheVariants as move
use Rattle.mm_types.specs.declared.numbers.Key.TheVariants.{Private, Shared}
use Rattle.mm_move_rules.specs.{record_at, is_read, is_short, Walk, Through, walked_all, is_read_move, takes_frame, is_wrote_move, Starved, ending}
use Rattle.mm_move_rules.specs.{FrameLife, changed, same_place, fits_place}
use Rattle.mm_store.specs.{Done, Aim, AccessMove, ReadFails, is_read_fault, is_had, place_at, Turns, page_rank, PassesIn, no_calls, is_framed, is_shortage}
use Rattle.mm_store.specs.declared.outcomes.Done.TheVariants as done
use Rattle.mm_store.specs.Housekeeping.{Ends}
use Rattle.mm_store.specs.Leaving.{Leaving}
use Rattle.mm_pager.specs.Shown.{OwnOf, store_of, behind_of}
use Rattle.mm_state_calls.specs.{StateOf, Made, moved, moved_with_call, SomeFault, DoesMoves}

-- in the middle of a search: frames whose write failed
abbrev pub walk_at : List ℕ → StateOf → Walk
walk_at tried s = record { life = s.life; ages = s.ages; tried = tried }

-- Moves of an access, from where these frames were tried: at most so many reads, of which the last
-- fails or none does, and of its writes `paid` fewer than frames that are taken, or `owed` more.
-- They end where this holds of the walk.
pub record Piece (a : Aim) (End : Walk → Type 0) (failed : Bool) (reads paid owed : ℕ)
    (tried : List ℕ) (s z : StateOf) : Type 0 where
  pub moves : List Move
  pub does : DoesMoves moves s z
  pub each : Through (AccessMove a) (walk_at tried s) moves
  pub ends : End (walked_all (walk_at tried s) moves)
  pub fails : ReadFails failed moves
  pub few_reads : count_by is_read_move moves ≤ reads
  pub few_writes : count_by is_wrote_move moves + paid ≤ count_by takes_frame moves + owed

-- a search would begin anew
abbrev pub IsFresh : Walk → Type 0
IsFresh w = w.tried ≡ []

abbrev pub Anywhere : Walk → Type 0
Anywhere w = Unit {0}

-- where no frame could be had one was wanted, and all was tried
abbrev pub HasTried : Aim → PageFault → StateOf → Walk → Type 0
HasTried a why z w = why ≡ fault.NoFrame → (is_shortage a.need a.place z.life ≡ true) ×
    Starved (z.life.valid a.place) w

-- moves of an access, with at most so many reads, after which a new search would begin
abbrev pub Went : Aim → ℕ → StateOf → StateOf → Type 0
Went a reads s z = Piece a IsFresh false reads 0 0 [] s z

-- the moves of an access that failed
abbrev pub Stuck : Aim → PageFault → ℕ → StateOf → StateOf → Type 0
Stuck a why reads s z = Piece a (HasTried a why z) (is_read_fault why) reads 0 0 [] s z

-- the search of an access
abbrev pub Sought : Aim → StateOf → StateOf → Type 0
Sought a s z = Piece a Anywhere false 0 0 1 [] s z

-- a frame is taken, whatever was tried in the search before, and so this holds where it ends
abbrev pub TakesFrame : Aim → (Walk → Type 0) → Bool → ℕ → StateOf → StateOf → Type 0
TakesFrame a End failed reads s z = (t : List ℕ) → Piece a End failed reads 1 0 t s z

abbrev pub TookFrame : Aim → ℕ → StateOf → StateOf → Type 0
TookFrame a reads s z = TakesFrame a IsFresh false reads s z

-- the copy that an access makes, if any, has not come to be
abbrev pub IsUncopied : Aim → StateOf → Type 0
IsUncopied a s = (j : Key) → a.need.copy ≡ Some j → s.contents j ≡ None

-- a page is read for a place that is not valid: it has no frame, and had none when the access began
pub record ReadsFor (a : Aim) (k : Key) (s : StateOf) : Type 0 where
  pub needs : a.need.key ≡ k
  pub absent : is_had a.start (a.start.stands k) ≡ false
  pub free : s.life.valid a.place ≡ None
  pub unframed : is_framed (s.life.stands k) ≡ false

-- the page of an access becomes valid at its place, where no copy has come to be
pub record PutsFor (a : Aim) (k : Key) (place : Place) (s : StateOf) : Type 0 where
  pub at : a.place ≡ place
  pub needs : a.need.key ≡ k
  pub uncopied : IsUncopied a s

-- the access begins here, at this place, for this page
pub record Reaches (a : Aim) (k : Key) (place : Place) (s : StateOf) : Type 0 where
  pub at : a.place ≡ place
  pub needs : a.need.key ≡ k
  pub from : a.start ≡ s.life

-- the access begins, for this page, at a place that is not valid
pub record AccessBegins (a : Aim) (k : Key) (s : StateOf) : Type 0 where
  pub needs : a.need.key ≡ k
  pub from : a.start ≡ s.life
  pub at : s.life.valid a.place ≡ None
  pub uncopied : IsUncopied a s

-- what stays in an access, but for names
pub record KeepsButNames (s z : StateOf) : Type 0 where
  pub kind : z.life.kind ≡ s.life.kind
  pub unmapped : (p : Place) → s.life.valid p ≡ None → z.life.valid p ≡ None
  pub same : z ≡ record (moved_with_call s z) { names = z.names }

-- of the line's report: no read failed, and a new search would begin
pub record Calm (s z : StateOf) : Type 0 where
  pub read : z.told.last_failed_read ≡ s.told.last_failed_read
  pub begun : s.told.search_writes ≡ no_calls → z.told.search_writes ≡ no_calls

-- the names differ at most at the page's own place
abbrev pub NamesFor : Key → StateOf → StateOf → Type 0
NamesFor k s z = (place : Place) (v : Option Key) → fits_place place k ≡ true →
    changed same_place z.names place v ≡ changed same_place s.names place v

-- what failed, by the report: the read of the key, or a search
pub record Causes (why : PageFault) (k : Key) (s z : StateOf) : Type 0 where
  pub read : why ≡ fault.Read → z.told.last_failed_read ≡ Some k
  pub kept : why ≡ fault.NoFrame → z.told.last_failed_read ≡ s.told.last_failed_read
  pub short : why ≡ fault.NoFrame → is_short z.life ≡ true
  pub failed : why ≡ fault.NoFrame → 1 ≤ z.told.search_writes.failed
  pub none : why ≡ fault.NoFrame → s.told.search_writes ≡ no_calls →
      z.told.search_writes.succeeded ≡ 0
  pub fault : SomeFault s z

-- so a page that has no frame could not be had
pub record Fails (why : PageFault) (k : Key) (s z : StateOf) : Type 0 where
  pub causes : Causes why k s z
  pub unframed : why ≡ fault.NoFrame → is_framed (z.life.stands k) ≡ false
  pub same : z ≡ moved_with_call s z

-- the key stands in this frame, which is not being read
pub record InQuietFrame (k : Key) (f : Frame) (s : StateOf) : Type 0 where
  pub stands : s.life.stands k ≡ held.Frame f
  pub quiet : is_read (record_at s.life.frames f.0).request ≡ false

-- a page is valid at a place then, where it was not
pub record Placed (k : Key) (f : Frame) (place : Place) (s z : StateOf) : Type 0 where
  pub valid : z.life.valid place ≡ Some f
  pub names : z.names ≡ changed same_place s.names place (Some k)
  pub kind : z.life.kind ≡ s.life.kind
  pub frame : InQuietFrame k f z
  pub same : z ≡ record (moved_with_call s z) { names = z.names }

-- a page is soiled, or was so
pub data Soils (f : Frame) (s z : StateOf) : Type 0 where
  Was : z ≡ s → Soils f s z
  Is : Made (move.Soil f) s z → z ≡ moved s z → Soils f s z

-- what moves leave of the life of the frames, where these keys are the paging file's then
pub record LifeBut (pages : Key → Bool) (count : ℕ) (l m : FrameLife) : Type 0 where
  pub machine : m.machine ≡ l.machine
  pub line : m.line ≡ l.line
  pub kind : m.kind ≡ l.kind
  pub paging : m.paging ≡ pages
  pub keys : m.paging_keys ≡ count
  pub pids : length m.sets ≡ length l.sets
  pub added : m.added ≡ l.added

-- what moves within a line leave of it
abbrev pub LifeKept : FrameLife → FrameLife → Type 0
LifeKept l m = LifeBut l.paging l.paging_keys l m

-- a place can be let go: it is not valid, or the line unbinds pages of its process
abbrev pub MayLetGo : Place → StateOf → Type 0
MayLetGo p s = (f : Frame) → s.life.valid p ≡ Some f → s.life.kind ≡ kind.Unbind p.pid

-- a place is valid no more, where it was
pub data LetGo (p : Place) (s z : StateOf) : Type 0 where
  Still : z ≡ s → s.life.valid p ≡ None → LetGo p s z
  Gone : Made (move.Unmap p) s z → z ≡ moved s z → LetGo p s z

-- the own place of a private key can be let go, and is
abbrev pub MayLetOwnGo : Key → StateOf → Type 0
MayLetOwnGo (Private pid vpn) s = (s.bound (record {
  pid = pid;
  vpn = vpn;
}) ≡ true) × MayLetGo (record { pid = pid; vpn = vpn }) s
MayLetOwnGo (Shared area index) s = Unit {0}

abbrev pub OwnLetGo : Key → StateOf → StateOf → Type 0
OwnLetGo (Private pid vpn) s z = LetGo (record { pid = pid; vpn = vpn }) s z
OwnLetGo (Shared area index) s z = z ≡ s

-- some places are valid no more
pub record Thins (s z : StateOf) : Type 0 where
  pub life : LifeKept s.life z.life
  pub stands : z.life.stands ≡ s.life.stands
  pub valid : (p : Place) (f : Frame) → z.life.valid p ≡ Some f → s.life.valid p ≡ Some f
  pub unmapped : (p : Place) → s.life.valid p ≡ None → z.life.valid p ≡ None
  pub told : z.told ≡ s.told
  pub waits : z.waits ≡ s.waits
  pub same : z ≡ moved s z

-- so places among these are, page by page, from one rank to before another
abbrev pub LetsGo : Leaving → ℕ → ℕ → StateOf → StateOf → Type 0
LetsGo held from to s z = (o u : OwnOf) →
    PassesIn false (Turns (Ends held from to)) (store_of s o) (store_of z u) (behind_of s)
    (behind_of z)

-- the i-th oldest request, counted from 1, has ended, well or not
pub record EndsOne (i : ℕ) (ok : Bool) (s z : StateOf) : Type 0 where
  pub frame : Frame
  pub found : slice_get s.life.flight (i - 1) ≡ Some frame.0
  pub made : Made (ending (record_at s.life.frames frame.0) frame ok) s z
  pub same : z ≡ moved_with_call s z

-- it has, if there were so many
abbrev pub EndsAs : ℕ → Done → StateOf → StateOf → Type 0
EndsAs i done.None s z = (length s.life.flight < i) × (z ≡ s)
EndsAs i done.Ok s z = EndsOne i true s z
EndsAs i done.Failed s z = EndsOne i false s z

-- the lowest valid page of a process from `from` up to `end`, if there is one, is valid no more;
-- `next` is the page to go on from
pub record NextGone (pid : Pid) (from end next : ℕ) (s z : StateOf) : Type 0 where
  pub more : from < next
  pub within : next ≤ end
  pub went : (held : Leaving)
      → ((page : ℕ) → from ≤ page → page < end → held.places (place_at pid page) ≡ true)
      → LetsGo held (page_rank from) (page_rank next) s z
  pub thins : Thins s z
  pub invalid : (page : ℕ) → from ≤ page → page < next → z.life.valid (place_at pid page) ≡ None
