-- What a line does to the life of the frames, by the worlds and the reports before and after it.
-- Profile, "Which frame moves, and when".
use Rattle.std.specs.Prelude.{◌≡◌, ◌⊎◌, ◌&&◌, ◌||◌, ℕ, ◌+◌, ◌-◌, ◌==◌, Bool, true, false, not, if◌then◌else◌, is_some, List, [], ◌∷◌, ◌++◌, length, map, replicate, Option, Some, None, option_map, option_and_then, unwrap_or}
use Rattle.mm_types.specs.{Answer, Why, Event, Held, Move, Frame, Key, Pid, Place, View, Kind, Range}
use Rattle.mm_types.specs.declared.answers.Answer.TheVariants as answer
use Rattle.mm_types.specs.declared.answers.Why.TheVariants as why
use Rattle.mm_types.specs.declared.codes.Raise.TheVariants as raise
use Rattle.mm_types.specs.declared.events.Event.TheVariants as line
use Rattle.mm_types.specs.declared.frames.Held.TheVariants as held
use Rattle.mm_types.specs.declared.moves.Move.TheVariants as move
use Rattle.mm_types.specs.declared.views.Kind.TheVariants as view_kind
use Rattle.mm_move_rules.specs.{record_at, FrameLife, is_live, numbers_from, counts_of, after_move, Grew, AreMoves, spelled_moves, Replays, Waiting, Idle}
use Rattle.mm_move_rules.specs.{ForFrame, wait_of, waits_through, ages_through, walked_all, Starved, all_aged, clearings, writes_begun}
use Rattle.mm_world.specs.{Page, filled, KeptOf, RegionOf, Found, process_of, area_at, content_of, shared_key, flushed_view, flushed_range, BeingRead}
use Rattle.mm_world.specs.{kept_by, read_failed}
use Rattle.mm_world.specs.World.{World}
use Rattle.mm_world.specs.Report.{Report}
use Rattle.mm_devices.specs.{DeviceOf, Call, AllServed, logged_call, KeepsOthers}
use Rattle.mm_store.specs.{told_of, told_through, paging_traffic, file_traffic, Aim, AccessMoves, ReadFails, IsServed, IsHeldUp, is_shortage, walk_from, Makes}
use Rattle.mm_move_rules.specs.{same_place}
use Rattle.mm_move_rules.specs.{changed}
use Rattle.mm_store.specs.{MakesStack, Turned, guard_told, Trims, Completes, leaving, where_of, block_at, backed_by, Goes}
use Rattle.mm_store.specs.Behind.{Behind}
use Rattle.mm_store.specs.Flushing.{Flushing}
use Rattle.mm_line_moves.specs.Kinds.{row_key, file_block_of, kind_of_line, aim_of, lives}

-- ---- the state after a line

-- the frames' half tells of the world after the line, and of its report
pub record Agrees (v : World) (after : Report) (c : Behind) : Type 0 where
  -- the keys of the world are those that live
  pub keys : (k : Key) → is_live c.life k ≡ is_some (content_of v k)
  -- a valid place is a committed row, and its frame is that of the row's key
  pub places : (p : Place) (f : Frame) → c.life.valid p ≡ Some f → (k : Key) ×
      ((row_key v p ≡ Some k) × ((record_at c.life.frames f.0).owner ≡ Some k))
  -- the report tells of the frames
  pub counts : after.counts ≡ counts_of c.life
  pub whereabouts : (k : Key) → after.whereabouts k ≡ where_of c.life (c.life.stands k)
  pub waits : (tid : ℕ) → after.wait tid ≡ wait_of (c.waits tid)
  -- the machine is the world's, and has so many slots: after a `grow` answered `ok` so many more
  pub machine : c.life.machine ≡ v.machine
  pub slots : length c.slots ≡ v.machine.slots
  -- the block of a live file key is its file's, and no other key has one
  pub blocks : (k : Key) → block_at (backed_by c.life (c.life.stands k)) ≡ file_block_of v k

-- ---- keys

-- each `add` is of a key that the world has after the line and not before it, and each `drop` the
-- reverse
abbrev pub TurnsOne : World → World → Move → Type 0
TurnsOne w v (move.Add k b) = (content_of w k ≡ None) × (is_some (content_of v k) ≡ true)
TurnsOne w v (move.Drop k) = (is_some (content_of w k) ≡ true) × (content_of v k ≡ None)
TurnsOne w v _ = Unit {0}

abbrev pub TurnsKeys : World → World → List Move → Type 0
TurnsKeys w v [] = Unit {0}
TurnsKeys w v (m ∷ ms) = TurnsOne w v m × TurnsKeys w v ms

-- ---- accesses

-- of an answer that gives the access its bytes
abbrev pub is_access_served : Answer → Bool
is_access_served answer.Ok = true
is_access_served (answer.Bytes b) = true
is_access_served _ = false

abbrev pub is_failed : Answer → Bool
is_failed (answer.Raised raise.InPageError) = true
is_failed _ = false

abbrev pub is_pending_read : Answer → Bool
is_pending_read (answer.Pending why.Read) = true
is_pending_read _ = false

abbrev pub is_access_pending : Answer → Bool
is_access_pending (answer.Pending why) = true
is_access_pending _ = false

-- what it leaves: a place that was served is valid, and after a write soiled; one that found no
-- frame is short of one, and hardly a place is valid; one that waits, of a thread, is held up, and
-- one that waits for a read has its page being read. Where a read of its page failed, that was its
-- last move. A thread whose read failed while it waited makes no move
pub record Accesses (plain : Bool) (a : Aim) (r : Answer) (after : Report) (b : Behind)
    (moves : List Move) (c : Behind) : Type 0 where
  pub made : AccessMoves a b moves
  pub read : ReadFails (plain && is_failed r && read_failed a.need after) moves
  pub still : plain ≡ false → is_failed r ≡ true → moves ≡ []
  pub answers : (is_access_served r || is_failed r || is_access_pending r) ≡ true
  pub at_once : plain ≡ true → is_access_pending r ≡ false
  pub served : is_access_served r ≡ true → IsServed a c.life
  pub held_up : (why : Why) → r ≡ answer.Pending why → IsHeldUp why a c.life
  pub awaited : is_pending_read r ≡ true → after.whereabouts a.need.key ≡ Some BeingRead
  pub short : plain ≡ true → is_failed r ≡ true → read_failed a.need after ≡ false →
      is_shortage a.need a.place c.life ≡ true
  pub starved : plain ≡ true → is_failed r ≡ true → read_failed a.need after ≡ false →
      Starved (c.life.valid a.place) (walked_all (walk_from b) moves)

-- an access that is not permitted makes no move
abbrev pub AccessesBy : Bool → Option Aim → Answer → Report → Behind → List Move → Behind → Type 0
AccessesBy plain None r after b moves c = moves ≡ []
AccessesBy plain (Some a) r after b moves c = Accesses plain a r after b moves c

-- ---- calls

-- each place that is unmapped is no committed row after the line
abbrev pub is_uncommitted : World → Place → Bool
is_uncommitted v p = not (is_some (row_key v p))

-- of a line that takes pages away: places of the process are valid no more, and keys go, page by
-- page in rising order; a section's pages, from the lowest on, go with the last handle to it,
-- before all others, or right behind the last view of it
abbrev pub GivesUp : World → Pid → World → FrameLife → List Move → Type 0
GivesUp w pid v l moves = Turned (Goes (leaving w pid.0 (is_uncommitted v))) l moves

-- the shared pages of the range of a flush, in rising order, where the section is a file
abbrev pub flushed_file_keys : World → View → ℕ → Range → List Key
flushed_file_keys w v base range =
    if is_some (area_at w v.area.0).file_block
    then map (λ page. shared_key v.area.0 (v.first + (page - base)))
    (numbers_from range.first range.count)
    else []

abbrev pub flushed_in : World → ℕ → ℕ → Kind → Found (RegionOf Page) → List Key
flushed_in w addr size view_kind.Private r = []
flushed_in w addr size (view_kind.View v) r =
    flushed_file_keys w v r.thing.base (flushed_range r.thing addr size)

abbrev pub flushed_keys : World → ℕ → ℕ → ℕ → List Key
flushed_keys w pid addr size =
    unwrap_or
    (option_and_then
    (λ p. option_map (λ r. flushed_in w addr size r.thing.kind r)
    (flushed_view p.regions addr size)) (process_of w pid))
    []

-- ---- what the moves after a line's `at` are

abbrev pub Trimming : Bool → Pid → ℕ → Behind → List Move → Behind → Type 0
Trimming true pid n b moves c = Trims pid n b moves c
Trimming false pid n b moves c = moves ≡ []

abbrev pub Completing : ℕ → Answer → Behind → List Move → Behind → Type 0
Completing i answer.Ok b moves c = Completes i true b moves c
Completing i answer.Fault b moves c = Completes i false b moves c
Completing i _ b moves c = moves ≡ []

-- each form of line, from what stood behind the store once its `at` was noted
abbrev pub Does : World → Event → Answer → World → Report → Behind → List Move → Behind → Type 0
Does w (line.Read pid addr len) a v r b ms c =
    AccessesBy true (aim_of w b.life (line.Read pid addr len)) a r b ms c
Does w (line.Write pid addr bytes) a v r b ms c =
    AccessesBy true (aim_of w b.life (line.Write pid addr bytes)) a r b ms c
Does w (line.Exec pid addr) a v r b ms c = AccessesBy true (aim_of w b.life (line.Exec pid addr)) a
    r b ms c
Does w (line.Begin tid pid what) a v r b ms c =
    AccessesBy false (aim_of w b.life (line.Begin tid pid what)) a r b ms c
Does w (line.Resume tid) a v r b ms c = AccessesBy false (aim_of w b.life (line.Resume tid)) a r b
    ms c
Does w (line.Trim pid n) a v r b ms c = Trimming (lives w pid) pid n b ms c
Does w (line.Writer n) a v r b ms c = ms ≡ writes_begun n b.life b.life.frames.modified
Does w (line.Zeroer n) a v r b ms c = ms ≡ clearings n b.life
Does w (line.Io i) a v r b ms c = Completing i a b ms c
Does w (line.Flush pid addr size) a v r b ms c = Flushing b.life (flushed_keys w pid.0 addr size) ms
Does w (line.Exit pid) a v r b ms c = GivesUp w pid v b.life ms
Does w (line.Free pid addr size type) a v r b ms c = GivesUp w pid v b.life ms
Does w (line.Unmap pid addr) a v r b ms c = GivesUp w pid v b.life ms
Does w (line.Close pid handle) a v r b ms c = Turned (Goes (leaving w pid.0 (λ _. false))) b.life ms
Does w (line.Alloc pid addr size type prot) a v r b ms c = Turned Makes b.life ms
Does w (line.Create pid size flags name) a v r b ms c = Turned Makes b.life ms
Does w (line.File name pages byte) a v r b ms c = Turned Makes b.life ms
Does w (line.Stack tid pid reserve commit) a v r b ms c =
    Turned (MakesStack (guard_told a)) b.life ms
Does w (line.Probe tid addr) a v r b ms c = Turned Makes b.life ms
Does w _ a v r b ms c = ms ≡ []

-- ---- ages and waits

abbrev pub place_had : Option Aim → Answer → (Place → ℕ) → Place → ℕ
place_had None r ages p = ages p
place_had (Some a) r ages p = if is_access_served r then changed same_place ages a.place 0 p else ages p

abbrev pub ages_of_line : World → Event → Answer → Behind → List Move → Place → ℕ
ages_of_line w (line.Age pid) a b ms p = if lives w pid then all_aged pid b.life b.ages p else
    b.ages p
ages_of_line w e a b ms p = place_had (aim_of w b.life e) a (ages_through ms b.ages) p

-- the frame that a read brings the access's page into
abbrev pub awaited : Option Aim → FrameLife → Waiting
awaited None l = Idle
awaited (Some a) l = unwrap_or (option_map ForFrame (frame_in (l.stands a.need.key))) Idle
  where
    frame_in : Held → Option ℕ
    frame_in (held.Frame f) = Some f.0
    frame_in (held.Slot s) = None
    frame_in (held.Block b) = None
    frame_in held.Zero = None
    frame_in held.Dead = None

abbrev pub keeps_for : Option KeptOf → Pid → Bool
keeps_for None pid = false
keeps_for (Some k) pid = k.pid == pid.0

abbrev pub wait_of_begin : Option Aim → ℕ → Answer → (ℕ → Waiting) → FrameLife → ℕ → Waiting
wait_of_begin None tid a waits l t = waits t
wait_of_begin (Some aim) tid a waits l t =
    changed ◌==◌ waits tid (if is_pending_read a then awaited (Some aim) l else Idle) t

-- a thread waits from a `pending read` on; any other answer of its `resume`, and the end of its
-- process, end that
abbrev pub waits_of_line : World → Event → Answer → Behind → (ℕ → Waiting) → FrameLife → ℕ → Waiting
waits_of_line w (line.Begin tid pid what) a b waits l t =
    wait_of_begin (aim_of w b.life (line.Begin tid pid what)) tid.0 a waits l t
waits_of_line w (line.Resume tid) a b waits l t =
    changed ◌==◌ waits tid.0
    (if is_pending_read a then awaited (aim_of w b.life (line.Resume tid)) l else Idle) t
waits_of_line w (line.Exit pid) a b waits l t = if keeps_for (kept_by w t) pid then Idle else
    waits t
waits_of_line w _ a b waits l t = waits t

-- ---- devices

-- the calls that the moves stand for are those of the devices: each stands in its device's log, or
-- was named; and a slot or a block that none of them wrote is as before
pub record Traffic (l : FrameLife) (moves : List Move) (paging paging' files files' : DeviceOf)
    (slots slots' blocks blocks' : List Page) : Type 0 where
  pub paging_calls : List Call
  pub paging_served : AllServed paging_calls paging paging'
  pub paging_are : map logged_call paging_calls ≡ paging_traffic l moves
  pub file_calls : List Call
  pub files_served : AllServed file_calls files files'
  pub files_are : map logged_call file_calls ≡ file_traffic l moves
  pub slots_kept : KeepsOthers (paging_traffic l moves) slots slots'
  pub blocks_kept : KeepsOthers (file_traffic l moves) blocks blocks'

-- lines that ask devices for what is no move: a file's blocks are written, the paging device grows,
-- calls are named
abbrev pub asks_beside : Event → Bool
asks_beside (line.File name pages byte) = true
asks_beside (line.Grow n) = true
asks_beside (line.Fail device direction k n) = true
asks_beside _ = false

-- after such a line: no slot was written; where the paging device grew, slots of zeros stand behind
-- those before; blocks are written for a file alone
abbrev pub HoldsBeside : World → Event → Answer → List Page → List Page → List Page → List Page →
    Type 0
HoldsBeside w (line.File name pages byte) a slots slots' blocks blocks' = slots' ≡ slots
HoldsBeside w (line.Grow n) (answer.Limit limit) slots slots' blocks blocks' =
    (slots' ≡ slots ++ replicate n (filled 0)) × (blocks' ≡ blocks)
HoldsBeside w (line.Grow n) _ slots slots' blocks blocks' = (slots' ≡ slots) × (blocks' ≡ blocks)
HoldsBeside w (line.Fail device direction k n) a slots slots' blocks blocks' = (slots' ≡ slots) ×
    (blocks' ≡ blocks)
HoldsBeside w _ a slots slots' blocks blocks' = Unit {0}

-- ---- a line

-- what stands behind a store once a line has begun
abbrev pub with_line : Move → Behind → Behind
with_line m b = record b { life = after_move b.life m }

-- A line, with its piece of the log: its `at`, and its moves after it.
pub record Line (w : World) (before : Report) (b : Behind) (paging files : DeviceOf)
    (blocks : List Page) (e : Event) (a : Answer) (piece : List Move) (v : World) (after : Report)
    (c : Behind) (paging' files' : DeviceOf) (blocks' : List Page) : Type 0 where
  pub moves : List Move
  pub begins : piece ≡ move.At (b.life.line + 1) (kind_of_line w e a) ∷ moves
  pub agrees : Agrees v after c
  pub keys : TurnsKeys w v moves
  pub does : Does w e a v after (with_line (move.At (b.life.line + 1) (kind_of_line w e a)) b) moves
      c
  pub ages : c.ages ≡ ages_of_line w e a b moves
  pub waits : c.waits ≡ waits_of_line w e a b (waits_through moves b.waits) c.life
  pub told : asks_beside e ≡ false → told_of after ≡ told_through b.life piece (told_of before)
  pub traffic : asks_beside e ≡ false →
      Traffic b.life piece paging paging' files files' b.slots c.slots blocks blocks'
  pub beside : HoldsBeside w e a b.slots c.slots blocks blocks'

-- A line that was decided, of a store that pages: its piece of the log, by which the log grew, and
-- which replays.
pub record LineNoted (w : World) (before : Report) (b : Behind) (paging files : DeviceOf)
    (blocks : List Page) (e : Event) (a : Answer) (v : World) (after : Report) (c : Behind)
    (paging' files' : DeviceOf) (blocks' : List Page) : Type 0 where
  pub piece : List Move
  pub in_range : AreMoves piece
  pub grew : Grew b.log c.log (spelled_moves piece)
  pub replays : Replays piece b.life c.life
  pub line : Line w before b paging files blocks e a piece v after c paging' files' blocks'

-- A line that ran out of memory: its `at` alone, of a kind that some answer to it gives, or none.
pub record Broken (w : World) (e : Event) (b c : Behind) : Type 0 where
  pub piece : List Move
  pub in_range : AreMoves piece
  pub grew : Grew b.log c.log (spelled_moves piece)
  pub replays : Replays piece b.life c.life
  pub slots : c.slots ≡ b.slots
  pub at_most : (piece ≡ []) ⊎
      ((a : Answer) × (piece ≡ move.At (b.life.line + 1) (kind_of_line w e a) ∷ []))
