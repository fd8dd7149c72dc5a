-- What one line does.
-- Profile, "A run".
use Rattle.std.specs.Prelude.{◌≡◌, ◌≤◌, ℕ, Bool, true, false, List, [], ◌∷◌, None, replicate}
use Rattle.mm_types.specs.{MachineOf, limit_of, Answer, Event, Move}
use Rattle.mm_types.specs.declared.answers.Answer.TheVariants as answer
use Rattle.mm_types.specs.declared.answers.Wait.TheVariants as wait
use Rattle.mm_types.specs.declared.events.Event.TheVariants as line
use Rattle.mm_move_rules.specs.{Grew, AreMoves, spelled_moves, Replays, Idle}
use Rattle.mm_world.specs.{charge, limit, failed_calls, done, first_world, step, unpaged as unpaged_step, is_told, is_failed_extension}
use Rattle.mm_world.specs.Report.{Report}
use Rattle.mm_devices.specs.{NoneLogged, empty_block, DeviceOf}
use Rattle.mm_store.specs.{told_of, none_told}
use Rattle.mm_line_moves.specs.{Agrees, DevicesHold, StandsAlways, first_move}
use Rattle.mm_dispatch.specs.{asks_frames, Scene, ToldBeside, Breaks as WorldBreaks}
use Rattle.mm_script.specs.{is_machine}
use Rattle.mm_run.specs.Scenes.{Outset, Stage, NotBegun, Running, replay_of, log_of}

-- ---- the first line

-- a device that was opened and not called yet, with at least so many faults
pub record IsUnused (faults : ℕ) (d : DeviceOf) : Type 0 where
  pub none_logged : NoneLogged d.log
  pub none_named : d.named ≡ []
  pub later : faults ≤ d.faults

-- A machine has begun: its world is the first, its devices hold zeros and were not asked for one
-- yet, its report tells of the frames, of no call and of no growing device, and no thread waits.
pub record IsFirstScene (m : MachineOf) (o : Outset) (s : Scene) : Type 0 where
  pub world : s.world ≡ first_world m
  pub slots : s.behind.slots ≡ replicate m.slots empty_block
  pub blocks : s.blocks ≡ replicate m.blocks empty_block
  pub paging : IsUnused o.paging s.paging
  pub files : IsUnused o.files s.files
  pub agrees : Agrees s.world s.report s.behind
  pub told : told_of s.report ≡ none_told
  pub extended : s.report.extended ≡ None
  pub idle : (tid : ℕ) → (s.behind.waits tid ≡ Idle) × (s.report.wait tid ≡ wait.None)

-- The first line, which names the machine.
pub record MachineBegins (o : Outset) (e : Event) (a : Answer) (moves : List Move) (s : Scene)
    : Type 0 where
  pub machine : MachineOf
  pub names : e ≡ line.Machine machine
  pub answered : a ≡ answer.Limit (limit_of machine)
  pub one : moves ≡ first_move machine ∷ []
  pub first : IsFirstScene machine o s

-- ---- a later line

-- lines whose answers tell of paging even where no device call fails: of requests, of frames, of
-- what a thread waits for
abbrev pub tells_paging : Event → Bool
tells_paging (line.Begin tid pid what) = true
tells_paging (line.Resume tid) = true
tells_paging (line.Io i) = true
tells_paging line.Counts = true
tells_paging _ = false

-- no device call of the line failed
pub record NoneFailed (after : Report) : Type 0 where
  pub calls : failed_calls after ≡ 0
  pub extended : is_failed_extension after.extended ≡ false

pub record DecidesLine (s : Scene) (e : Event) (a : Answer) (moves : List Move) (z : Scene)
    : Type 0 where
  -- the answer and the new world are those of the definitions' step, by the reports before and
  -- after
  pub answered : step s.world e s.report z.report ≡ record { answer = a; world = z.world }
  -- answer and world are those of unpaged address spaces, of a call and a plain access, where no
  -- device call of the line failed
  pub plain : tells_paging e ≡ false → NoneFailed z.report → unpaged_step s.world e ≡ done a z.world
  -- and of any line but `io` and `counts`, where the answer is no failed access, no pending one and
  -- no `fault`
  pub unpaged : asks_frames e ≡ false → is_told a ≡ false → unpaged_step s.world e ≡ done a z.world
  -- what the promise of a world tells beside: of sections and names, of devices, of waits, and of
  -- the moves, which are one `at` with the line's number and kind, and what its form allows
  pub told : ToldBeside false s e a moves z

-- ---- any line

-- The first line makes the world; each later line is answered by it, and leaves the next.
abbrev pub StageStepped : Stage → Event → Answer → List Move → Stage → Type 0
StageStepped (NotBegun o) e a moves (NotBegun after) = ⊥
StageStepped (NotBegun o) e a moves (Running s) = MachineBegins o e a moves s
StageStepped (Running s) e a moves (NotBegun o) = ⊥
StageStepped (Running s) e a moves (Running z) = (is_machine e ≡ false) × DecidesLine s e a moves z

-- The commit charge is at most the commit limit.
abbrev pub IsWithinLimit : Stage → Type 0
IsWithinLimit (NotBegun o) = Unit {0}
IsWithinLimit (Running s) = charge s.world ≤ limit s.world

-- Each key that the replay shows unchanged, with a slot or a block, has its bytes there.
abbrev pub HoldsUnchanged : Stage → Type 0
HoldsUnchanged (NotBegun o) = Unit {0}
HoldsUnchanged (Running s) = DevicesHold s.world s.behind.life s.behind.slots s.blocks

-- Regions are laid out, handles have numbers of 32 bits, page-file keys live, the replay's state is
-- sound, and the keys that live in it are the world's.
abbrev pub StageStands : Stage → Type 0
StageStands (NotBegun o) = Unit {0}
StageStands (Running s) = StandsAlways s.world s.behind.life

-- Moves that are legal one after another, and by whose text the log grew; where the sink fails in
-- it, by a front of it.
pub record StageNotes (old : Stage) (moves : List Move) (new : Stage) : Type 0 where
  pub in_range : AreMoves moves
  pub grew : Grew (log_of old) (log_of new) (spelled_moves moves)
  pub replays : Replays moves (replay_of old) (replay_of new)

-- A line is decided: its answer and the new world are the definition's, the charge stays within the
-- limit, and its moves are noted.
pub record IsDecided (old : Stage) (e : Event) (a : Answer) (moves : List Move) (new : Stage)
    : Type 0 where
  pub step : StageStepped old e a moves new
  pub within : IsWithinLimit new
  pub notes : StageNotes old moves new
  pub holds : HoldsUnchanged new

-- A machine has begun at this scene, with its first line noted.
pub record MachineIsMade (m : MachineOf) (o : Outset) (s : Scene) : Type 0 where
  pub first : IsFirstScene m o s
  pub notes : StageNotes (NotBegun o) (first_move m ∷ []) (Running s)
  pub holds : HoldsUnchanged (Running s)

-- A line is decided, with some moves.
pub record Moved (old : Stage) (e : Event) (a : Answer) (new : Stage) : Type 0 where
  pub moves : List Move
  pub decided : IsDecided old e a moves new

-- A line ran out of memory: it noted its `at` alone, of its own kind, or nothing, and world and
-- devices are as before.
abbrev pub BreaksLine : Scene → Event → Scene → Type 0
BreaksLine s e z = WorldBreaks false s e z
