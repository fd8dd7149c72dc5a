-- The promise of a world over a store: what it shows, and what one line does to that.
-- Profile, "A run".
use Rattle.std.specs.Prelude.{◌≡◌, ◌≤◌, ◌<◌, ◌^◌, ◌⊎◌, ℕ, Bool, false, true, List, Option, Some, length}
use Rattle.mm_types.specs.{Answer, Event, Move, Key}
use Rattle.mm_types.specs.declared.answers.Wait.TheVariants as wait
use Rattle.mm_move_rules.specs.{Grew, AreMoves, spelled_moves, Replays}
use Rattle.mm_world.specs.{Page, ProcessOf, process_of, charge, limit, Tables, tables_of, world_with}
use Rattle.mm_world.specs.World.{World}
use Rattle.mm_world.specs.Report.{Report}
use Rattle.mm_devices.specs.{DeviceOf}
use Rattle.mm_store.specs.Behind.{Behind}
use Rattle.mm_store.specs.{StoreOf, Ghosts as PageStoreGhosts}
use Rattle.mm_line_moves.specs.{Line, Broken}
use Rattle.mm_object_tables.specs.{key_bytes, IsTidy}
use Rattle.mm_dispatch.specs.declared.worlds.World.{World as Kept}
use Rattle.mm_dispatch.specs.Forgetting.{EndsWaits}
use Rattle.mm_dispatch.specs.Serving.{AskedBeside, AskedFiles, AskedPaging, Named}
use Rattle.mm_dispatch.specs.Serving.{IsFailure, FailedBefore, OneFailed, FlushServed, is_fail, is_grow}
use Rattle.mm_dispatch.specs.Stepping.{Stepped}

-- What a world over a store shows between two lines.
pub record Scene : Type 0 where
  pub world : World
  pub report : Report
  pub paging : DeviceOf
  pub files : DeviceOf
  pub blocks : List Page
  pub behind : Behind

-- of these tables and bytes, and of this store
abbrev pub scene_of : Tables → (Key → Option Page) → StoreOf → Behind → Scene
scene_of t contents s b = record {
  world = world_with t (key_bytes contents);
  report = s.report;
  paging = s.paging_device;
  files = s.file_device;
  blocks = s.file_blocks;
  behind = b;
}

module _ {G : Type 0} {g : PageStoreGhosts G} where
  abbrev pub scene : Kept G g → Scene
  scene w = scene_of w.tables (g.contents w.pages) (g.store w.pages) (g.behind w.pages)

-- ---- what holds after each line, decided or not

-- over a store whose accesses never fail no thread waits
abbrev pub NoneWaits : Bool → Scene → Type 0
NoneWaits never_fails s = never_fails ≡ true → (tid : ℕ) → s.report.wait tid ≡ wait.None

pub record StaysSound (never_fails : Bool) (s z : Scene) : Type 0 where
  pub within : charge z.world ≤ limit z.world
  -- sections and names live while something refers to them
  pub lives : IsTidy (tables_of z.world)
  pub unwaited_before : NoneWaits never_fails s
  pub unwaited : NoneWaits never_fails z

-- ---- a line that was decided

-- What is told of it beside its answer and the new world, with these moves over a store that pages.
pub record ToldBeside (never_fails : Bool) (s : Scene) (e : Event) (a : Answer) (moves : List Move)
    (z : Scene) : Type 0 where
  pub sound : StaysSound never_fails s z
  -- but of `grow` and `fail` lines, the calls of a device in this line are those of its log and of
  -- the report
  pub asked_paging : is_fail e ≡ false → is_grow e ≡ false → AskedPaging s.paging z.paging z.report
  pub asked_files : is_fail e ≡ false → AskedFiles s.files z.files z.report
  -- what these lines ask beside: a `file` line writes the blocks of its file in rising order,
  -- `grow` asks the paging device to grow, and `fail` names calls
  pub beside : never_fails ≡ false →
      AskedBeside s.world.blocks_used e a s.paging z.paging s.files z.files s.blocks z.blocks
  pub named : Named never_fails e a s.paging z.paging s.files z.files
  -- no more calls of a device are named than `fail` lines were answered `ok`
  pub few_paging : length z.paging.named ≤ z.world.fails_taken
  pub few_files : length z.files.named ≤ z.world.fails_taken
  -- a failure is a device's in this line, or, of a `resume`, that of the read that its thread
  -- waited for
  pub failed : IsFailure a → FailedBefore e s.report ⊎ OneFailed s.paging z.paging s.files z.files
  pub paging_later : s.paging.faults ≤ z.paging.faults
  pub files_later : s.files.faults ≤ z.files.faults
  -- after a `flush` answered `ok` the blocks hold the bytes of their pages
  pub flushed : FlushServed z.world z.blocks e a
  -- threads whose access or whose process ends wait no more
  pub waits : EndsWaits s.world e a z.report
  -- a process has fewer handles than there are numbers of 32 bits
  pub handles : (pid : ℕ) (p : ProcessOf Page) → process_of z.world pid ≡ Some p →
      length p.handles < 2 ^ 32
  -- the moves are one `at` with the line's number and kind, and what its form allows
  pub line : never_fails ≡ false →
      Line s.world s.report s.behind s.paging s.files s.blocks e a moves
      z.world z.report z.behind z.paging z.files z.blocks

-- Moves that are legal one after another, and by whose text the log grew.
pub record NotesMoves (b : Behind) (moves : List Move) (c : Behind) : Type 0 where
  pub in_range : AreMoves moves
  pub grew : Grew b.log c.log (spelled_moves moves)
  pub replays : Replays moves b.life c.life

-- A line was decided as the definitions' step from the old world says, by the reports before and
-- after, and all that is told beside, with some moves.
pub record Decides (never_fails : Bool) (s : Scene) (e : Event) (a : Answer) (z : Scene) : Type 0
  where
    pub stepped : Stepped never_fails s.world e s.report z.report a z.world
    pub moves : List Move
    pub notes : never_fails ≡ false → NotesMoves s.behind moves z.behind
    pub told : ToldBeside never_fails s e a moves z

-- ---- a line that ran out of memory

-- It changed nothing but the log, which has its `at` alone, of its own kind, or no move of it.
pub record Breaks (never_fails : Bool) (s : Scene) (e : Event) (z : Scene) : Type 0 where
  pub sound : StaysSound never_fails s z
  pub world : z.world ≡ s.world
  pub paging : z.paging ≡ s.paging
  pub files : z.files ≡ s.files
  pub blocks : z.blocks ≡ s.blocks
  pub broken : never_fails ≡ false → Broken s.world e s.behind z.behind
