-- The words of lines, said of tables and of the store beside them.
-- Profile, "A run".
use Rattle.std.specs.Prelude.{ℕ, List, Option}
use Rattle.mm_types.specs.{Answer, Event, Move, Pid}
use Rattle.mm_world.specs.World.{World}
use Rattle.mm_world.specs.{Tables, world_with, Attempt}
use Rattle.mm_store.specs.{Aim, PassesIn, Ghosts as PageStoreGhosts}
use Rattle.mm_store.specs.Behind.{Behind}
use Rattle.mm_line_moves.specs.{HoldsBeside}
use Rattle.mm_object_tables.specs.{FitsTables, key_bytes}
use Rattle.mm_dispatch.specs.Serving.{AskedBeside}
use Rattle.mm_dispatch.specs.Deciding.{KeepsTables, Decided, Idle}
use Rattle.mm_dispatch.specs.Noting.{MarkedIn, HaltedIn}
use Rattle.mm_dispatch.specs.Answering.{aim_in}

module _ {G : Type 0} (p : PageStoreGhosts G) where
  -- the world of these tables, with the store's bytes in its pages
  abbrev pub world_over : Tables → G → World
  world_over t g = world_with t (key_bytes (p.contents g))

  -- what an access aims at
  abbrev pub aim_over : Tables → G → Pid → ℕ → Attempt → Option Aim
  aim_over t g pid addr what = aim_in t (p.contents g) (p.behind g) pid addr what

  abbrev pub FitsOver : Tables → G → Type 0
  FitsOver t g = FitsTables t (p.contents g) (p.store g)

  abbrev pub KeepsOver : Tables → G → Type 0
  KeepsOver t g = KeepsTables t (p.contents g) (p.store g)

  abbrev pub PassesOver : (Behind → List Move → Behind → Type 0) → G → G → Type 0
  PassesOver That g h = PassesIn p.unpaged That (p.store g) (p.store h) (p.behind g) (p.behind h)

  -- what a line asks of devices beside its moves, and what slots and blocks hold then
  abbrev pub AskedBesideOver : Tables → Event → Answer → G → G → Type 0
  AskedBesideOver t e a g h =
      AskedBeside t.blocks_used e a (p.store g).paging_device (p.store h).paging_device
      (p.store g).file_device (p.store h).file_device
      (p.store g).file_blocks (p.store h).file_blocks
      × HoldsBeside (world_over t g) e a (p.behind g).slots (p.behind h).slots
      (p.store g).file_blocks (p.store h).file_blocks

  -- a line was decided, by tables and store before it and after it
  abbrev pub DecidedOver : Event → ℕ → Tables → G → Answer → Tables → G → Type 0
  DecidedOver e n t g a after h = Decided p.unpaged e n t (p.contents g) (p.store g) a after
      (p.contents h) (p.store h)

  -- and noted
  abbrev pub MarkedOver : Event → ℕ → Tables → G → Answer → Tables → G → Type 0
  MarkedOver e n t g a after h = MarkedIn p.unpaged e n t (p.contents g) (p.store g) (p.behind g) a
      after (p.contents h) (p.store h) (p.behind h)

  -- it ran out of memory
  abbrev pub IdleOver : Tables → G → Tables → G → Type 0
  IdleOver t g after h = Idle t (p.contents g) (p.store g) after (p.contents h) (p.store h)

  abbrev pub HaltedOver : Event → ℕ → Tables → G → G → Type 0
  HaltedOver e n t g h = HaltedIn p.unpaged (world_over t g) e n (p.behind g) (p.behind h)
