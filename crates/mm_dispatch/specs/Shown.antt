-- What a world over a store shows: the world of the definitions, and what its store shows beside.
-- Profile, "A run".
use Rattle.std.specs.Prelude.{ℕ, List}
use Rattle.mm_types.specs.{Loans}
use Rattle.mm_world.specs.{Page, world_with}
use Rattle.mm_world.specs.World.{World}
use Rattle.mm_world.specs.Report.{Report}
use Rattle.mm_store.specs.Behind.{Behind}
use Rattle.mm_store.specs.{Ghosts as PageStoreGhosts}
use Rattle.mm_devices.specs.{DeviceOf}
use Rattle.mm_object_tables.specs.{key_bytes}
use Rattle.mm_dispatch.specs.declared.worlds.World.{World as Kept}

module _ {G : Type 0} {g : PageStoreGhosts G} where
  -- the tables, and in each live key's page the store's bytes
  abbrev pub world : Kept G g → World
  world w = world_with w.tables (key_bytes (g.contents w.pages))

  abbrev pub report : Kept G g → Report
  report w = (g.store w.pages).report

  -- what stands behind the store, where it pages
  abbrev pub world_behind : Kept G g → Behind
  world_behind w = g.behind w.pages

  -- the number of the line that began last
  abbrev pub line_number : Kept G g → ℕ
  line_number w = (g.store w.pages).line

  -- what the store keeps of its devices, and the blocks of the file device
  abbrev pub paging_device : Kept G g → DeviceOf
  paging_device w = (g.store w.pages).paging_device

  abbrev pub file_device : Kept G g → DeviceOf
  file_device w = (g.store w.pages).file_device

  abbrev pub file_blocks : Kept G g → List Page
  file_blocks w = (g.store w.pages).file_blocks

  abbrev pub loans : Kept G g → Loans
  loans w = g.loans w.pages
