-- The pages of files in memory, and the writes of their blocks.
use Rattle.std.specs.Prelude.{◌≡◌, ◌<◌, ◌≤◌, ◌⊎◌, ℕ, ◌+◌, ◌%◌, false, List, length, slice_get, Option, Some, None, unwrap_or}
use Rattle.mm_types.specs.declared.devices.Direction.TheVariants as way
use Rattle.mm_world.specs.{Tally, Page, filled}
use Rattle.mm_devices.specs.declared.Inject.{Ghosts}
use Rattle.mm_devices.specs.{DeviceOf, Call, AllServed, device_with}
use Rattle.mm_store.specs.{tallied}
use Rattle.mm_unpaged.specs.declared.files.FilePage.{FilePage}

-- a page of which each byte is this one, as its block has it
abbrev pub made_page : ℕ → FilePage
made_page byte = record { page = filled byte; changed = false }

-- the pages of a new file: page i holds the byte `byte + i` throughout
pub record IsMade (pages : List FilePage) (n byte : ℕ) : Type 0 where
  pub long : length pages ≡ n
  pub each : (i : ℕ) → i < n → slice_get pages i ≡ Some (made_page ((byte + i) % 256))

-- the page of a block
abbrev pub page_of_block : Option FilePage → Option Page
page_of_block None = None
page_of_block (Some page) = Some page.page

abbrev pub page_in : List FilePage → ℕ → Page
page_in pages block = unwrap_or (page_of_block (slice_get pages block)) (filled 0)

-- a device as it stands
abbrev pub unpaged_device : {F : Type 0} → Ghosts F → F → DeviceOf
unpaged_device d f = device_with (d.log f) (d.named f) (d.faults f)

-- some writes of a device, one after another, and its tally with them
pub record WroteDevice (old new : DeviceOf) (before after : Tally) : Type 0 where
  pub calls : List Call
  pub served : AllServed calls old new
  pub counted : after ≡ tallied way.Write calls before
  pub none_read : (reads : Tally) → tallied way.Read calls reads ≡ reads

-- the first `count` of these pages stand in the blocks from `first` on, and each other block is as
-- before
pub record Stored (first count : ℕ) (pages : List FilePage) (old new : List Page) : Type 0 where
  pub long : length new ≡ length old
  pub done : (i : ℕ) (page : FilePage) → i < count → slice_get pages i ≡ Some page →
      slice_get new (first + i) ≡ Some page.page
  pub others : (block : ℕ) → (block < first) ⊎ (first + count ≤ block) →
      slice_get new block ≡ slice_get old block
