-- What an unpaged store shows, out of what it holds.
use Rattle.std.specs.Prelude.{◌+◌, ℕ, Bool, false, List, length, Option, slice_index_or}
use Rattle.mm_types.specs.{Key}
use Rattle.mm_devices.specs.declared.Inject.{Ghosts as DeviceGhosts}
use Rattle.mm_world.specs.{Page}
use Rattle.mm_devices.specs.{no_device, device_with}
use Rattle.mm_store.specs.{StoreOf}
use Rattle.mm_unpaged.specs.declared.unpaged.Unpaged.{Unpaged}
use Rattle.mm_unpaged.specs.Areas.{area_in, count_in}
use Rattle.mm_unpaged.specs.Places.{is_bound_in, names_in, pages_at, pages_in}
use Rattle.mm_unpaged.specs.Shown.{unpaged_contents, plain_paging, blocks_of, sizes_of, ready_at, unpaged_report}

-- which processes are open, by pid
abbrev pub is_process_open : List Bool → ℕ → Bool
is_process_open processes pid = slice_index_or processes pid false

module _ {F : Type 0} {d : DeviceGhosts F} where
  abbrev pub contents_in : Unpaged F d → Key → Option Page
  contents_in s = unpaged_contents (pages_at s.places) (area_in s.areas) s.file_pages.items

  abbrev pub store_in : Unpaged F d → StoreOf
  store_in s = record {
    machine = s.machine;
    is_open = is_process_open s.processes;
    areas = sizes_of (area_in s.areas);
    bound = is_bound_in s.places;
    names = names_in s.places;
    paging = plain_paging (pages_at s.places) (area_in s.areas);
    paging_keys = pages_in s.places + count_in s.areas;
    room = s.stock.room;
    block_of = blocks_of (area_in s.areas);
    blocks_used = length s.file_pages.items;
    file_blocks = d.blocks s.files;
    line = s.line;
    kind = s.kind;
    last_pid = s.last_pid;
    ready = ready_at s.ready;
    report = unpaged_report s.writes (contents_in s);
    paging_device = no_device;
    file_device = device_with (d.log s.files) (d.named s.files) (d.faults s.files);
  }
