-- The parts of what an unpaged store shows.
use Rattle.std.specs.Prelude.{ℕ, Bool, is_some, List, Option, None, Some, slice_get, option_map}
use Rattle.mm_types.specs.{Counts, Key, Place}
use Rattle.mm_types.specs.declared.answers.Wait.TheVariants as wait
use Rattle.mm_types.specs.declared.numbers.Key.TheVariants as key
use Rattle.mm_world.specs.{Page, Tally, Whereabouts, InFrame}
use Rattle.mm_world.specs.Report.{Report}
use Rattle.mm_store.specs.{need_for, no_calls, Ready}
use Rattle.mm_unpaged.specs.declared.unpaged.Wanted.{Wanted}
use Rattle.mm_unpaged.specs.declared.areas.AreaPages.{AreaPages}
use Rattle.mm_unpaged.specs.declared.files.FilePage.{FilePage}
use Rattle.mm_unpaged.specs.Areas.{size_of, page_of_area, area_block}
use Rattle.mm_unpaged.specs.Files.{page_of_block}

-- the page of a file stands by its block, any other page of an area with the area
abbrev pub page_of_area_key : List FilePage → Option ℕ → Option Page → Option Page
page_of_area_key files None page = page
page_of_area_key files (Some block) page = page_of_block (slice_get files block)

-- the page of a private key stands at its own place
abbrev pub unpaged_contents : (Place → Option Page) → (ℕ → Option AreaPages) → List FilePage → Key →
    Option Page
unpaged_contents places areas files (key.Private pid vpn) = places (record { pid = pid; vpn = vpn })
unpaged_contents places areas files (key.Shared area index) =
    page_of_area_key files (area_block (areas area.0) index) (page_of_area (areas area.0) index)

-- the live keys that no file has
abbrev pub plain_paging : (Place → Option Page) → (ℕ → Option AreaPages) → Key → Bool
plain_paging places areas (key.Private pid vpn) = is_some (places (record { pid = pid; vpn = vpn }))
plain_paging places areas (key.Shared area index) = is_some (page_of_area (areas area.0) index)

abbrev pub blocks_of : (ℕ → Option AreaPages) → Key → Option ℕ
blocks_of areas (key.Private pid vpn) = None
blocks_of areas (key.Shared area index) = area_block (areas area.0) index

abbrev pub sizes_of : (ℕ → Option AreaPages) → ℕ → Option ℕ
sizes_of areas area = size_of (areas area)

abbrev pub ready_at : Option Wanted → Option Ready
ready_at None = None
ready_at (Some w) = Some (record { place = w.place; need = need_for w.need w.key w.place })

abbrev pub zero_counts : Counts
zero_counts = record {
  zeroed = 0;
  free = 0;
  standby = 0;
  modified = 0;
  active = 0;
  transition = 0;
  free_slots = 0;
  requests = 0;
}

abbrev pub whereabouts_of : (Key → Option Page) → Key → Option Whereabouts
whereabouts_of contents k = option_map (λ _. InFrame) (contents k)

-- the file device was called in writing alone; nothing is counted, each live key has its page at
-- hand, and no thread waits
abbrev pub unpaged_report : Tally → (Key → Option Page) → Report
unpaged_report writes contents = record {
  paging_reads = no_calls;
  paging_writes = no_calls;
  file_reads = no_calls;
  file_writes = writes;
  last_failed_read = None;
  search_writes = writes;
  counts = zero_counts;
  whereabouts = whereabouts_of contents;
  wait = λ _. wait.None;
  extended = None;
}
