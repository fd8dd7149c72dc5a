-- What a call of a device leaves: the counts of a line.
-- Profile, "Paging, as far as answers show it".
use Rattle.std.specs.Prelude.{◌≡◌, ◌<◌, ◌+◌, ℕ, is_some, Bool, true, false, List, Option, slice_set}
use Rattle.mm_types.specs.{Backing, Key}
use Rattle.mm_store.specs.{no_calls, with_read}
use Rattle.mm_store.specs.Told.{Told}

-- a search begins anew
abbrev pub searched_anew : Told → Told
searched_anew t = record t { search_writes = no_calls }

-- a read of the page of this key failed
abbrev pub with_bad : Backing → Option Key → Told → Told
with_bad home owner t = record (with_read false home t) { last_failed_read = owner }

-- the read of a page ended, well or not
abbrev pub read_told : Bool → Backing → Option Key → Told → Told
read_told true home owner t = with_read true home t
read_told false home owner t = with_bad home owner t

-- the bytes of the frames once the read of a page into one of them ended, well or not
abbrev pub filled_if : Bool → ℕ → Option (List ℕ) → List (Option (List ℕ)) →
    List (Option (List ℕ))
filled_if true f page bytes = slice_set bytes f page
filled_if false f page bytes = bytes

-- a failed call of the line's search, or a read that failed, is one of the line's device calls
pub record IsTallied (t : Told) : Type 0 where
  pub search : 0 < t.search_writes.failed → 0 < t.paging_writes.failed + t.file_writes.failed
  pub read : is_some t.last_failed_read ≡ true → 0 < t.paging_reads.failed + t.file_reads.failed
