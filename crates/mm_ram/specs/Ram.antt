-- The bytes of page frames: for each frame its 4,096 bytes, or nothing where it was never written.
use Rattle.std.specs.Prelude.{ℕ, ◌+◌, List, [], ◌++◌, length, take, drop, replicate, Option, Some, None, slice_index_or, slice_set, unwrap_or}
use Rattle.mm_types.specs.{page_size}

-- a page of zeros
unfoldable pub zero_page : List ℕ
zero_page = replicate page_size 0

abbrev pub page_at : List (Option (List ℕ)) → ℕ → Option (List ℕ)
page_at ram f = slice_index_or ram f None

-- the bytes of a frame that was written
abbrev pub bytes_of : List (Option (List ℕ)) → ℕ → List ℕ
bytes_of ram f = unwrap_or (page_at ram f) []

-- so many bytes from an offset on
abbrev pub bytes_from : List ℕ → ℕ → ℕ → List ℕ
bytes_from page off n = take n (drop off page)

-- the page with these bytes from an offset on
abbrev pub overwritten : List ℕ → ℕ → List ℕ → List ℕ
overwritten page off bytes = take off page ++ (bytes ++ drop (off + length bytes) page)

abbrev pub with_page : List (Option (List ℕ)) → ℕ → List ℕ → List (Option (List ℕ))
with_page ram f page = slice_set ram f (Some page)
