-- Addresses, pages and granules of a 32-bit user address space (the layout of Windows on x86).
-- Profile, "Machine, addresses, limits".
use Rattle.std.specs.Prelude.{ℕ, zero, suc, ◌+◌, ◌-◌, ◌*◌, ◌/◌, ◌%◌, Bool, not, ◌&&◌, nat_le, nat_lt, ◌==◌, if◌then◌else◌, List, Option, Some, None, option_map}
use Rattle.std.specs.List.{list_any}

abbrev pub page_size : ℕ
page_size = 4096

-- a granule is 16 pages
abbrev pub granule_pages : ℕ
granule_pages = 16

abbrev pub granule_size : ℕ
granule_size = 65536

-- the user pages are those from the first on and below the end
abbrev pub first_user_page : ℕ
first_user_page = 0x10

abbrev pub end_of_user_pages : ℕ
end_of_user_pages = 0x7FFF0

-- how many granules the user pages end in
abbrev pub granules : ℕ
granules = 0x7FFF

abbrev pub page_of : ℕ → ℕ
page_of addr = addr / page_size

abbrev pub address_of : ℕ → ℕ
address_of page = page * page_size

abbrev pub is_user_page : ℕ → Bool
is_user_page page = nat_le first_user_page page && nat_lt page end_of_user_pages

abbrev pub is_granule_address : ℕ → Bool
is_granule_address addr = addr % granule_size == 0

-- how many pages `size` bytes take
abbrev pub pages_for : ℕ → ℕ
pages_for size = (size + 4095) / page_size

-- some pages in a row
pub record Range : Type 0 where
  pub first : ℕ
  pub count : ℕ

abbrev pub end_of : Range → ℕ
end_of r = r.first + r.count

-- the pages that hold one of the `size` bytes from `addr` on, where the size is at least 1; sums
-- are formed without a bound
abbrev pub range_of : ℕ → ℕ → Range
range_of addr size = record {
  first = page_of addr;
  count = page_of (addr + size - 1) + 1 - page_of addr;
}

-- the same, from the granule of `addr` on
abbrev pub granule_range_of : ℕ → ℕ → Range
granule_range_of addr size =
    let first = (addr / granule_size) * granule_pages in
    record { first = first; count = page_of (addr + size - 1) + 1 - first }

abbrev pub are_user_pages : Range → Bool
are_user_pages r = nat_le first_user_page r.first && nat_le (end_of r) end_of_user_pages

-- some page is in both
abbrev pub meets : Range → Range → Bool
meets a b = nat_lt a.first (end_of b) && nat_lt b.first (end_of a)

abbrev pub holds_page : Range → ℕ → Bool
holds_page r page = nat_le r.first page && nat_lt page (end_of r)

abbrev pub lies_within : Range → Range → Bool
lies_within inner outer = nat_le outer.first inner.first && nat_le (end_of inner) (end_of outer)

-- user pages, none of them in one of the ranges
abbrev pub is_free : List Range → Range → Bool
is_free taken r = are_user_pages r && not (list_any (meets r) taken)

-- the least number from `start` on, among `count`, that passes the test
unfoldable pub least_from : (ℕ → Bool) → ℕ → ℕ → Option ℕ
least_from test zero start = None
least_from test (suc count) start = let later = least_from test count (start + 1) in
    if test start then Some start else later

-- `count` pages from the granule with this number on
abbrev pub granule_range : ℕ → ℕ → Range
granule_range count granule = record { first = granule * granule_pages; count = count }

-- the lowest granule from which `count` user pages are free, as a page
abbrev pub lowest_gap : List Range → ℕ → Option ℕ
lowest_gap taken count =
    option_map (λ g. g * granule_pages)
    (least_from (λ g. is_free taken (granule_range count g)) granules 0)
