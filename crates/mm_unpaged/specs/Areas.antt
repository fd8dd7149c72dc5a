-- What the open areas show, each as a function of the area's number and of an index.
use Rattle.std.specs.Prelude.{ℕ, ◌+◌, nat_lt, if◌then◌else◌, is_some, List, [], length, Option, Some, None, slice_index_or}
use Rattle.std.specs.List.{sum_by}
use Rattle.mm_world.specs.{Page}
use Rattle.mm_unpaged.specs.declared.areas.AreaPages.{AreaPages}
use Rattle.mm_unpaged.specs.declared.areas.AreaPages.TheVariants.{Paged, Filed}
use Rattle.mm_unpaged.specs.declared.areas.Areas.{Areas}

-- the area of a number, if it is open
abbrev pub area_in : Areas → ℕ → Option AreaPages
area_in areas area = slice_index_or areas.areas.items area None

-- of an area, how many pages it was opened for
abbrev pub size_of : Option AreaPages → Option ℕ
size_of None = None
size_of (Some (Paged pages)) = Some (length pages)
size_of (Some (Filed first count)) = Some count

-- the pages that stand with the area
abbrev pub area_pages : Option AreaPages → List (Option Page)
area_pages None = []
area_pages (Some (Paged pages)) = pages
area_pages (Some (Filed first count)) = []

abbrev pub page_of_area : Option AreaPages → ℕ → Option Page
page_of_area area index = slice_index_or (area_pages area) index None

-- the block of a page of a file
abbrev pub area_block : Option AreaPages → ℕ → Option ℕ
area_block None index = None
area_block (Some (Paged pages)) index = None
area_block (Some (Filed first count)) index = if nat_lt index count then Some (first + index) else
    None

abbrev pub one_if_live : Option Page → ℕ
one_if_live page = if is_some page then 1 else 0

-- how many pages of an area are live and stand with it
abbrev pub count_of : Option AreaPages → ℕ
count_of area = sum_by one_if_live (area_pages area)

abbrev pub count_in : Areas → ℕ
count_in areas = sum_by count_of areas.areas.items

abbrev pub no_areas : ℕ → Option AreaPages
no_areas _ = None
