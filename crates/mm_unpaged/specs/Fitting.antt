-- What holds of what a store keeps.
use Rattle.std.specs.Prelude.{◌≡◌, ◌<◌, ◌≤◌, ◌+◌, ◌^◌, ℕ, true, false, Some, List, length, slice_get, Option}
use Rattle.mm_types.specs.{Place, end_of_user_pages}
use Rattle.mm_world.specs.{Page}
use Rattle.mm_unpaged.specs.declared.areas.AreaPages.{AreaPages}
use Rattle.mm_unpaged.specs.declared.areas.Areas.{Areas}
use Rattle.mm_unpaged.specs.declared.files.FilePage.{FilePage}
use Rattle.mm_unpaged.specs.declared.places.Places.{Places}
use Rattle.mm_unpaged.specs.Areas.{area_block, count_in}
use Rattle.mm_unpaged.specs.Places.{is_bound_in, pages_in}
use Rattle.mm_unpaged.specs.Stocks.{StockOf}

-- the places, the page-file areas and the boxes
pub record Fits (places : Places) (areas : Areas) (stock : StockOf) : Type 0 where
  -- each box has a page-file page or is spare
  pub boxes : (pages_in places + count_in areas) + stock.boxes ≡ stock.room
  -- user pages alone are bound
  pub low : (place : Place) → is_bound_in places place ≡ true → place.vpn.0 < end_of_user_pages

-- the files, their pages in memory, and the blocks of the device
pub record FilesFit (areas : ℕ → Option AreaPages) (pages : List FilePage) (blocks : List Page)
    (count : ℕ) : Type 0 where
  -- each page of a file has a block with a page
  pub near : (area index block : ℕ) → area_block (areas area) index ≡ Some block →
      block < length pages
  -- no two pages of files have the same block
  pub alone : (a i b j block : ℕ) → area_block (areas a) i ≡ Some block →
      area_block (areas b) j ≡ Some block → (a ≡ b) × (i ≡ j)
  -- where a page was not changed, its block holds it
  pub kept : (block : ℕ) (page : FilePage) → slice_get pages block ≡ Some page →
      page.changed ≡ false → slice_get blocks block ≡ Some page.page
  pub device : length blocks ≡ count
  pub used : length pages ≤ count
  pub few : count < 2 ^ 32
