-- The pages of a control area, without their bytes.
-- Profile, "Regions, rows, sections".
use Rattle.std.specs.Prelude.{ℕ, is_some, is_none, take, drop, count_by, Option, Some, None, if◌then◌else◌, Bool}
use Rattle.mm_types.specs.{Block}
use Rattle.mm_world.specs.{AreaOf}

abbrev pub block_number : Block → ℕ
block_number b = b.0

abbrev pub number_of_block : ℕ → Block
number_of_block n = record { 0 = n }

-- a committed page, or one that is not
abbrev pub page_if : Bool → Option (Unit {0})
page_if committed = if committed then Some tt else None

-- how many of a range of an area's pages are not committed
abbrev pub uncommitted_in : AreaOf (Unit {0}) → ℕ → ℕ → ℕ
uncommitted_in a first count = count_by is_none (take count (drop first a.pages))

abbrev pub committed_count : AreaOf (Unit {0}) → ℕ
committed_count a = count_by is_some a.pages
