-- A process: its page table and its working set.
use Rattle.std.specs.Prelude.{◌≡◌, ℕ, ◌<◌, ◌≤◌, Bool, true, false, is_some, Option, Some, None}
use Rattle.std.specs.Ordering.{nat_cmp}
use Rattle.std.specs.FinMap as finite
use Rattle.std.specs.FinMap.{FinMap}
use Rattle.mm_types.specs.{end_of_user_pages}
use Rattle.mm_page_tables.specs.Entries.{entry_or}
use Rattle.mm_page_tables.specs.declared.layout.Entry.{Entry}
use Rattle.mm_page_tables.specs.declared.layout.Entry.TheVariants as entry
use Rattle.mm_working_sets.specs.{WorkingSetOf}

-- the place in a working set that a valid entry names
abbrev pub set_place : Entry → Option ℕ
set_place entry.Empty = None
set_place entry.Zero = None
set_place (entry.Paged s) = None
set_place (entry.InFile b) = None
set_place (entry.Transition f) = None
set_place (entry.Valid f n) = Some n
set_place (entry.Proto a i) = None

-- the place in the working set that the word of a page names
abbrev pub place_in_set : FinMap nat_cmp ℕ → ℕ → Option ℕ
place_in_set table page = set_place (entry_or (finite.get table page))

pub record IsKeptProcess (table : FinMap nat_cmp ℕ) (set : WorkingSetOf) (open_now : Bool) :
    Type 0 where
  -- a page's word names a place exactly where that place holds the page
  pub named : (page n : ℕ) → place_in_set table page ≡ Some n → finite.get set.places n ≡ Some page
  pub held : (n page : ℕ) → finite.get set.places n ≡ Some page → place_in_set table page ≡ Some n
  -- the pages whose words name a place have an age, at most 7
  pub aged : (page : ℕ) → is_some (finite.get set.ages page) ≡ is_some (place_in_set table page)
  pub young : (page age : ℕ) → finite.get set.ages page ≡ Some age → age ≤ 7
  pub within : finite.len set.places ≤ set.max
  -- an open process has the room of its working set, a closed one has no word
  pub room : set.reserved ≡ open_now
  pub closed : open_now ≡ false → (page : ℕ) → finite.get table page ≡ None
  -- only user pages have a word
  pub user : (page : ℕ) → is_some (finite.get table page) ≡ true → page < end_of_user_pages
