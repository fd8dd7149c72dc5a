-- The records and lists that the frame database of a running check shows.
use Rattle.std.specs.Prelude.{ℕ}
use Rattle.mm_move_rules.specs.{FrameTable}
use Rattle.mm_replay.specs.declared.listings.Listing.{Listing}
use Rattle.mm_replay.specs.Listed.{table_from_lists, Kept, Off}

abbrev pub listed_table : Listing → FrameTable
listed_table s = table_from_lists s.records.items s.lists

abbrev pub IsListingKept : Listing → Type 0
IsListingKept s = Kept s.records.items s.lists

abbrev pub IsOff : Listing → ℕ → Type 0
IsOff s f = Off s.records.items s.lists f
