pub mod Room
pub mod Order
pub mod Steps
pub mod Searches
pub mod WorkedSearches
pub mod Sets
pub mod Carried
pub use Room.{IsWithinDepth, NoneMayGo, NoneWritable, Writable}
pub use Order.{BestBelow, FollowsPage, IsBest, IsNextPage, NoPageFollows, PassedTo, Sooner, earlier}
pub use Order.{first_that, first_to_go, first_to_go_in, may_go_in, place_first, takes_over}
pub use Steps.{SameWriters, Unmapped, after_failed, after_written, backing_to, is_last}
pub use Steps.{list_in_search, put_last}
pub use Searches.{AllWritesFailed, AreSteps, Emptying, InOrder, InWalk, IsUnmap, MissedBut, Walking}
pub use Searches.{failed_write, first_passing, is_lost_of, is_untried, lost_in, next_try}
pub use Searches.{open_write, with_modified, written_by}
pub use WorkedSearches.{eight_pages, eight_places, first_emptied, first_fails, one_too_many}
pub use WorkedSearches.{second_emptied}
pub use Sets.{IsInSet, SetShows, page_of_place, place_of_page}
pub use Carried.{Carries, HoldsBytes, IsSoiled, KeepsBytes, SetsBytes, blocks_written, is_calm}
pub use Carried.{slots_grown, slots_written}
