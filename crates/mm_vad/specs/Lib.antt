pub mod Looks
pub mod Regions
pub mod Changes
pub mod Index
pub mod Chunks
pub mod Ranges
pub mod Visits
pub mod Room
pub mod Shape
pub mod Nodes
pub mod Bits
pub use Looks.{Look, are_alike, first_alike, look_of, run_from, same_flag, same_look}
pub use Regions.{HasFlags, HasPages, IsSpace, LieAmong, LieInRegion, LieWithPage, SpaceOf}
pub use Regions.{add_region, begins_at, change_region, fill_rows, region_at, region_from}
pub use Regions.{region_holds, region_range, region_ranges, region_with_base, remove_region}
pub use Regions.{with_equal_rows, with_marks, with_unwritten}
pub use Changes.{CanChangeAt, FitsRegion, change_by}
pub use Index.{AllHeld, IsHeld, IsIndex, regions_of, space_of}
pub use Chunks.{AreAll, AreRows, AreWritten, ChunksOf, FilledSome, StartsRun, WrittenOf}
pub use Chunks.{filled_rows, own_place, place_after, place_of_chunk, places_after, rows_in}
pub use Chunks.{rows_joined, rows_of, unplaced}
unfoldable pub use Chunks.{chunks_of, owned}
pub use Ranges.{FollowsFrom, GapsOf, LieApart, add_range, first_and_count, is_begun_at, page_number}
pub use Ranges.{range_at, remove_range}
pub use Visits.{VisitsFew, repeated}
pub use Room.{aligned, end_after, first_fit, lowest, room, widest}
pub use Shape.{DifferByAtMost, IsBalanced, IsFork, IsShaped, IsTurned, TreeOf, VisitsAtMost}
pub use Nodes.{Alike, Became, IsNode, IsSpan, IsTree, MayLeanAt, range_in, ranges_under}
pub use Nodes.{taken_range, tree_at, tree_of}
pub use Bits.{bit_flag}
unfoldable pub use Bits.{word_flags}
pub use declared.chunks.Chunk.{Chunk}
pub use declared.ledgers.Counter.{Counter}
pub use declared.pages.Row.{Row}
pub use declared.regions.Change.{Change}
pub use declared.regions.Region.{Region}
pub use declared.trees.Node.{Node}
pub use declared.trees.Span.{Span}
pub use declared.trees.TakenRange.{TakenRange}
