pub mod Changes
pub mod Lookups
pub mod FreeAt
pub mod RangeLists
pub mod Joined
pub mod FlagLemmas
pub mod Chunked
pub mod Forks
pub use Changes.{Changed, Done, after_add, after_change, after_none, after_remove, can_none, fits}
pub use Changes.{none_missing}
pub use Lookups.{begun_shown, change_here, change_later, found_at_base, found_shown, none_shown}
pub use Lookups.{range_told, ranges_shown, row_there, rows_whole, space_shown, with_base_shown}
pub use FreeAt.{begins_at, begins_from, begun_is, begun_left, begun_right, is_free-from}
pub use FreeAt.{lowest_gap-fit, mapped_begins_at, mapped_begins_from, mapped_none, mapped_some}
pub use FreeAt.{met_at, met_is, not_not, nothing_is_free}
pub use RangeLists.{add_free, add_left, add_right, apart_back, apart_from_below, apart_front}
pub use RangeLists.{at_left, at_middle, at_right, both_shorter, each_region, first_before}
pub use RangeLists.{first_right, length-add, length-apart, length-remove-le, remove_apart}
pub use RangeLists.{remove_left, remove_right, visits_few, visits_more}
pub use Joined.{are_alike_itself, as_one, as_written, equal-rows, equal_behind, equal_if_eq}
pub use Joined.{equal_more, equal_part, equal_run, equal_unless_other, equal_within, filled-more}
pub use Joined.{filled_behind_chunks, filled_equal, filled_none, filled_same, filled_whole}
pub use Joined.{filled_within_chunk, first_of_run, joined-equal, kept_behind, kept_within}
pub use Joined.{length-filled, length-joined, length-rows, no-rows, prefix_run, read_behind}
pub use Joined.{read_within, room_written, run_from_is, written_as}
pub use FlagLemmas.{Left, flags_become, flags_zero, left_more, length-flags, next_flagged}
pub use FlagLemmas.{none_flagged}
pub use Chunked.{chunk_filled, chunk_written, chunks_become, chunks_made, each_read, equal_read}
pub use Chunked.{inside, length-chunks, no_chunks, owned_same, place_read, places_kept, room_left}
pub use Chunked.{room_seen, rows_made, rows_read, rows_same, rows_seen, stands, written_out}
pub use Forks.{alike_itself, apart, at_root, fit_left, fit_right, highest_fork, left_fork}
pub use Forks.{left_once, left_twice, lowest_fork, may_lean_left, may_lean_right, node_fork}
pub use Forks.{node_unchanged, right_fork, right_once, right_twice, same_kept, settled_grown}
pub use Forks.{settled_shrunk, taken, unchanged}
