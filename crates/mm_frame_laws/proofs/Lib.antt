pub mod Counting
pub mod Ordering
pub mod Writing
pub mod Walks
pub mod Moving
pub mod KeyMoves
pub mod Carrying
pub use Counting.{on_times}
pub use Ordering.{all_go, best_begins, best_kept, best_none, best_now, best_same, best_victim}
pub use Ordering.{goes_valid, has_process, next_oldest, next_passed, none_found, none_next}
pub use Ordering.{none_next_in, oldest_found, oldest_next, one_oldest, one_victim, set_oldest}
pub use Ordering.{some_oldest, some_victim, victim_found}
pub use Writing.{block_is, failed, file_writes, full_legal, lost_legal, others_sized, paged_writes}
pub use Writing.{sized, slot_backing, slot_parts, store_in_writer, store_there, trim_legal}
pub use Writing.{unmap_legal, unmapped, unmapped_changed, unmapped_clean, which_writes, write_lists}
pub use Writing.{write_others, write_record, written, written_flight, written_found, wrote_legal}
pub use Walks.{any_append, either, lost_more, lost_still, not_lost, on_append, on_last, on_left}
pub use Walks.{or_none, passes_first, passes_none, turn_failed, turn_failed_fewer, turn_failed_in}
pub use Walks.{turn_fewer, turn_in, turn_kept, turn_wrote_in, turns_end, walk_begins, walk_ends_in}
pub use Walks.{walk_failed_in, walk_fails, walk_in, walk_on, walk_passes, walk_passes_all}
pub use Walks.{walk_then, walk_wrote_in, writers_same, writes_same}
pub use Moving.{asked_low, here_set, home_bytes, others_set, owned_low, records_ended, shown_calm}
pub use KeyMoves.{calm_is}
pub use Carrying.{block_there, carries_add_block, carries_add_zero, carries_at, carries_at_plain}
pub use Carrying.{carries_bad, carries_block, carries_clear, carries_drop, carries_give}
pub use Carrying.{carries_got, carries_lost, carries_map, carries_read, carries_soil, carries_start}
pub use Carrying.{carries_steal, carries_unmap, carries_write, carries_written, carries_wrote}
pub use Carrying.{page_of_key, read_backed, slot_there, write_backed}
