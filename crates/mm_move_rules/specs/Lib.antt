pub mod Frames
pub mod Life
pub mod Legal
pub mod Effect
pub mod Replay
pub mod Located
pub mod Victims
pub mod LogCounts
pub mod MoveText
pub mod Logs
pub mod WorkedLogs
pub mod Order
pub mod Waits
pub mod Walks
pub mod Searches
pub mod Chores
pub use Frames.{FrameTable, after_bad, after_clear, after_drop, after_give, after_got, after_lost}
pub use Frames.{after_map, after_read, after_soil, after_steal, after_unmap, after_write}
pub use Frames.{after_wrote, being_read, being_written, blank, bound, disowned, given, has_request}
pub use Frames.{is_again, is_empty, is_first, is_idle, is_on, is_read, is_write, off_lists}
pub use Frames.{read_done, record_at, rest, settled, settled_by, shared, slot_after_drop}
pub use Frames.{slot_after_lost, slot_after_read, slot_after_soil, slot_after_wrote, slot_of}
pub use Frames.{soiled, taken_for_read, to_free, unshared, with_record, without, without_slot}
pub use Frames.{write_done, write_lost}
pub use Life.{FrameLife, changed, counts_of, free_table, is_active, is_dead, is_in_transition}
pub use Life.{is_live, is_shared, key_of_place, life_at, no_machine, numbers_from, resident_by}
pub use Life.{same_key, same_place, set_in, set_of, unstarted, with_resident}
pub use Legal.{IsLegal, fits_place, has_depth, is_above_min, is_access, is_at_max, is_below_max}
pub use Legal.{is_block, is_call, is_io, is_legal, is_legal_add, is_legal_kind, is_legal_map}
pub use Legal.{is_legal_soil, is_legal_write, is_lowest, is_short, is_stored, is_thread, is_touch}
pub use Legal.{is_unbind, is_unmapped, is_valid_machine, is_writer, is_zero, is_zeroer, may_copy}
pub use Legal.{may_unmap, may_write_block, owner_is, shows_shared, touches, trims, unbinds}
pub use Effect.{after_add, after_at, after_move, after_unmap_at, after_write_to, backing_of}
pub use Effect.{dropped_at, freed, home_at, homed, slot_at, unlisted}
pub use Replay.{LeadsTo, Replays, replay, replay_log}
pub use Located.{BlockBytes, BytesLocated, FrameBytes, bytes_at, contents_of, frame_page, held_at}
pub use Located.{held_in, located, zero_page}
pub use Victims.{Aged, aged, can_be_written, goes_before}
pub use LogCounts.{CountsOfLog, brought_in, counts_of_log, is_give, is_read_in, is_steal, is_wrote}
pub use LogCounts.{soft_fault, soft_faults_from}
pub use MoveText.{AreMoves, IsBlock, IsKey, IsKind, IsMove, IsPlace, IsSpelled, IsStored, home_onto}
pub use MoveText.{key_onto, kind_onto, move_onto, move_text, numbered, place_onto, spelled_moves}
pub use MoveText.{spelling_of_move, stored_onto}
pub use Logs.{Flushed, Front, GaveOn, Grew, IsFrontOf, Log, LogGrew, Noted}
pub use WorkedLogs.{frame, pid, place, private, rewritten_head, rewritten_log, rewritten_tail, slot}
pub use WorkedLogs.{smallest_set_log}
pub use Order.{Ages, IsOldest, IsVictim, is_frame, is_unpinned, may_go, page_first, process_first}
pub use Order.{turn_of}
pub use Waits.{Ended, ForFrame, Idle, Waiting, ages_after, ended_by, wait_of, waits_after}
pub use Walks.{Through, Walk, ages_through, is_lost_move, is_read_move, is_wrote_move, takes_frame}
pub use Walks.{tried_after, waits_through, walked, walked_all}
pub use Searches.{IsWriteEnded, SearchMove, Starved, is_valid, next_writable, writable_in}
pub use Chores.{TrimMove, all_aged, clearings, ending, frame_of, lowest_free, spare_of, target}
pub use Chores.{writes_begun}
pub use declared.sets.ResidentSet.{ResidentSet}
