pub mod AccessMoves
pub mod Shows
pub mod Taking
pub mod FaultSteps
pub mod Ending
pub mod LettingGo
pub mod Completed
pub mod Rearranging
pub mod Flushed
pub mod NewFiles
pub mod Copies
pub mod CopyEnds
pub mod Started
pub use AccessMoves.{kept_made, may_use_moved, may_use_then, stored_same, unmapped_flight}
pub use AccessMoves.{went_then}
pub use Shows.{added_store, adds_passes, changed_keys, forgot_passes, forgot_store, line_store}
pub use Shows.{line_whole, none_passes, notes_by, one_passes, process_set, stands_nowhere}
pub use Shows.{turns_either, turns_still}
pub use Taking.{access_touches, called_by_read, clear_legal, freed_ready, give_legal, in_frame_then}
pub use Taking.{map_legal, may_map, placed_after, placed_by, read_legal, readied_ready, some_page}
pub use Taking.{soiled_for, stored_unframed, touches_touch, went_give, went_map, went_unmap_map}
pub use FaultSteps.{brings_given, brings_here, brings_read, brings_settled, fails_to_find, faulted}
pub use FaultSteps.{found_access, found_stands, gives, reading_fails, search_left, settling_fails}
pub use FaultSteps.{MaySeek, zero_unframed}
pub use Ending.{brought_soiled, brought_written, err_store, faulted_ends, faulted_kept, kept_in, named_here}
pub use Ending.{named_then, not_here, of_stuck, of_went, of_wrote, ok_served, ok_store, piece_served}
pub use Ending.{read_named, served_in, soils_names, some_is, stuck_passes, valid_ends, valid_passes}
pub use Ending.{went_passes, went_soil, written_in, wrote_eases, wrote_ends, wrote_named}
pub use Ending.{wrote_passes}
pub use LettingGo.{GoneUpTo, all_among, all_places, drop_legal, gone_more, gone_next, in_pages}
pub use LettingGo.{lets_none, lets_then, lets_wider, may_legal, may_let_own, may_let_pages}
pub use LettingGo.{may_still, next_at, none_next, pages_low, pages_open, paging_lives, past_next}
pub use LettingGo.{removed_contents, removed_passes, removed_store, thins_none, thins_then}
pub use LettingGo.{unbound_passes, unbound_store, valid_in}
pub use Completed.{Completing, completes, ended_blames, ended_kept, ended_none, ended_ok}
pub use Completed.{ended_passes, ended_served, ended_some, ended_store, flight_low, flight_request}
pub use Completed.{nth_found, nth_none}
pub use Rearranging.{by_clears, by_trim, by_writes, tidied_kept, tidied_store, trim_passes}
pub use Rearranging.{write_passes, zero_passes}
pub use Flushed.{block_of_frame, changed_none, changed_written, filed_after, flight_ended}
pub use Flushed.{flight_none, flushed_kept, flushed_passes, flushed_served, flushed_store}
pub use Flushed.{flushing_of, frame_flushed, frame_lost, its_bytes, its_others, not_framed}
pub use Flushed.{on_err_if, on_ok_if, page_framed, page_home, start_legal}
pub use NewFiles.{blocks_lost, blocks_more, blocks_none, built_as, built_notes, one_written}
pub use NewFiles.{pages_more, pages_none, unmade_notes, unmade_served}
pub use Copies.{copied_from, copied_to, copy_given, copy_gives, copy_legal, copy_put}
pub use Copies.{faulted_readied, held_given, made_copied, map_copy, may_copy, other_frame}
pub use Copies.{own_may_map, room_then, shared_fits, shows_held, some_of, there_readied, went_held}
pub use CopyEnds.{aims, copied_ends, copied_kept, copied_store, copy_aim, copy_passes, err_copies}
pub use CopyEnds.{failed_causes_copy, failed_dead, failed_ends_copy, failed_kept, failed_passes}
pub use CopyEnds.{failed_store, fails_to_hold, never_unready, ok_copies, page_access}
pub use CopyEnds.{plain_where_free, plain_where_short, readied_life, still_dead}
pub use Started.{begun_full, begun_given, begun_here, begun_put, begun_read, begun_reading}
pub use Started.{begun_short, begun_starved, begun_with_frame, started_awaited, started_kept}
pub use Started.{started_passes, started_pends, started_store, started_waits, thread_reads}
