pub mod Stands
pub mod Keeping
pub mod RequestLists
pub mod FrameSteps
pub mod KeyChanges
pub mod KeyLives
pub mod PlaceChanges
pub mod LineSteps
pub mod Agreeing
pub mod Conditions
pub mod Reading
pub mod Holding
pub mod Waiting
pub use Keeping.{Step, frame_told, kept_by, known, not_valid_told, step_to, valid_calm, valid_entry}
pub use Keeping.{valid_owned, valid_there, valid_told, words_done, words_step}
pub use FrameSteps.{clear_step, ended_bytes, ended_table, give_step, held_by_request, read_frees}
pub use FrameSteps.{read_left, read_over_by, read_shows, read_step, read_table, reading_busy}
pub use FrameSteps.{send_can, soil_step, steal_step, table_end, table_read, write_busy}
pub use FrameSteps.{write_end_step, write_frees, write_step}
pub use KeyLives.{add_block_step, add_zero_step, copy_bound, copy_none_aside, copy_step, drop_calm}
pub use KeyLives.{drop_frees, drop_released, drop_some, drop_there, drop_told_step, keys_room}
pub use KeyLives.{set_names, set_places}
pub use PlaceChanges.{map_any_step, unmap_any_step}
pub use LineSteps.{ages_held, area_clear, area_step, at_step, bind_step, bytes_step, first_legal}
pub use LineSteps.{givable, grow_machine, grow_step, next_shown, next_told, no_place, oldest_told}
pub use LineSteps.{open_step, range_user, set_room, slots_small, start_step, unbind_step, used_step}
pub use Agreeing.{entries_agree, requests_agree, sets_agree, slots_agree}
pub use Conditions.{Leaving, frame_fits, frame_low, invalid_entry, leave_can, leaving_told}
pub use Conditions.{lowest_is, mappable, name_can, new_in, read_backing, read_fewer, read_frame}
pub use Conditions.{read_fresh, read_new, shares_room, steal_can, write_can, write_free, write_low}
pub use Reading.{front_is, stands_told, stolen_table, told_low}
pub use Holding.{lines_hold, pages_hold, storage_holds}
pub use Waiting.{new_wait, no_wait, own_alone, place_last, read_flies, wait_step, waits_ended}
pub use Waiting.{waits_set}
