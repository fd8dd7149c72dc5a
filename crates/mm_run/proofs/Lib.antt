pub mod Ends
pub mod Scripts
pub mod Stops
pub mod Writing
pub mod Stories
pub mod Failures
pub mod Firsts
pub mod Later
pub mod Finding
pub mod Logs
pub mod Lost
pub mod Unpaged
pub mod Deciding
pub mod Closing
pub mod Starting
pub mod Numbers
pub mod Batches
pub mod Drawn
pub mod Events
pub mod Tallies
pub mod FormWords
pub mod WrittenPages
pub mod WatchLines
pub mod WatchesTold
pub mod StagesStand
pub mod OneScript
pub mod Pairs
pub use Ends.{accounted, accounted_behind, accounted_memory, blamed_beside, blamed_end, blamed_open}
pub use Ends.{came_usage}
pub use Scripts.{exact, not_usage, usage}
pub use Stops.{came_bad, came_broken, came_done, came_end, came_held_back, came_line, came_long}
pub use Stops.{came_memory, came_read, came_setup, came_torn, few, line_of_none, went_told}
pub use Writing.{both_whole, flushed_either, torn_before, torn_behind, wrote_torn, wrote_whole}
pub use Stories.{comes_here, follows_here, grows_here, log_left_at, scene_follows, went_came}
pub use Stories.{went_filled}
pub use Firsts.{came_unanswered, came_unopened, first_answered, told_muted, told_went}
pub use Later.{later_misplaced, later_reading}
pub use Finding.{begins_ends, begins_then, blamed_then, finds_then, goes_ends, goes_here, goes_then}
pub use Finding.{steps_then}
pub use Unpaged.{plain_answer, unpaged_answer}
pub use Deciding.{devices_hold}
pub use Closing.{accounted_closed, ran_closed}
pub use Starting.{is_made, is_new, lent, starts_over, three_names}
pub use Numbers.{scan}
pub use Batches.{blamed_opened, first_handled, first_muted, first_stopped, handled_none, handled_on}
pub use Batches.{stopped_here, stopped_on}
pub use Drawn.{script_whole, slice_few, slice_later}
pub use Tallies.{accounted_unflushed, all_told, all_torn, ran_failed, ran_unflushed}
pub use FormWords.{bulk_same, form_said, no_numbers, no_run, one_bulk, says_none, two_items}
pub use WatchesTold.{watches_told}
pub use OneScript.{one_log_of_runs, one_log_of_scripts}
pub use StagesStand.{stages_stand}
