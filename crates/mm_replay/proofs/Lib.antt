pub mod Numbers
pub mod ReadAgain
pub mod Sounds
pub mod Slotting
pub mod Outcomes
pub mod Leaves
pub mod Pairing
pub mod NearAndFar
pub mod Holding
pub mod Flags
pub mod Lines
pub mod Fresh
pub mod Placing
pub mod Looked
pub mod Soundness
pub mod Flying
pub use Sounds.{front_again, key_reads, move_reads, none_again, whole_again, whole_spelled}
pub use Slotting.{given_before, given_behind, given_first, grown_some, lowest_taken, taken_next}
pub use Outcomes.{if_none, on_err_then, on_ok_then}
pub use Leaves.{full_keeps, full_place, no_place, none_in, none_placed, place_in, place_of_some}
pub use Leaves.{place_tested, place_within, push_keeps, put_sets, resized, same_twice, set_after}
pub use Leaves.{set_to_same, value_is}
pub use Pairing.{mapped_at, mapped_none, mapped_same, mapped_through, mapped_written}
pub use NearAndFar.{both_removed, chosen, far_kept, far_written, near_kept, near_same, near_sets}
pub use NearAndFar.{near_written, none_removed, nothing_found, part_of}
pub use Holding.{frames_kept, frames_none, frames_same, frames_written, known, paging_kept}
pub use Holding.{paging_none, paging_same, paging_written, private_is, private_kept}
pub use Holding.{private_written, shared_is, shared_kept, shared_written, stands_none, stands_same}
pub use Holding.{stands_written}
pub use Flags.{flagged_none, fresh_life}
pub use Lines.{NoFeed, move_no_feed, move_onto-is, move_short, no_line, one_line, one_move}
pub use Fresh.{all_kept, not_yet}
pub use Placing.{busy_kept, busy_off, modified_here, off_left, off_set, put_kept, table_left}
pub use Placing.{table_stays}
pub use Looked.{behind_frame, few_apart, framed_behind, one_apart}
pub use Soundness.{reached_made, read_ready, ready_low, ready_quiet, sound_of, write_ready}
pub use Flying.{flagged_begun, flagged_ended, flight_stays, request_new}
