pub mod Base
pub mod Placing
pub use Base.{FramesOf, IsDirty, can_be_soiled, can_go_to, emptied, free_put, free_taken, given_to}
pub use Base.{gone_free, has_block, is_modified_with_block, modified_with_block, now_cleared}
pub use Base.{read_ended, record_written, slot_after_write, standby_taken, standing_at, stands}
pub use Base.{write_ended, zeroed_put, zeroed_taken}
pub use Placing.{AreBacked, AreFrames, AreKept, AreListed, ArePlaced, CanStand, Holds, IsAtRest}
pub use Placing.{backed_in, backed_list, free_only, is_bound, is_in_hand, is_kept, is_zero, joined}
pub use Placing.{list_for, lists_of, off_all, one_if, places, pushed_on, relisted, second_for}
pub use Placing.{stood, table_of}
pub use declared.standing.Standing.{Standing}
