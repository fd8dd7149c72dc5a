pub mod Marked
pub mod InFront
pub mod Counts
pub mod Stuck
pub mod Readings
pub mod Stories
pub mod Pieces
pub mod Shown
pub mod Exactly
pub mod AskedWords
pub mod Refusals
pub use InFront.{first_and_rest, front_more, front_one, front_zero}
pub use Readings.{finds_end, finds_line, finds_long, lines_here, stops_full, stops_last, stops_long}
pub use Readings.{stops_read, took_front, took_line}
pub use Stories.{came_full, came_halt, came_stop, stands_more, stands_none}
pub use Exactly.{Ended, end_told, in_front, no_more, one_reading, says_no, says_yes, taken_told}
pub use AskedWords.{asks_none}
pub use Refusals.{ran_refused}
