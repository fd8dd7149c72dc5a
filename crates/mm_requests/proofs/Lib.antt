pub mod Places
pub mod Keeping
pub use Places.{ended_view, numbers_without, other_frame, place_found, place_missing, same_frame}
pub use Keeping.{all_ended, covered, holds_at, kept_begun, kept_ended, none_asked, none_left}
pub use Keeping.{nth_at}
