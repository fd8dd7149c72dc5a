pub mod Placings
pub mod Counting
pub mod Fresh
pub mod Departures
pub mod OnePlace
pub mod AtRest
pub mod WithBlock
pub mod Shown
pub use Placings.{as_empty, as_shown, frames_stood, kept_owned, list_low, listed_off, listed_on}
pub use Placings.{table_stood, used_if, used_low}
pub use Counting.{counted}
pub use Fresh.{all_free, not_yet}
pub use Departures.{bound_fits, busy_off, disowned_kept, first_fits, first_held, given_fits}
pub use Departures.{hand_fits, hand_zero, now_first, now_free, now_given, now_left, now_put}
pub use Departures.{now_settled, request_busy, shared_busy, shared_owned, shared_used}
pub use Departures.{soiled_no_read, still_empty}
pub use OnePlace.{one_place}
pub use AtRest.{listed_rests, low_blank, modified_is, on_low, on_place, on_rests, rests_listed}
pub use AtRest.{zeroed_zero}
pub use WithBlock.{backed_stood, none_backed, second_low, second_off, second_on, with_block_found}
pub use Shown.{holds, owned_used, page_changed, page_low, page_written, shown, there}
