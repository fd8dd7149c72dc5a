pub mod Around
pub mod Exits
pub mod Decided
mod Flushing
mod Named
pub mod RegionSteps
pub mod Touching
pub mod Growths
pub mod Probed
pub use Around.{TellsView, around, in_section, no_block, owned_few, private_around_is}
pub use Around.{private_at_is, tells_view, told_is, user_range}
pub use Exits.{ChangesWithin, IsRight, answers, answers-by, answers-if, commits_broke, commits_none}
pub use Exits.{commits_some, decides_same, is_right, lacks, makes_as, makes_broke, makes_none}
pub use Exits.{makes_same, makes_some, makes_within, ok_unless, past_limit, some_marks, stays_idle}
pub use Exits.{stays_settled, then_charged, then_made, then_succeeds}
pub use Decided.{Decommits, FindsView, alloc_commits, alloc_reserves, allocates_with, called_beside}
pub use Decided.{commit_within, commits_anew, decommits, finds_view, flushed_within, frees_none}
pub use Decided.{marks_there, marks_with, place_missing, place_within, placed_there}
pub use Decided.{protect_missing, protect_unaccepted, protect_uncommitted, protect_within, releases}
pub use Decided.{releases_there, reserve_missing, reserve_within, reserves_anew, reset_done}
pub use Decided.{reset_refused, told_none, told_view, view_within, watch_gives, watch_refused}
pub use RegionSteps.{both_made, charge_more, guard_free, in_user, joined, lasts_commit}
pub use RegionSteps.{lasts_reserve, now_reserved, same_charge, stack_made, stack_within, top_free}
pub use Growths.{above_the_base, bounded, grows_there, grows_with, made_bounded, not_next}
pub use Growths.{overflow_is, overflow_raised, stack_with, succeeds, there_grows, told}
pub use Probed.{MeetsGuard, grown_is, grows_here, of_growth, of_other, of_overflow, past_first}
pub use Probed.{room_there, settled_then, takes_off}
