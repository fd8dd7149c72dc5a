pub mod Around
pub mod RowsKept
pub mod Kept
pub mod Told
pub mod Made
pub mod Flagged
pub use Around.{add_shown, here}
pub use RowsKept.{AreEqual, Changing, Regions, Same, all_owned, base_allowed, behind, can_inside}
pub use RowsKept.{can_protect, changing_more, changing_none, counted_in, counted_no, counted_yes}
pub use RowsKept.{every_owned, every_row, in_region, inside, kept_rows, one_around, one_changed}
pub use RowsKept.{run_changed, shown_rows, some_now, user_page}
pub use Kept.{around_none, around_short, around_some, based_none, based_other, based_some, is_at}
pub use Kept.{long, none_at, private_at_told, row_low, view_around_told, view_at_told}
pub use Told.{committed_told, every_fails, every_more, info_by, kind_around, kind_at, length_in}
pub use Told.{next_behind, next_shown, not_private, private_run, private_state, region_told, run_at}
pub use Told.{seen, seen_there, state_read, view_fit, view_low, view_told}
pub use Made.{by_gap, by_wanted, can_add, free_among, has_flags, is_there, kept_add, kept_remove}
pub use Made.{lowest_shown, made_fits, placed_gap, region_made, removed, view_fits, view_made}
pub use Flagged.{IsWatched, Place, flags_many, in_places, kept_marks, kept_unwrote, lie_in_region}
pub use Flagged.{lie_with_page, marked, next_between, none_between, some_at, told_all, told_enough}
pub use Flagged.{told_here, told_more, told_of, told_pages, unwrote, watched_as, watched_there}
pub use Flagged.{watched_told, written_between}
