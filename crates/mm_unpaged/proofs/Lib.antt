pub mod BoundPlaces
pub mod Contents
pub mod Fitting
pub mod OpenAreas
pub mod Openings
pub mod StoredFiles
pub mod Stores
pub use BoundPlaces.{changed_more, changed_none, count_by_insert, count_by_remove, count_by_write}
pub use BoundPlaces.{count_in_order, count_kept_by_write, counts_some, counts_without, held}
pub use BoundPlaces.{kept_by_write, next_unchanged, none_there}
pub use Contents.{changed_same, contents_in_file, report_kept, sizes_changed, written_to}
pub use Fitting.{files_fit_areas, files_fit_new, files_fit_same, files_fit_set, files_fit_settled}
pub use Fitting.{files_fit_unused, fits_areas, fits_bound, fits_kept, fits_new, fits_then}
pub use Fitting.{fits_unbound}
pub use OpenAreas.{has_place, in_file, live_place, live_within, none_at, none_live, open_place}
pub use OpenAreas.{pushed, set_area}
pub use Openings.{at_place, blocks_new, closed, contents_new, contents_settled, dead_count}
pub use Openings.{file_opened, file_written, files_fit_made, home_near, in_area, live_near}
pub use Openings.{file_got, none_counted, on_ok, opened, opened_or_not, own_live, page_got, page_here}
pub use Openings.{paging_new, shown_by}
pub use StoredFiles.{failed_write, none_failed, stored_more, wrote_one, wrote_then}
pub use Stores.{copied_from, copied_to, copy_ends, eased_named, fetched_named, grown, named_after}
pub use Stores.{pid_stays, same_parts, served_named, touch_ends, written_live}
