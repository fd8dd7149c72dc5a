pub mod Shown
pub mod Tables
pub mod Finds
pub mod Kept
pub mod RowChanges
pub mod RowTests
pub mod ViewStates
pub mod Asked
pub mod PageInfos
pub use Shown.{new_flags, new_view_row, region_of, shown_regions, shown_row}
pub use Tables.{RegionsOf, found_info, info_of, marked_in, owned_in, rows_in_range, rows_of_range}
pub use Tables.{told_page_row, told_row, unmarked_in}
pub use Finds.{IsKeptSpace, IsWholeRegion}
pub use Kept.{IsAround, IsBased, IsRegionAt, NoneAround, NoneBased, both_where, found_if, is_based}
pub use Kept.{surrounds}
pub use RowChanges.{CanChange, CanChangeRow, CanChangeRows, IsInRegion, RowChanged, RowsChanged}
pub use RowChanges.{RunChanged, changed_row, owns}
pub use RowTests.{passes}
pub use ViewStates.{is_area_page, state_told, states_in, view_state, view_states}
pub use Asked.{IsAsked}
pub use PageInfos.{IfInView, IfTold, LiesInView}
pub use declared.queries.PageInfo.{PageInfo}
pub use declared.queries.ToldState.{ToldState}
pub use declared.rows.RowChange.{RowChange}
pub use declared.spaces.PageRow.{PageRow}
pub use declared.spaces.RegionInfo.{RegionInfo}
