pub mod Tables
pub mod Determined
pub mod LineEdits
pub mod Finding
pub mod Charges
pub mod Limit
pub mod RowsFit
pub mod Edits
pub mod CallEdits
pub mod Regions
pub mod Spaces
pub mod WellFormed
pub mod References
pub mod Natural
pub mod NaturalSections
pub mod KeptCalls
pub mod Across
pub mod Ranges
pub mod Outcomes
pub mod FlagsKept
pub mod FlagRanges
pub mod FlagsWritten
pub mod FlagsWatched
pub mod FlagsTold
pub mod KeptWrites
pub mod PrivateRegions
pub use Tables.{Holds, tables}
pub use Determined.{decided}
pub use LineEdits.{in_step, in_unpaged, line_terms, step_leaves}
pub use Finding.{HomeCases, IsCommitted, IsOwn, IsShared, Stands, committed_is, found_stands}
pub use Finding.{home_cases, numbered_inside, numbered_there, private_key_has_row, private_kind}
pub use Finding.{row_has_live_key, same_again}
pub use Charges.{charge-guard_off, charge-remove_region, charge-same_regions, charge-set_process}
pub use Charges.{charge-set_region, charge-set_regions, charge-set_row, charge-settle}
pub use Charges.{count_by-never, count_by-none, sum_by-put, sum_by-split}
pub use Limit.{access_charge, never_refused, reached_within}
pub use RowsFit.{commit_fits, each-append, each-at, each-remove, each-replicate, each-set}
pub use RowsFit.{every_page-at, length-change_range, new_view_fits, reserved_fits, rows_change}
pub use RowsFit.{rows_cleared, rows_committed, rows_protected, view_rows_protected}
pub use Edits.{AreaChanges, AreaComes, Beside, Edit, HandleComes, HandleGoes, Nothing, ProcessComes}
pub use Edits.{ProcessGoes, RegionChanges, RegionComes, RegionEdit, RegionGoes, Rest, SectionComes}
pub use Edits.{Settles, Then, any_terms}
pub use Regions.{IsPlaced, and-true, flags_changed, flags_stay, free_of, is_placed, laid_at}
pub use Regions.{laid_remove, less, no_flags, or-false, placed_is, same_place}
pub use Spaces.{begins_before, length-unwritten, private_flags, space_add, space_set, spaces_kept}
pub use Spaces.{wanted_granule}
pub use References.{first_spaces, line_keeps, new_file_keeps, numbers_kept, reached_is}
pub use References.{references_kept, spaces_keep}
pub use Natural.{first-map, map-insert, map-remove, map-replicate, same_charge, some-map}
pub use NaturalSections.{in_create_file, in_grow, in_new_file, in_open, in_probe}
pub use KeptCalls.{own_free, own_in}
pub use Across.{alloc_across, close_across, create_across, create_file_across, exit_across}
pub use Across.{flush_across, free_across, full_world, grow_across, holds_bytes, live_back}
pub use Across.{map_across, new_file_across, new_process_across, open_across, probe_across}
pub use Across.{protect_across, query_across, reset_watch_across, stack_across, tables_back}
pub use Across.{take_fail_across, unmap_across, watch_across}
pub use Ranges.{Inside, Within, apart_too, holds, holds_first, holds_not, inside, lies, within}
pub use Outcomes.{at_alive, at_found, at_limit, at_met, at_missing, at_room, at_unmet}
pub use FlagRanges.{equal, page_of-address_of, same_page}
pub use FlagsWatched.{watch_gives_flagged}
pub use FlagsTold.{flags_told}
pub use KeptWrites.{kept_writes_follow}
pub use PrivateRegions.{any_insert, any_set, first_stacked, region_stays, stays_stacked}
