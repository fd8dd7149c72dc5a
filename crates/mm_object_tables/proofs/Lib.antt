pub mod Rows
pub mod Keeping
pub mod Settled
pub mod Turning
pub mod Regional
pub mod EndingExits
pub mod Lines
pub mod SectionFits
pub mod Lists
pub mod ViewSteps
pub mod PageByPage
pub mod EndingSteps
pub mod EndingSettles
pub use Rows.{called_by, carries_same, content_is, holds, process_is, process_set_same, regions_in}
pub use Rows.{regions_of_process, regions_set_other, regions_set_same, settled_same}
pub use Keeping.{Held, all_changed, around_became, around_changed, below_too, first_kept, held_by}
pub use Keeping.{kept_beside, kept_dropped, kept_same, lives_there, nobody_beside, none_yet}
pub use Keeping.{of_others, one_more, put_is, put_kept, regions_by, shown_is, shown_unless}
pub use Keeping.{shown_with, still_kept, unless_all}
pub use Settled.{around, can_add, can_make, commit_done, ends, frees, out_of_memory, paging_few}
pub use Settled.{protect_done, reserve_done, roomier_settled, settled_as, settled_then}
pub use Turning.{idle, idle_then, makes_as, notes_nothing, pages_as, pages_idle, pages_then}
pub use Regional.{allowed, copy_charge, copy_marked, copy_moved, copy_stands, either_fit}
pub use Regional.{either_kept, flagged, flags_fit, flags_kept, guard_charge, guard_moved}
pub use Regional.{guard_stands, in_area, none_found, not-true, one_or_other, protect_count}
pub use Regional.{reserve_charge, row_changed, row_kept, some_with}
pub use EndingExits.{AllHeld, NoneBelow, after_set, after_settled, all_ended, among_unbound, apart}
pub use EndingExits.{around_part, below_lowest, can_after, can_part, dead_at_once, decommit_among}
pub use EndingExits.{decommit_can, decommit_end, decommitted, dropped, exit_then, first_page}
pub use EndingExits.{freed_charged, freed_kept, freed_named, freed_settled, given_at_once}
pub use EndingExits.{given_halves, given_nothing, given_unbound, halves, halves_pass, handles_fewer}
pub use EndingExits.{has_lowest, high_in, its_own, low_in, lowest_within, next_closed, no_lowest}
pub use EndingExits.{no_region, open_handles, owned_is, page_then, private_lowest, process_landed}
pub use EndingExits.{range_passes, range_then, regions_end, regions_fewer, regions_then}
pub use EndingExits.{release_among, release_can, release_end, release_freed, release_inside}
pub use EndingExits.{release_there, section_there, toward_nobody, toward_same, toward_set}
pub use EndingExits.{toward_settled, toward_then, view_info, view_lowest}
pub use Lines.{fail_kept, file_area, file_fits, file_kept, file_now, fills_then, fits_wrote, more}
pub use Lines.{more_fits, more_kept, new_fits, next_area, next_dead, next_kind, next_room, shown_as}
pub use Lines.{slots_kept}
pub use SectionFits.{ListsSection, area_free, as_kept, committed_pages, file_section_kept}
pub use SectionFits.{file_section_now, file_section_settled, handle_few, handle_kept, handle_now}
pub use SectionFits.{handle_settled, handled_last, key_free, lists, paging_kept, paging_now}
pub use SectionFits.{paging_pages, paging_settled, same_kept}
pub use Lists.{count-all, count-change_range, count-next, count-replicate, length-range, one_if}
pub use ViewSteps.{AddsView, CommitsView, Committed, Lent, can_next, can_share, changed_in}
pub use ViewSteps.{commits_kept, commits_now, commits_settled, few_views, info_inside, info_of_view}
pub use ViewSteps.{lent_are, living_at, one_given, put_at, regions_are, room_alone, roomier_fits}
pub use ViewSteps.{shares_new, shares_old, shares_then, unbound, view_done, view_kept, view_settled}
pub use PageByPage.{adds_none, adds_nothing, adds_one, adds_then, as_many, can_add_next}
pub use PageByPage.{can_go_next, emptied, err_then, given_all, given_less, given_none, given_then}
pub use PageByPage.{gone_then, key_given, keys_stored, known_at, lower_gone, more_room, new_places}
pub use PageByPage.{next_can, next_held, only_is, own, page_bound, page_can_go, page_dead}
pub use PageByPage.{page_unbinding, passing_all, place_given, places_stored, region_filled}
pub use PageByPage.{shared_dead}
pub use EndingSteps.{close_counted, close_held, close_named, close_step, closed, ends_at}
pub use EndingSteps.{ends_bound, has_entry, its_area_inside, put_process, unmap_around, unmap_can}
pub use EndingSteps.{unmap_charged, unmap_counted, unmap_end, unmap_named, unmap_some, unmap_step}
pub use EndingSteps.{unmap_there, unmapped, whole_can, whole_charged, whole_ends, whole_stays}
pub use EndingSettles.{beside_then, carries_less, for_own, for_set, for_settled, less_then}
pub use EndingSettles.{no_charge, ranked_closed, ranked_removed}
