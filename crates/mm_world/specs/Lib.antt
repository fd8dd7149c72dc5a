-- In the order of reading. The definitions are the lines up to Step; below it stand words of laws
-- and worked rows.

-- private memory
pub mod World
pub mod Find
pub mod Outcome
pub mod Charge
pub mod Rows
pub mod Alloc
pub mod Free
pub mod Protect
pub mod Query
pub mod Keys
pub mod Access
-- sections, views, processes
pub mod Sections
pub mod Views
pub mod Processes
-- watched regions, stacks
pub mod Watch
pub mod Stack
-- where an answer looks at paging, and one line as a whole
pub mod Report
pub mod Failure
pub mod Step
-- what holds of worlds, and words of laws
pub mod WellFormed
pub mod Contents
pub mod Laws
-- what lines tell of written pages, of kept writes and of stacks
pub mod Written
pub mod Flags
pub mod Writes
pub mod PrivateRegions
pub mod Stacked
-- worked rows
pub mod Worked
pub mod WorkedPrivate
pub mod WorkedSections
pub mod WorkedRuns
pub mod WorkedPaging
pub mod WorkedBeside
pub mod WorkedRefusals
pub use World.{AreaOf, FileOf, KeptOf, Numbered, Page, ProcessOf, RegionOf, RowOf, SectionOf}
pub use World.{StackOf, WorldOf, numbered, pages_of}
unfoldable pub use World.{filled}
pub use Find.{Found, add_region, area_at, change_range, end_stacks, first_where, is_named}
pub use Find.{is_private, no_area, one_later, placed, process_of, ranges_of, region_around}
pub use Find.{region_with, section_named, section_of, set_area, set_process, set_region}
pub use Find.{set_regions, set_stack, shared_page, stack_by, unless}
pub use Outcome.{OutcomeOf, done, find_or, need, refused, with_process, within_limit}
pub use Charge.{area_charge, charge, is_charged, limit, process_charge, region_charge}
pub use Rows.{accepts, all_protections, change_flags, change_rows, commit, every_page}
pub use Rows.{every_page_from, has_guard, is_committed, is_committed_at, is_one_of}
pub use Rows.{is_protection_among, mark_written, marked_prot, marked_protections, one_page}
pub use Rows.{private_protections, protected, protections_of, reserved_row, row_at}
pub use Rows.{view_protections, with_guard}
pub use Alloc.{alloc, alloc_types, are_alloc_parameters, commit_in, commit_shared, is_reserving}
pub use Alloc.{is_watched_type, new_row, plain_type, private_region, reserve}
pub use Free.{are_free_parameters, decommit, free, is_stack_at, private_around, private_at}
pub use Protect.{are_protect_parameters, protect, protection_at, protection_of}
pub use Query.{PageState, first_run, free_info, next_base, page_info, page_states, query}
pub use Query.{region_info, row_state, same_state, type_of}
pub use Keys.{Committed, Home, InSection, Own, committed_at, committed_in, content_of, guard_off}
pub use Keys.{home_in, is_file_key, key_of, own_page, private_key, set_row, set_shared, shared_key}
pub use Keys.{with_row}
pub use Access.{Attempt, Execute, ReadOf, WriteOf, access, access_at, access_of, address_in}
pub use Access.{attempt_in, bytes_at_home, is_permitted, perform, write_to, written}
pub use Sections.{are_section_flags, close, create, create_file, file_named, handle_or}
pub use Sections.{handle_section, holds, is_handle_to, is_reserve, is_view_of, largest_section}
pub use Sections.{named_or, new_section, next_handle, open_section, paging_area, section_prot}
pub use Sections.{settle, settled_area, settled_areas, settled_section, settled_sections, uses}
pub use Sections.{views, with_handle}
pub use Views.{first_protection, flush, flushed_range, flushed_view, is_copy, map_view, may_view}
pub use Views.{unmap, view_access, view_around, view_at, view_region}
pub use Processes.{exit, file_pages, grow, kept_of_others, most_fails, most_processes, most_slots}
pub use Processes.{new_file, new_process, no_regions, take_fail, tell_charge, with_slots}
pub use Watch.{reset_watch, unwritten, watch, watched_around, with_watched, written_from}
pub use Watch.{written_in}
pub use Stack.{grown, is_overflow, made, probe, probe_at, probe_in, probe_of, reserve_pages, stack}
pub use Stack.{stack_region}
pub use Report.{AtZero, BeingRead, InFrame, InStore, Tally, Whereabouts, failed_calls, is_short}
pub use Failure.{Need, access_fails, copies, has_frame, is_being_read, is_in_store, need_of}
pub use Failure.{pending, read_failed, same_key, search_failed, still_needs_frame, wait_failed}
pub use Step.{begin, failing, first_world, is_failed_extension, is_ok, is_told, keep, kept_by}
pub use Step.{need_at, resume, resume_told, step, stepped, store_line, threads, told, unpaged}
pub use Step.{waiting, when, world_after, world_told}
pub use WellFormed.{Each, FlagsFit, IsSpace, LaidOut, NumbersFit, PrivateRowFits, ProcessRefers}
pub use WellFormed.{References, RegionFits, RegionRefers, RowFits, RowsFit, Spaces, ViewFits}
pub use WellFormed.{ViewRowFits, held_protections}
pub use Contents.{AcrossBytes, AcrossFile, BytesAfter, BytesAfterFile, Tables, area_with}
pub use Contents.{areas_with, blank, bytes_in, file_bytes, map_area, map_outcome, map_process}
pub use Contents.{map_region, map_row, map_world, no_bytes, pages_with, process_with}
pub use Contents.{processes_with, region_with_bytes, row_with, rows_with, tables_of, tables_outcome}
pub use Contents.{world_with}
pub use Laws.{First, HasCommittedRow, KeepsLimit, Leaves, LimitDecides, LineLeaves, Next, Reached}
pub use Laws.{is_alarm, is_charging_line, is_limit_code, is_limit_refusal, is_success}
pub use Laws.{is_thread_line, more_slots}
pub use Written.{access_writes, kept_writes, line_begins, line_clears, line_wrote, reserved_range}
pub use Written.{written_after}
pub use Flags.{Begun, FlagTold, GivesFlagged, Told, flag_at, flag_in, flag_of, is_flagged}
pub use Writes.{ends_none, page_written, unless_in, write_of, writes_after, writes_of}
pub use PrivateRegions.{PagesOf, holds_asked, is_asked_region, is_private_region, is_region_of}
pub use PrivateRegions.{is_released_by, is_same_range, line_ends}
pub use Stacked.{are_stacked, holds_stack, is_place, is_stack_region, is_stacked}
pub use Worked.{GivesAnswers, machine}
pub use WorkedPrivate.{commit_again_row, decommit_and_commit_row, execute_and_edges_row, guard_row}
pub use WorkedPrivate.{half_in_half_out_row, query_runs_row, regions_side_by_side_row, rounding_row}
pub use WorkedPrivate.{smallest_machine_row}
pub use WorkedSections.{copy_on_write_row, copy_view_charged_whole_row, copy_view_refused_row}
pub use WorkedSections.{files_and_flushing_row, handles_names_views_row, mark_refused_row}
pub use WorkedSections.{marked_page_row, marks_last_row, protections_by_view_row, refusals_row}
pub use WorkedSections.{reserve_section_read_view_row, reserve_section_row, views_at_an_offset_row}
pub use WorkedRuns.{ends_of_processes_row, fail_lines_row, most_slots_row}
pub use WorkedRuns.{paging_device_refuses_to_grow_row, paging_file_grows_row, what_an_exit_ends_row}
pub use WorkedPaging.{collided_fault_and_full_queue_row, failing_writes_row}
pub use WorkedPaging.{far_past_the_frames_row, given_up_while_read_row, guard_at_a_resume_row}
pub use WorkedPaging.{oldest_first_row, plain_access_finishes_a_read_row, reads_that_fail_row}
pub use WorkedPaging.{rewritten_while_written_row, shared_section_trimmed_row, short_of_frames_row}
pub use WorkedBeside.{stack_grows_row, stack_out_of_commitment_row, watch_and_guard_row}
pub use WorkedBeside.{watch_refusals_and_ends_row, write_watch_row}
pub use WorkedRefusals.{order_of_refusals_row}
