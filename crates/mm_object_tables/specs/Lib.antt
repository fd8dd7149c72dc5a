pub mod Threads
pub mod Stacks
pub mod References
pub mod Sound
pub mod Shown
pub mod Fits
pub mod Looks
pub mod Ranges
pub mod Known
pub mod Effects
pub mod Spaces
pub mod SectionSteps
pub mod Endings
pub mod ViewChanges
pub mod Promises
pub mod FilePromises
pub use Threads.{FitsPage}
pub use Stacks.{StandBelow, is_stack_of}
pub use References.{FileFits, IsFew, IsTidy, KeepersLive, MadeAtMost, NobodyKeeps, handles_in}
pub use References.{handles_to, views_in, views_of}
pub use Sound.{AreKeptTables, IsCounted}
pub use Shown.{kept_of, shown_accesses, shown_process, shown_processes, tables_with, unless_of}
pub use Fits.{BlocksHold, Called, CanCopy, Carried, CarriesPages, FitsTables, NamesAtMostOne}
pub use Fits.{Settled, before_process, beside_file, copied, extended, file_block_in, file_told}
pub use Fits.{flush_told, grow_told, is_paging, is_reserved, is_uncommitted, key_at, key_bytes}
pub use Fits.{new_marks, new_pages, newly_marked, open_pages, owned_keys, paging_count}
pub use Fits.{store_beside}
pub use Looks.{committed_row, is_own, told_committed}
pub use Ranges.{Adds, CanAdd, Come, StandsFrom, first_pages, flags_set_in, high_half, is_key_in}
pub use Ranges.{is_page_dead, is_page_live, low_half, one_page_range, passing, with_flags}
pub use Ranges.{with_live, with_range_keys}
pub use Known.{KnownAt, KnownIn}
pub use Effects.{CanMake, Effect, Ends, Leaves, Makes, Moves, RangeStored, Roomier, after, bound_by}
pub use Effects.{contents_by, key_in, keys_of, names_by, paging_by}
pub use Spaces.{LendsHandles, LendsSpace, process_handles, process_regions, with_handles}
pub use Spaces.{with_space}
pub use SectionSteps.{CanFill, CanGive, IsListedAs, IsNewArea, Opens, is_page_of}
pub use Endings.{AreUnbound, CanEnd, CanGiveUp, CanGo, CanGoAll, CanRelease, Emptied, EndsArea}
pub use Endings.{Fewer, GivenUp, Gone, HasNoHandle, IsRankFor, Less, Toward, ended_area}
pub use Endings.{is_committed_in, is_key_of_area, is_owned_among, is_owned_at, own_at, owned_among}
pub use Endings.{places_by, shared_at, without_keys, without_names, without_paging}
pub use ViewChanges.{CanShare, MoreRoom, NewPlaces, Shares, is_shared_in, listed_area, living}
pub use ViewChanges.{region_of_view, section_of_view}
pub use Promises.{AddsKeys, AddsOwn, BindsPlaces, CanBind, CanProtectAll, CommitsInView}
pub use Promises.{CommitsPages, Frees, GivesUpPages, GivesUpOwn, IdlesOver, IsNewPlace, IsNewRange}
pub use Promises.{IsReadyFor, LosesReference, MakesPages, MakesWithin, Nears, PassesAs}
pub use Promises.{SettlesTables, SharesPages, Shrinks, StartsProcess, StaysIdle}
pub use FilePromises.{BlamesDevice, IsNewFile, MakesFile, NotesFile, StoresFile}
pub use declared.looks.CommittedRow.{CommittedRow}
pub use declared.tables.Process.{Process}
pub use declared.waiting.Kept.{Kept}
