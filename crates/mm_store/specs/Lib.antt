pub mod Tallies
pub mod Store
pub mod Leaving
pub mod Reports
pub mod Conditions
pub mod Behind
pub mod Told
pub mod Shortage
pub mod Accesses
pub mod Flushing
pub mod Housekeeping
pub mod Standing
pub mod Passing
pub mod Methods
pub use Tallies.{one_more, tallied, with_call, with_outcome}
pub use Store.{Ready, StoreOf, changed_in, is_place_in, kind_of_machine, own_key}
pub use Store.{unnamed, with_blocks, with_file}
pub use Leaving.{goes_with, handle_rank, last_rank, leaving, nothing, or_else, page_rank}
pub use Leaving.{rank_behind, section_rank, view_rank}
pub use Reports.{HasCauses, IsBegun, Served, SomeFailed, begun, called, completed, eased, fetched}
pub use Reports.{no_calls, rearranged, started, with_named, with_named_paging, wrote}
pub use Conditions.{AllBound, AreAmong, HasHome, IsAmong, IsLineKind, IsNew, IsReady, IsReleasing}
pub use Conditions.{MayAccess, MayRemove, MayUnbind, copying, need_for, pid_after, place_at, touch}
pub use Conditions.{wait_after, waits_at_once}
pub use Behind.{nothing_behind}
pub use Told.{call_of, calls_of, file_traffic, in_block, in_slot, none_told, paging_traffic}
pub use Told.{told_after, told_of, told_through, with_read, with_write}
pub use Shortage.{is_framed, is_shortage, wants_frame}
pub use Accesses.{AccessEnds, AccessMove, AccessMoves, Aim, ByCopy, Copies, Failed, Forgets}
pub use Accesses.{FromFull, Had, InShortage, IsGiven, IsGivenAtOnce, IsGivenNext, IsMapped}
pub use Accesses.{IsHeldUp, IsOfNeed, IsReadEnded, IsServed, IsSoiledFor, IsUsedNext, PageGoes}
pub use Accesses.{ReadFails, ReadyMoves, Starts, Touches, is_copied, is_had, is_read_fault}
pub use Accesses.{is_read_in_flight, key_shown, key_written, wait_begun, walk_from}
pub use Flushing.{FlushMoves, FlushedAt, FlushesBy, IsEndOf, IsEndedFirst, IsWriteOf, IsWrittenIf}
pub use Flushing.{IsWrittenNow, ends_lost, life_through}
pub use Housekeeping.{AgesAll, AllTurn, ByMoves, Clears, Climbs, Completes, CompletesAs, Exactly}
pub use Housekeeping.{Flushes, FlushesPage, Goes, Grows, GrowsAs, IsInOrder, DropsLowest, IsStack}
pub use Housekeeping.{LowestFirst, Makes, MakesFrom, MakesStack, NoMove, OneMove, Rises, Trims}
pub use Housekeeping.{Turn, Turned, Turns, WritesOut, guard_told, is_turn, key_number, number_made}
pub use Housekeeping.{numbers_made, rank_gone, ranks_gone, with_some}
pub use Standing.{PagingStands, StandsIn, backed_by, block_at, bytes_on_devices, framed_where, in_backing}
pub use Standing.{is_on_device, stored_of, where_of}
pub use Passing.{FileMade, Notes, NotesIn, Passes, PassesIn, WritesFile, last_write, writes_from}
pub use Methods.{AccessAnswered, Accessed, Begins, BlockFlushed, MayMakeFile, NewFile, PageCopied}
pub use Methods.{PagingGrown, RequestEnded, UsableAt, WroteBlocks}
pub use declared.outcomes.Done.{Done}
pub use declared.outcomes.Need.{Need}
pub use declared.outcomes.Start.{Start}
pub use declared.page_store.PageStore.{Ghosts}
