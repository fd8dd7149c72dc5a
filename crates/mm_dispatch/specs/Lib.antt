pub mod Accessing
pub mod Stepping
pub mod Deciding
pub mod Built
pub mod Shown
pub mod Serving
pub mod Pending
pub mod Forgetting
pub mod Answering
pub mod Lining
pub mod Noting
pub mod Over
pub mod Promise
pub mod LinePromises
pub mod AccessPromises
pub use Accessing.{Accessed, Admits, IsHad, Marks, OwnsPage, Refuses}
pub use Stepping.{Stepped, asks_frames}
pub use Deciding.{Decided, Devices, Idle, KeepsTables, LineBegins, is_plain_kind}
pub use Built.{is_access_line, is_call_line, is_paging_line, takes_memory}
pub use Shown.{file_blocks, file_device, line_number, loans, paging_device, report, world}
pub use Shown.{world_behind}
pub use Serving.{AskedBeside, FailedBefore, FileWrites, FlushHolds, FlushServed, HasFailed}
pub use Serving.{IsFailure, Named, NamedOn, OneFailed, WritesBlocks, resumed_thread}
pub use Pending.{AccessMade, Permitted, Waits}
pub use Forgetting.{EndsWaits, Forgot, is_of_process, waited, waits_but}
pub use Answering.{Answered, AnswersAccess, FailedBy, MadeBy, RefusedBy, TurnedBy, WaitsBy, aim_in}
pub use Lining.{Lined}
pub use Noting.{EachMove, Halted, HaltedIn, Idles, IdlesBut, IdlesIn, IsCutLine, IsOneWay, LineWent}
pub use Noting.{Marked, MarkedAs, MarkedIn, TellsLine, idle_but, idle_left, is_later, keeps_keys}
pub use Noting.{takes_away}
pub use Over.{AskedBesideOver, DecidedOver, FitsOver, HaltedOver, IdleOver, KeepsOver, MarkedOver}
pub use Over.{PassesOver, aim_over, world_over}
pub use Promise.{Breaks, Decides, NotesMoves, Scene, StaysSound, ToldBeside, scene, scene_of}
pub use LinePromises.{AnswersLine, CanDecide, HaltsLine, IsNext, MakesLine, StartsCall, StartsLine}
pub use LinePromises.{StartsOn, StartsRelease, TakesLine}
pub use AccessPromises.{AccessDone, AccessEnded, BeginsThread, CanAccess, MayCopyOnWrite, CanReach}
pub use AccessPromises.{CanTurn, Copied, EndsAccess, EntersLine, HasOwn, LieInPage, ReadyFor}
pub use AccessPromises.{Touched, TurnsAccess, access_line, aim_for, row_need}
pub use declared.threads.Threaded.{Threaded}
pub use declared.worlds.World.{World}
