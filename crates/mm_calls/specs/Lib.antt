pub mod CallPromises
pub mod DevicePromises
pub mod Allocating
pub mod Growing
pub mod Marking
pub mod Watching
pub mod Stages
pub mod Regions
pub mod Growth
pub use CallPromises.{AnswersCall, BeginsCall, BeginsRelease, BeginsWrites}
pub use CallPromises.{ChangesNothing, CommitsRange, DecidesIn, HasRoomFor, IsTallEnough}
pub use CallPromises.{LacksMemory, LosesPages, MakesIn, MakesInRange, MakesStackPages, StaysFit}
pub use CallPromises.{StaysSettled}
pub use DevicePromises.{AnswersFile, AnswersFlush, AnswersGrow, FailsWrite, FlushesBlocks}
pub use DevicePromises.{HoldsPages}
pub use Allocating.{allocates_anew}
pub use Growing.{GrowsBy}
pub use Marking.{marks_anew, protect_pages}
pub use Watching.{after_watch}
pub use Stages.{AreHeld, InBlocks, NewFileMade, are_viewed, keys_of_flush, freed_pages, keys_from}
pub use Stages.{keys_of_region, make_section, map_section, place_view}
pub use Regions.{IsReserved, IsUncommitted, reserved_region}
pub use Growth.{NothingLeft, Overflows, ProbeIn, StackGrows, StackStandsIn, grows, growths}
pub use Growth.{guard_lowered, has_grown, probed}
