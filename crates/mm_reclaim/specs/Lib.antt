pub mod Choosing
pub mod Seeking
pub mod Searching
pub mod Chores
pub use Choosing.{IsLow, IsValidPage, NoneIn, rank}
pub use Seeking.{IsUnderWay, Over, Seeks, SoughtTo, Tried, Tries, WalkedTo, Walks, Wrote}
pub use Seeking.{writable_modified}
pub use Searching.{AfterUnmap, Changed, Freed, TookVictim, Unchanged}
pub use Chores.{Rounds, RoundsTo, Trimmed, TrimsOne, TrimsTo, UnmapsOldest, writings}
