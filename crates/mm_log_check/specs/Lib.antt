pub mod Marking
pub mod Counting
pub mod LogText
pub mod Verdict
pub mod InFront
pub mod Reading
pub mod Stepping
pub mod Exact
pub mod Sinks
pub use Marking.{LineMarksOf, has_mark}
pub use Counting.{CountsNothing, TallyOf, counts_after, no_counts, one_if}
pub use LogText.{Asks, IsForm, check_text, held_text, log_status_of, verdict_text, usage_text, yes_text}
pub use Verdict.{Came, EndsAt, IsRefusedLog, IsStuck, LogCheckRan, Replayed, Shows, SpellsBefore}
pub use Verdict.{SpellsMove, StuckBefore, most_log_bytes}
pub use InFront.{KindInFront, StandsInFront}
pub use Reading.{IsReadyToRead, IsSpelling, Lines, ReadsMoves, Stops, TakesNext}
pub use Stepping.{Halts, MovesWereTaken, Steps, brought_after}
pub use Exact.{IsFaultStatus, SaysNo, SaysYes}
pub use Sinks.{Blames, ReadsLog, WritesText}
pub use declared.endings.Asked.{Asked}
pub use declared.endings.Ending.{Ending}
pub use declared.readers.LogReader.{LogReader}
