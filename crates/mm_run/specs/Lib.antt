pub mod Reading
pub mod Scenes
pub mod Steps
pub mod Written
pub mod Answered
pub mod Texts
pub mod Ends
pub mod Story
pub mod Ran
pub mod Script
pub mod Bulk
pub mod WordForms
pub mod Batch
pub mod Moments
pub mod Settings
pub mod Starting
pub mod Seen
pub mod Closing
pub mod Faults
pub use Reading.{is_machine_word, reading_of}
pub use Scenes.{Follows, HasNoted, NotBegun, Outset, Running, Stage, log_of, outset, replay_of}
pub use Scenes.{with_flush}
pub use Steps.{BreaksLine, DecidesLine, HoldsUnchanged, IsDecided, MachineBegins, MachineIsMade}
pub use Steps.{Moved, NoneFailed, StageNotes, StageStands, StageStepped, tells_paging}
pub use Written.{AnsweredLine, GivesWritten, WriteMarks, keeps_after, no_write_marks}
pub use Written.{write_marks_after, write_marks_over}
pub use Answered.{AreAnswered, AreFaultless, DecidedLine, GoesAlike, HoldMovesOf}
pub use Answered.{IsAnsweredAlike, IsNextLine, MadeNamed, RunsAlike, answered_lines, answers_in}
pub use Answered.{last_stage, moves_of, texts_of}
pub use Texts.{IsFront, IsFrontWithin, ToldText, TornText, WroteText, last_text, most_kept}
pub use Texts.{status_of}
pub use Ends.{BreaksAt, BreaksOff, ClosesRun, DeviceLeft, IsLeft, IsLogLeft, Left, StageLeaves}
pub use Ends.{TakesMemory}
pub use Story.{CameFrom, CameToEnd, Comes, FaultCounts, InputEndsAt, IsBad, IsBlamed, IsMisplaced}
pub use Story.{IsOpen, IsRunForm, KeepsAnswers, Outside, RunStand, SettlesRun, StandsAt, WentOn}
pub use Story.{fault_counts_with, outside, stand}
pub use Ran.{Around, EndsHolding, EndsTelling, GaveAll, LogRan, RanOrRefused, SomeRose, begun_at}
pub use Script.{EachSays, IsComplete, IsFault, IsScriptOf, IsVerdict}
pub use Bulk.{AreDecided, BulkEnds, BulkRan, BulkRanOrRefused, BulkStops, ClosesEvents}
pub use Bulk.{HeadIsMuted, HeadWantsMemory, IsBulk, MutesEvent, WantsEvent}
pub use Bulk.{IsEventNext, IsNoBulk, begins_ok, below_64, bulk_text, events_in, four_lines, is_no_answer}
pub use Bulk.{word_value}
pub use WordForms.{SaysForm}
pub use Batch.{AccountsMoves, AreLater, BatchRan, Handled, IsLaterEvent, IsUnanswered, Stopped}
pub use Batch.{Tallied}
pub use Moments.{EndsRun, FindsLine, GoesOn, GoesOnOrEnds, HasBegunLines, HasNotedAll, HoldsLine, Input}
pub use Moments.{IsBetween, IsStill, KeepsWorld, Moment, Output, RunsShort, StepsBetween}
pub use Moments.{fault_counts_of, moment, outside_of}
pub use Settings.{AreOpened, ComesTo, HoldsMachine, Setting}
pub use Starting.{HasStart, Opened, StartsFrom, left_behind}
pub use Seen.{counts_seen, device_seen, input_seen, left_seen, moment_seen, open_failed}
pub use Seen.{output_seen, outset_seen, outside_seen, seen, setting, world_seen}
pub use Closing.{Closed, Drops, GaveMoves, is_over}
pub use Faults.{IsAccounted}
pub use declared.bulk.Tally.{Tally}
pub use declared.endings.Ending.{Ending}
pub use declared.forms.WordsForm.{WordsForm}
