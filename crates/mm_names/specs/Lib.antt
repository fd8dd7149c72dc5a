pub mod Keys
pub mod Tidy
pub mod Numbers
pub mod Words
pub mod Meaning
pub mod Scripts
pub mod Stages
pub mod Runs
pub use Keys.{NamesOf, value_named, given_value, name_key, no_names, same_name, with_given}
pub use Tidy.{tidy_of, untouched, with_bytes, word_follows}
pub use Numbers.{is_arithmetic, is_shift, memory_names, nothing_yet, page_names, section_names}
pub use Numbers.{sum_with_all, value_of, windows_value}
pub use Words.{keyword_for, lowered, text_among}
pub use Meaning.{FormedIn, given_as, given_under, let_of, meant_by, most_line, event_or, phrase}
pub use Meaning.{plain_from, plain_of, plain_word, said_by, said_in, sentence, unquoted, with_word}
unfoldable pub use Meaning.{meant}
pub use Scripts.{ArePlain, IsScript, events_of, goes_on, written_lines_from, written_lines}
pub use Scripts.{may_stand, placed_line, spelled_events, without_mark}
unfoldable pub use Scripts.{script_in}
pub use Stages.{ScriptEnds, ScriptOf, SpellsScript, is_whole, unread, with_event, with_written_line, with_lines}
pub use Stages.{with_meaning}
pub use Runs.{CameTo, IsManyBytes, IsManyLines, IsRefusedFile, IsTooLong, IsTorn, IsWritten, WasReadWhole}
pub use Runs.{most_bytes, names_status, spelled_script}
pub use declared.endings.Ending.{Ending}
pub use declared.names.NameKey.{NameKey}
