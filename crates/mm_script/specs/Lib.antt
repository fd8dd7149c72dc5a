pub mod Field
pub mod Grammar
pub mod Printed
pub mod Pieces
pub mod Keywords
pub mod Sorted
pub mod Shape
pub mod Place
pub mod Reading
pub mod Numbers
pub mod Cursor
pub use Field.{Bytes, Decimal, EachSpells, Exactly, Hex, Named, NamedOrDash, Spells}
pub use Grammar.{IsLine, IsText, are_joined, device_field, direction_field, fields_of, flag_field}
pub use Grammar.{is_machine, lies_in_page, most_lines, pid_field, tid_field}
pub use Printed.{IsByte, IsInRange, IsWellFormed, print, printed, spaced_words}
pub use Pieces.{is_about_access, is_memory, is_view, width_of_all, text_of_piece}
pub use Keywords.{keyword_among, keywords, text_of}
unfoldable pub use Keywords.{keyword_of}
pub use Sorted.{keywords_of_length}
pub use Shape.{AnyNumber, ByteWord, DeviceWord, DirectionWord, End, FlagNumber, Kind, NameOrDash}
pub use Shape.{NameWord, Number, PidNumber, ReadOrWrite, Then, TidNumber, Value, device_of}
pub use Shape.{direction_of, flag_from, name_or_dash, pid_from, shape_of, tid_from, within}
unfoldable pub use Shape.{number_in, read}
pub use Place.{fault_among, fault_at, fault_behind, fault_place, first_fault, joint_fault}
unfoldable pub use Place.{without_return}
pub use Reading.{Gives, IsPut, MakesFromValues, Rest, by_direction, ends_at, event_in, first_read}
pub use Reading.{make_of, rest_behind, whole_line, word_read, ◌>>=◌}
unfoldable pub use Reading.{ended_words, line_of, parse, word_as}
pub use Numbers.{IfTrue, behind, is_end, is_unjoined, is_plain, leading, made_with, numbers_as}
pub use Numbers.{numbers_for, ranges_for, whole_of, with_numbers}
pub use Cursor.{TakesWord, rest_of, word_from}
pub use declared.faults.LineFault.{LineFault}
pub use declared.fields.Range.{Range}
pub use declared.keywords.Keyword.{Keyword}
