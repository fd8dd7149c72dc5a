pub mod Marks
pub mod Marking
pub mod Classes
pub mod Words
pub mod Fitting
pub mod Encoding
pub mod Data
pub mod Counting
pub mod Laws
pub mod Worked
pub use Marks.{AreMarkedBefore, MarksOf, mark_at, marks_after, marks_in, no_marks, unmarked}
pub use Marking.{marks_of}
pub use Classes.{class_of, class_of_add, class_of_clear, class_of_drop, class_of_give, class_of_got}
pub use Classes.{class_of_map, class_of_read, class_of_soft, class_of_soil, class_of_unmap}
pub use Classes.{class_of_write, class_of_wrote, classes, classes_from, is_busy, is_copy_on_write, is_trim}
pub use Classes.{makes_room, makes_way, maps_into, next_of, reads_into}
pub use Words.{code_of, group_of, sentence_of}
pub use Fitting.{Add, Bad, Clear, Drop, Give, Got, Lost, Map, Read, Soil, Steal, Unmap, MoveWord, Write}
pub use Fitting.{Wrote, word_of, word_of_move}
pub use Encoding.{block_numbers, head_text, key_numbers, kind_code, kind_numbers, mark_data}
pub use Encoding.{move_data, move_numbers, number_text, numbers_of, numbers_text, stored_number}
unfoldable pub use Encoding.{digits_of}
pub use Data.{IsLog, data_from, is_marked, is_plain_in_html, last_mark, log_data, mark_before}
pub use Counting.{CountsAgree, class_count, is_class}
pub use Laws.{SaysTheState, ToldAs}
pub use Worked.{rewritten_classes, smallest_set_classes}
pub use declared.classes.Class.{Class}
pub use declared.classes.Group.{Group}
pub use declared.marks.FrameMark.{FrameMark}
