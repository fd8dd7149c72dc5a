pub mod Lines
pub mod Shown
pub mod Words
pub mod AnswerForms
pub mod WorkedAnswers
pub mod Fitting
pub mod Files
pub mod Telling
pub mod Classing
pub mod Seeking
pub mod Answering
pub mod Exact
pub use Lines.{extent_text, lines_from, lines_of}
pub use Shown.{is_plain_byte, shown_byte, shown_line}
pub use Words.{first_word, is_access_word, is_thread_word}
pub use AnswerForms.{behind_byte, behind_form, behind_run, can_answer, fits_form, has_address}
pub use AnswerForms.{has_number, has_two_numbers, is_done, is_error, is_hex_digit}
pub use AnswerForms.{is_left, is_list_byte, is_own_word, is_raise, is_refused, is_run, is_wait}
pub use AnswerForms.{long_form, may_be_busy, may_be_full, may_fault, may_find_nothing, may_raise}
pub use AnswerForms.{ok_form, stands_for}
pub use WorkedAnswers.{all_can, fitting_answers, other_answers, ten}
pub use Fitting.{AreFit, Beside, IsMisfit, begins_with, beside, end_closing, fits, fits_answer}
pub use Fitting.{fits_line, fits_script, fits_word, is_answered, is_bad_text, is_call_word}
pub use Fitting.{is_ending_word, is_long_text, is_memory_word, is_refusable_word, is_section_word}
pub use Fitting.{is_system_word, line_numbered, misfit_closing, surplus, surplus_among, whole_closing}
pub use Files.{CountsFileFaults, FileFailed, FileWasRead, HasBytes, HasLines, IsRead, ReadsNamed}
pub use Files.{ReadsOn, file_faults}
pub use Telling.{BeginsAll, Closes, ClosesAt, HaltsTelling, HasBegun, Misfits, Poured, RestOf, Said, Tells}
pub use Telling.{is_broken, said_from_first}
pub use Classing.{class_list, class_then, classed, classes_rest, move_of, pending_class}
pub use Seeking.{lacks, sought_status, sought_text, sought_words}
pub use Answering.{Answers, HasTold, IsBroken, EndsSaying, Why, close_words, closing_status, closing_text}
pub use Answering.{ends_well, no_why, refused_words}
pub use Exact.{IsCutLog, IsMisfitAt, IsWhole, SaysExactly, SaysOf, ToldInPart}
pub use declared.classifiers.Classed.{Classed}
pub use declared.classifiers.Pending.{Pending}
pub use declared.closings.Closing.{Closing}
pub use declared.files.FileFault.{FileFault}
pub use declared.lines.Extent.{Extent}
pub use declared.seeking.Sought.{Sought}
