pub mod Ages
pub mod Bits
pub mod Ends
pub mod Failures
pub mod Folds
pub mod Keeping
pub mod Lines
pub mod Named
pub mod Numbers
pub mod Reasons
pub mod Remarks
pub mod Rows
pub mod Shown
pub mod TakenNumbers
pub mod Transcripts
pub mod Waiting
pub mod Worked
pub mod Writers
pub use Ages.{AgesOf, at_place, at_thread, no_ages_known, one_older, older_of}
pub use Bits.{bit_row}
pub use Ends.{cut_text, run_end_text, ending_text, line_words}
pub use Failures.{code_name, failure_name, raise_name}
pub use Folds.{adds_next, blocks_text, first_then, fold_row, fold_text, folds_with_next, is_next_block}
pub use Folds.{is_next_key, keys_text}
pub use Keeping.{AreTouchedBefore, age_by, age_by_stamp, one_age_more, same_thread}
pub use Named.{failure_row}
pub use Numbers.{has_name, union_text}
pub use Reasons.{age_words, process_words, words_if}
pub use Remarks.{answer_remark, bracketed, event_remark, named_numbers, bracketed_or, numbers_said}
pub use Remarks.{remark_by, told_names, told_remark, begins_plainly, is_plain_answer}
unfoldable pub use Remarks.{remark_text}
pub use Rows.{answered_row, asked_row, class_sentence_row, folded_row, is_none_left, line_row}
pub use Rows.{names_text, padded_column, printable, printed_byte, move_row_text, said_text, row_unless_folded, trimmed}
pub use Shown.{ages_shown}
pub use TakenNumbers.{AreReadAgain, taken_numbers}
pub use Transcripts.{ages_then, reason_then, transcript_rows_from, transcript}
pub use Waiting.{beside_of, classed_row, first_behind, rows_rest, transcript_rest}
pub use Worked.{rewritten_rows, smallest_set_rows}
pub use Writers.{lacks_slots, modified_pages, unwritten_before, unwritten_end, unwritten_pages}
pub use Writers.{unwritten_row, unwritten_text, writes_asked, writes_by, writes_left, write_outs_asked}
unfoldable pub use Writers.{writes_read}
pub use declared.numbers.Number.{Number}
pub use declared.reasons.Reason.{Reason}
pub use declared.transcripts.TranscriptTeller.{TranscriptTeller}
