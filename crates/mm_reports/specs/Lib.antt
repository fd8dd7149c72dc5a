pub mod Lines
pub mod Listing
pub mod Uses
pub mod UseSums
pub mod Splits
pub mod Charges
pub mod Fields
pub mod Counts
pub mod CountsRest
pub mod States
pub mod StateRest
pub mod Faults
pub mod Tallies
pub mod Kept
pub mod FaultSums
pub mod FaultRows
pub mod FaultRest
pub mod Histories
pub mod HistoryRest
pub use Lines.{line_ended_by, ended_line, is_line, ends_of_lines, said_of_line}
pub use Listing.{AreListsOf}
pub use Uses.{all_uses, is_use, listed_records, use_name, records_in, requests_row, row_of_use, working_set_row}
pub use Uses.{set_rows, slots_row, sum_row, totals, use_head, use_of, use_row, use_rows, use_table}
pub use Uses.{use_text}
pub use UseSums.{AddUp, total_in}
pub use Splits.{before, after_byte}
pub use Charges.{charge_after, charge_then}
pub use Fields.{charge_fields, counts_fields, fault_fields, number_next, resident_word, sets_text}
pub use Counts.{counts_head, counts_head_in, counts_row, counts_row_in, counts_rows, line_rows}
pub use CountsRest.{counts_rest, use_rest}
pub use States.{ValidPage, frame_lines, frame_word, frame_words, frames_name, list_rows, page_word}
pub use States.{pages_after, process_lines, run_line, runs_from, slots_line, state_ended_by}
pub use States.{state_from, state_rows}
pub use StateRest.{AreMarkedBelow, state_rest}
pub use Faults.{column_of, request_end, is_first_use, is_hard, is_on_paging_file, is_soft, is_zero_fill}
pub use Faults.{page_faulted, place_of, process_of_line}
pub use Tallies.{Table, FaultTally, column_in, counted, fault_tally, no_tally, none_counted}
pub use Tallies.{one_in_column, place_cmp, plus_one, tally_after, tally_from, with_class, with_end}
pub use Tallies.{with_fault}
pub use Kept.{counts_at}
pub use FaultSums.{SumsToClasses, column_count, one_at, sum_in}
pub use FaultRows.{check_row, device_row, fault_csv_head, fault_head, fault_page_text, fault_row}
pub use FaultRows.{fault_row_in, fault_rows, letter, page_row, process_rows, share, soft_in}
pub use FaultRows.{tally_said, tally_text}
unfoldable pub use FaultRows.{hard_text, reads_text, soft_text, writes_text}
pub use FaultRest.{fault_rest, tally_of}
pub use Histories.{end_text, frame_history, machine_frames, held_words, history, history_head}
pub use Histories.{history_row, key_history, move_row, history_rows_from}
pub use HistoryRest.{history_rest, noted, waiting_row}
pub use declared.charges.Charge.{Charge}
pub use declared.history_rows.Noted.{Noted}
pub use declared.styles.Style.{Style}
pub use declared.subjects.Subject.{Subject}
pub use declared.uses.Column.{Column}
pub use declared.uses.Use.{Use}
