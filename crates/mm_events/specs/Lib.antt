pub mod Columns
pub mod Reasons
pub mod Events
pub mod EventRest
pub use Columns.{address_column, class_text, frame_columns, frame_column, key_field, kind_word}
pub use Columns.{line_process, option_text, page_or_key_page, page_columns, page_column, page_of_move}
pub use Columns.{page_of_key, process_or_line, process_of_move, state_field, state_in}
pub use Reasons.{behind_words, block_words, reason_column, replaced_words, trimmed_words, class_words}
pub use Events.{class_row, event_fields, event_head, event_row, events, events_from, event_noted}
pub use Events.{noted_as}
pub use EventRest.{beside_of_events, events_rest, events_still, waiting_event_row}
pub use declared.rows.Noted.{Noted}
pub use declared.tellers.EventTeller.{EventTeller}
