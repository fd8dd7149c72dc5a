pub mod Rows
pub mod Reading
pub use Rows.{csv_field, csv_next, csv_nexts, csv_row, csv_text, doubled, fields_behind, head_left}
pub use Rows.{is_quoted, is_special}
pub use Reading.{AreSome, Closing, First, Place, Plain, Quoted, behind_quote, is_within, quote_in}
pub use Reading.{csv_rows_from, csv_rows_of}
