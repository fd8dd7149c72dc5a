pub mod Digits
pub mod Values
pub mod Pairs
pub mod Splits
pub mod Spelled
pub mod Runs
pub mod Made
pub mod Spaces
pub mod Texts
pub mod DigitCounts
pub mod Lines
pub use Digits.{decimal_is, digits_more, printed_decimal}
pub use Values.{scan, sum_fits, sum_grows}
pub use Pairs.{behind, pairs_more}
pub use Spelled.{IsPlain, bytes_of-byte_pairs, length-byte_pairs, length-decimal-32, length-digits}
pub use Spelled.{length-hex_short, number_of-decimal, number_of-hex_short, plain-digits}
pub use Runs.{Passed, hex_some, passed_more}
pub use Spaces.{HasNoSpace, joined, joined-words_of, placed, words_from-some, words_of-spaced}
pub use Texts.{begun_all, begun_more}
pub use DigitCounts.{length-decimal}
pub use Lines.{spaced_line}
