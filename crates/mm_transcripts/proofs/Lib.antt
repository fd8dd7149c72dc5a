mod Aged
mod Joins
mod Kept
mod Named
mod Unnamed
pub mod Trimming
pub mod Telling
pub use Telling.{row_first, row_last, row_taken}
