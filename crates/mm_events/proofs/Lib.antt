pub mod Joining
pub mod Telling
pub use Joining.{row_joined}
pub use Telling.{row_first, row_last, row_taken}
