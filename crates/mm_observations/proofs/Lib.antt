pub mod Numbers
pub mod Files
pub mod Plain
pub use Numbers.{numbers_behind, numbers_more}
pub use Files.{file_longer, file_more, file_refused, from_same, row_packed}
pub use Plain.{plain_packed}
