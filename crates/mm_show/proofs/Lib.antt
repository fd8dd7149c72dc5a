pub mod Worded
pub mod Paged
pub mod Following
pub mod Rowed
pub mod RowsAgain
pub mod RowsTold
pub mod Summed
pub mod Exactness
pub mod Reached
pub use Paged.{page_taken}
pub use Rowed.{rows_more}
pub use RowsTold.{answer_told, script_told}
pub use Summed.{few_none, sum_ended, sum_none, sum_taken}
pub use Exactness.{file_bytes, file_lines, good_map, good_told, said_is, said_page, said_sums}
pub use Exactness.{told_as}
pub use Reached.{lacks, refused_row, shows_exactly, shows_log, was_read}
