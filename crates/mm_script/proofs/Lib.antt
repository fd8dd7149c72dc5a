pub mod Binds
pub mod Joined
pub mod Plain
pub mod Shapes
pub mod EachForm
pub mod Found
pub mod Walk
pub mod Ranges
pub mod Laws
pub mod Given
pub mod Narrowed
pub mod Numbers
pub mod Room
pub mod Again
pub use Joined.{not_returned, return_taken}
pub use Found.{found_sorted, found_word}
pub use Ranges.{line_fits}
pub use Laws.{parse_ok, put}
pub use Given.{given_or, keyword_read, keyword_write}
pub use Narrowed.{number_high, number_low, number_taken}
pub use Numbers.{made_told, one_more}
pub use Again.{printed_again}
