pub mod Marked
pub mod Digits
pub mod Fits
pub mod Counted
pub mod Codes
pub mod Tells
pub mod Plain
pub mod Again
pub mod Back
pub use Digits.{digits_none}
pub use Counted.{agrees}
pub use Tells.{says}
pub use Plain.{IsPlainText, plain_cons, plain_data, plain_digits, plain_if, plain_more}
pub use Plain.{plain_numbers}
pub use Back.{data_back}
