pub mod Shortest
pub mod Word
pub mod Place
pub mod Run
pub mod Field
pub mod Columns
pub mod Following
pub use Shortest.{hex_short}
unfoldable pub use Shortest.{digits_onto}
pub use Word.{WordsOf, rest_from, words_from, words_of}
pub use Run.{BeginsHex, EndsWord, IsNumberAt, IsRun, IsWordAt, TakesNumber, TakesText}
pub use Run.{is_unspaced}
pub use Field.{are_digits, below_limit, byte_before, bytes_of_pairs, digit_value, digits_in}
pub use Field.{few_bytes, hex_digits, is_letter, is_name, is_name_byte, limited, name_of, number_of}
pub use Field.{number_of_form, pair_of, pairs_of, value_in}
pub use Columns.{numbers_in}
unfoldable pub use Columns.{left_in, right_in}
pub use Following.{following, number_word}
