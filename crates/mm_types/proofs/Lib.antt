pub mod Booleans
pub mod Options
pub mod Naturals
pub mod Lists
pub mod Bytes
pub mod Cells
pub mod Finite
pub mod Tables
pub mod Least
pub mod Paddings
pub use Booleans.{all_three, and_false, and_true, both, by_either, cond_twice, either, not_false}
pub use Booleans.{not_left, not_then, not_third, not_true, one_at_most, one_only_if, or_both}
pub use Booleans.{or_false, or_left, or_right, or_true, parts, same_tests, spread, untried_not}
pub use Options.{none_is, none_of, on_err, same_found, some_found, some_map}
pub use Naturals.{is_below, less, none_below, same_number}
pub use Lists.{get_last, is_there, none_at_end, push_at, push_other, some_get}
pub use Bytes.{append_nil, appended_none, appended_then, rose_later, rose_then, took_none}
pub use Bytes.{took_then}
pub use Cells.{get_set_other, get_set_same, get_within, same_or_not, set_cases}
pub use Finite.{get-insert, get-remove, len_less, len_more, same}
pub use Tables.{differ, get_table, is_insert, is_remove, table_insert, table_remove, tables_agree}
pub use Least.{least_from-is, least_from-none}
pub use Paddings.{padded_front, padded_push}
