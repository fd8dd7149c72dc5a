pub mod BitLemmas
pub mod RowLemmas
pub mod SetLemmas
pub use BitLemmas.{at_bit, becomes_more, cleared_inside, cleared_outside, have_here, mask_above}
pub use BitLemmas.{mask_below, mask_inside, or_inside, or_outside, word_becomes, zero_bit}
pub use RowLemmas.{bit_within, extended, filled_read_some, filled_within, found_in_word}
pub use RowLemmas.{length-extended, lowest_behind, lowest_of, no_bits, none_before, none_behind}
pub use RowLemmas.{none_in_word, none_in_zero, none_more, none_next, none_past, none_to_end}
pub use RowLemmas.{none_until, put_here, put_same, put_there, puts_become, puts_clear, puts_set}
pub use RowLemmas.{read_bit, same_bits, same_filled}
pub use SetLemmas.{found_above, maybe_extended, no_rows, none_above, number_low, room_fits}
pub use SetLemmas.{summed_more, summed_passed, summed_stayed}
