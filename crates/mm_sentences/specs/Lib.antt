pub mod Words
pub mod States
pub mod Digits
pub mod Facts
pub mod Sentences
pub mod Pieces
pub mod Parts
pub mod Tested
pub mod Refusals
pub use Words.{address_text, addressed, key_text, kind_text, place_text}
pub use States.{frame_row, frame_row_text, state_by, state_of, state_text}
pub use Digits.{three_digits, two_digits}
pub use Facts.{facts_of}
pub use Sentences.{home_text, sentence_text}
pub use Pieces.{piece_text}
pub use Parts.{first_failing, part_holds, is_clean, parts_of, refusal}
pub use Tested.{all_hold, are_tested, is_tested, none_free}
pub use Refusals.{about, at_max, at_min, counted_words, depth_is, first_is, frame_is, holds_what}
pub use Refusals.{keeps_block, keeps_place, line_is, mapped_at, name_of_list, no_paging_text, no_process}
pub use Refusals.{not_empty, not_first, not_lowest, not_modified, page_is, pages_are, part_text}
pub use Refusals.{part_words, place_is, refusal_text, request_is, set_is, stands_text, why_not}
pub use declared.parts.Part.{Part}
pub use declared.states.FrameState.{FrameState}
