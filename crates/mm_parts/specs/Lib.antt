pub mod Shown
pub mod Words
pub mod Agree
pub mod Kept
pub mod Moves
pub mod PartsShown
pub mod Start
pub mod Reading
pub mod Holds
pub use Shown.{JoinedParts, LineOf, Owners, PartsOf, has_owner, held_by, is_own_line, is_of_paging_file}
pub use Shown.{life_in, life_of, named_by, names_of, own_is, own_request, owned_by, owners}
pub use Shown.{paging_of, requests, requests_in, shown_of, stands_of, valid_of}
pub use Words.{WordsKept, is_aside_entry, names_other}
pub use Agree.{EntriesAgree, EntrySays, InFrame, IsValidFor, RequestsAgree, SetsAgree, SlotsAgree}
pub use Kept.{AreWaits, LineKept, PartsKept, WithinLine}
pub use Moves.{CanBegin, CanBeginSet, CanLeave, CanName, CanSend, HasEntry, IsClear, IsPlainLine}
pub use Moves.{IsReleased, MayMap, after_page, ages_older, aside_added, aside_after_add, copy_place}
pub use Moves.{end_of_read, entry_backing, flight_begun, flight_ended, front, front_for_read}
pub use Moves.{front_or, goes_to, home_entry, left_by, lowest_free_slot, names_after_drop}
pub use Moves.{names_after_give, names_after_map, names_given, own_after, own_ended, parts_after}
pub use Moves.{slot_released, slots_to, table_released, words_begun, words_left, words_named}
pub use Moves.{words_sent, write_end, write_target}
pub use PartsShown.{joined_parts, parts_ages, parts_flight, parts_words, shown_parts, spare_slots}
pub use Start.{first_kind, first_move, first_parts, machine_grown, started_parts}
pub use Reading.{first_frame, is_own_page, is_private_owner, wait_as_walked, waits_of, walked_or}
pub use Holds.{HasSet, LinesHold, PagesHold, StorageHolds}
pub use declared.parts.Parts.{Parts}
