pub mod Reading
pub mod Grids
pub mod Pairs
pub mod Holdings
pub mod Standing
pub mod Listed
pub mod Listings
pub mod Slotted
pub mod Sound
pub mod Looking
pub mod Replaying
pub mod Flying
pub use Reading.{area, below, block, home_behind, is_digit, key_behind, kind_behind, led_by}
pub use Reading.{number_behind, number_from, past, past_or, pid, place, place_behind, read_access}
pub use Reading.{read_add, read_at, read_bad, read_clear, read_drop, read_end, read_frame}
pub use Reading.{read_give, read_got, read_grow, read_key, read_kind, read_lost, read_machine}
pub use Reading.{read_map, read_number, read_pid, read_place, read_plain_kind, read_private}
pub use Reading.{read_process, read_read, read_shared, read_soil, read_steal, read_taking}
pub use Reading.{read_text, read_thread, read_trim, read_unbind, read_unmap, read_write, read_wrote}
pub use Reading.{reading, slot, small, stored_behind, strip, vpn}
pub use Grids.{HasPlace, Same, Sets, in_leaf, leaf_len}
unfoldable pub use Grids.{in_leaves}
pub use Pairs.{Keeps, Writes, at_number, first_of, found_pair, near_number, near_of, one_number, under}
unfoldable pub use Pairs.{either_way, mapped, near_part}
pub use Holdings.{Stays, Written, alive_in, alive_paging, frames_in, held_of, no_keys, no_paging}
pub use Holdings.{no_places, paging_in, stands_in}
unfoldable pub use Holdings.{alive_at}
pub use Listed.{AreLists, Kept, Off, belongs, free_alone, is_changed_page, is_owned, no_lists}
pub use Listed.{record_of, table_from_lists}
pub use Slotted.{AreApartFrom, IsLowestIn, without_kept_slot}
pub use Sound.{IsEmptyFrame, SoundReplay, frame}
pub use Looking.{IsBehind, frame_at, frames_on}
pub use Replaying.{flagged}
pub use Flying.{AreFlagged, InFlightOf, flight_of}
pub use declared.four_lists.FrameList.{FrameList}
pub use declared.holdings.Alive.{Alive}
