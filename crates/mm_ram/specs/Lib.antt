pub mod Lends
pub mod Ownership
pub mod Places
pub mod Ram
pub mod Frames
pub use Lends.{with_slots}
pub use Ownership.{cells_lent, cells_own, deed_owns, fit, slot, slot_lent, slots, slots_lent}
pub use Places.{IsFilled}
pub use Ram.{bytes_from, bytes_of, overwritten, page_at, with_page}
unfoldable pub use Ram.{zero_page}
pub use Frames.{ArePlaces, IsRam, backed, has_bytes, is_filled, shown, shows, zeroed}
pub use declared.contents.Contents.{Contents}
