pub mod Slots
pub mod Kept
pub use Slots.{IsLowest, SlotsOf, free_count}
pub use Kept.{AreSlots}
unfoldable pub use Kept.{flags, is_free}
