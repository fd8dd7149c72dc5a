mod Memory
mod Sharing
pub mod Slots
pub use Slots.{Emptied, as_long, contents_at, contents_low, contents_read, emptied_all}
pub use Slots.{emptied_next, emptied_same, empty_at, filled_at, frame_low, length-over, none_shown}
pub use Slots.{own_filled, own_is, places_backed, ram_new, ram_over, ram_put, ram_rewritten}
pub use Slots.{ram_zeroed, seen, seen_filled, seen_rewritten, seen_whole, seen_zeroed, shown_backed}
pub use Slots.{some_low, zeros_are, zeros_long}
