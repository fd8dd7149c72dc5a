pub mod Cuts
pub mod Rows
pub mod Linking
pub mod Standing
pub mod Changes
pub mod Members
pub use Cuts.{cut, place_of, same, without_one, without_other}
pub use Standing.{Opened, apart, closed, list_within, opened, shows}
pub use Changes.{back_low, before_low, behind_low, bridged, first_pushed, first_unlinked, fresh}
pub use Changes.{front_low, front_there, last_unlinked, list_is, list_low, none_behind, one_behind}
pub use Changes.{popped, pushed, room, some_left, x_low}
pub use Members.{Removes, list-without, push_found, push_keeps, push_new, without_none}
pub use Members.{without_removes}
