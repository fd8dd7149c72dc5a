pub mod Shown
pub mod Tallied
pub mod Whole
pub mod StateShown
pub mod Storing
pub mod Holding
pub use Shown.{MachineStarts, joined_state}
pub use Tallied.{IsTallied, filled_if, read_told, searched_anew}
pub use Whole.{AreWhole}
pub use StateShown.{shown_state}
