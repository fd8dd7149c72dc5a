pub mod Counted
pub mod Few
pub mod Lines
pub mod Recorded
pub use Counted.{HasNumber, IsAtLine}
pub use Few.{few_entry}
pub use Lines.{Puts}
pub use Recorded.{FailsExactly, log_of}
pub use declared.recorders.Moves.{Ghosts}
