pub mod Calls
pub mod Io
pub mod Lines
pub mod Looking
pub mod Filling
pub mod Seen
pub use Io.{CountsFaults, GivesOn, IsCut, IsFrontOf, ReadsFront, Wrote}
pub use Lines.{FitsLine, NoFeed, text_of_lines, with_line_feed}
pub use Looking.{FeedAt, HasLine, IsFeedAt, IsLong}
pub use Filling.{Filled, Finds, HasRead}
pub use Seen.{SinkSeen, sink_seen}
pub use declared.buffers.Found.{Found}
