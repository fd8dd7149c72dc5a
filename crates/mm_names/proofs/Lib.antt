pub mod Formed
pub mod Story
pub mod ReadWhole
pub mod Opening
pub use Formed.{formed_result}
pub use ReadWhole.{many_read}
pub use Opening.{opens}
