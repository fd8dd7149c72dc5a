pub mod Behind
pub use Behind.{BytesChanged, NoneBacked, small_machine}
