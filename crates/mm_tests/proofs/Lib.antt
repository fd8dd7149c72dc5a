pub mod Changed
pub mod Starting
pub mod Fitting
pub use Changed.{as_many, block_behind, named_stays, rest_bytes, same_live, slot_behind}
pub use Starting.{is_new}
pub use Fitting.{same_line, still_fits, still_kept}
