pub mod Doing
pub use Doing.{count-append, does_nothing, does_one, does_then, does_two, walked_here}
