pub mod Charge
pub use Charge.{CommitOf}
