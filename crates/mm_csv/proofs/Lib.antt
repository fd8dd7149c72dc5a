pub mod Doubling
pub mod Again
pub mod Behind
pub use Again.{read_again}
pub use Behind.{nexts_before}
