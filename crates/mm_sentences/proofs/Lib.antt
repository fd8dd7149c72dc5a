pub mod Joined
pub mod Decimals
pub mod Walking
pub mod Lowest
pub mod Legally
pub mod Spelling
pub use Walking.{next_there, passed}
