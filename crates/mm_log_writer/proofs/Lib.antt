mod Counted
mod Fronts
pub mod Growing
mod Table
pub mod Written
pub use Growing.{exact_line, grew_line}
pub use Written.{below_power, decimal_more, decimal_one, front_told, onto_append, step_last}
pub use Written.{step_more, step_none}
