pub mod Tellings
pub mod ClassKnown
pub mod Divided
pub mod Readings
pub mod FileReads
pub mod AnswersWorked
pub use Tellings.{begun_none, begun_pour, begun_take, broken_status, closes_full, halts_stop}
pub use Tellings.{misfit_halts, tells_more, tells_none, told_all, told_cut, told_none}
pub use ClassKnown.{class_known, classes_taken}
pub use Readings.{says_exactly}
