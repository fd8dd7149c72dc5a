pub mod Hearing
pub mod Sayings
pub mod Endings
mod FormWords
pub mod Blames
pub mod Wells
pub use Hearing.{no_feed, unheard}
pub use Sayings.{all_then, front_all, front_more, halts_before, halts_in_line, halts_more}
pub use Sayings.{halts_then, hear_last, hear_stops, heard_meant, hears_kept, hears_line, hears_none}
pub use Sayings.{hears_then, listens_none, listens_on, listens_then, none_placed, said_event}
pub use Sayings.{said_explained, said_none, same_said, says_placed, stops_long, stops_reading}
pub use Sayings.{stops_then, talked_halts, talked_none, talked_out, talked_stops, torn_event}
pub use Sayings.{torn_more}
pub use Endings.{out_of_memory, told_long}
pub use Blames.{blamed_later, blamed_result, blamed_write}
pub use Wells.{well_here, well_then}
