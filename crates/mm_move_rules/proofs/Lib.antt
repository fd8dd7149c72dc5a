pub mod Replays
pub mod Noting
pub mod Start
pub mod Held
pub mod Requests
pub mod Records
pub mod Numbers
pub mod Keys
pub use Replays.{moves-append, replay_of, replays_from, replays_one, replays_then, spelled-append}
pub use Noting.{front_of_then, gave_nothing, gave_then, grew_nothing, grew_then}
pub use Start.{located_at_start, record_at_start}
pub use Held.{home_lives, stored_live, stored_lives, zero_live}
pub use Requests.{calm, read_has, write_has, write_not_read}
pub use Records.{all_blank, done_owner, done_part, records_settled, records_taken, soiled_owner}
pub use Records.{soiled_part, soiled_request, soiled_shares}
pub use Numbers.{numbers_at, numbers_in, numbers_next}
pub use Keys.{same_key-self, same_key-true}
