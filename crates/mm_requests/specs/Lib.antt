pub mod Requests
pub use Requests.{AreDistinct, FlightOf, HoldsRequests, IsKept, NoneWaitsFrom, ended, frame_number}
pub use Requests.{is_for, is_requested, nth_oldest, place_in, wait_shown, without}
pub use declared.flights.Waiting.{Waiting}
