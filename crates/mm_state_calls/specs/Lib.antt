pub mod Shown
pub mod Doing
pub mod Holds
pub use Shown.{CalledFor, Calls, DeviceCalled, GrowBegins, Made, SomeFault, StateOf}
pub use Shown.{WrotePage, asked_to_grow, backing_of_frame, moved, moved_with_call}
pub use Shown.{written_if}
pub use Doing.{DoesMoves, IsFlightOf, Searched, walk_of}
pub use Holds.{StateHolds}
pub use declared.state_calls.StateCalls.{Ghosts}
