pub mod ChoreMoves
pub mod Trying
pub mod Writing
pub mod Phases
pub use ChoreMoves.{best_answer, best_stays, best_taken, chain_all, chain_more, chain_none}
pub use ChoreMoves.{chain_over, closed_same, moved_then, none_same, settled_answer, trims_all}
pub use ChoreMoves.{trims_more, trims_none, trims_over}
pub use Trying.{called_then, fault_by, fault_from, found_at_once, moved_called, one_some}
pub use Trying.{tries_same, write_fault}
pub use Writing.{no_writing, writes}
pub use Phases.{search_starves, some_front, turn_fewer, turn_found, turn_on, walk_begins, walk_ends}
pub use Phases.{walk_found, walk_goes_on, writable_here}
