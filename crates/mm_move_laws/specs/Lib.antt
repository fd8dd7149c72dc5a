pub mod Tally
pub mod Sums
pub mod Standing
pub mod Holders
pub mod Places
pub mod PagingKeys
pub mod Fits
pub mod Sights
pub mod Sound
pub mod Reached
pub mod Requests
pub mod WorkedBursts
pub mod FileBlocks
pub mod Ranges
pub mod Lowest
pub mod Homes
pub mod Settling
pub use Tally.{one_if, tally, times}
pub use Sums.{sum_to, total}
pub use Standing.{IsModified, IsStandby, counted_frames, standings}
pub use Holders.{Behind, Holder, Home, holding, slot_held}
pub use Places.{CountsPlaces, is_of, maxima_in, residents, residents_in, valid_places}
pub use PagingKeys.{CountsKeys, is_backing_for, is_file_key, is_home_for}
pub use Fits.{Fit, is_backed, is_kept}
pub use Sights.{FramesStand, Sight, Stand, sight}
pub use Sound.{Homed, Owned, Paged, Shown, SlotsHeld, frame, owner_at}
pub use Reached.{ReachedByMoves, is_first_line}
pub use Requests.{may_begin}
pub use WorkedBursts.{three_reads, three_writes}
pub use FileBlocks.{IsAdded, block_held, block_in, block_of}
pub use Ranges.{InRange}
pub use Lowest.{IsLowest}
pub use Homes.{CountsHomes, has_paged, has_slot, is_framed, is_slotted}
pub use Settling.{ListsAre, Settles, at_end_if, ended_as}
