pub mod Parts
pub mod Tallies
pub mod Sights
pub mod Taking
pub mod Owners
pub mod Moved
pub mod SlotHolders
pub mod PlaceCounts
pub mod Sound
pub mod Requests
pub mod KeyMoves
pub mod Kept
pub mod Sums
pub mod Lists
pub mod Lowest
pub mod SetSizes
pub mod Homes
pub mod FileKeys
pub mod Blocks
pub mod Deduced
pub mod Settling
pub mod Facts
pub use Parts.{five_parts, four_parts, three_parts}
pub use Tallies.{tally-append, tally-more, times-without_other, times_on}
pub use Sights.{kept_inside, on_modified}
pub use Taking.{Fresh, Standby, changes_give, changes_read, changes_steal, first_standby}
pub use Taking.{first_zeroed, fresh_read, idle_is}
pub use Owners.{changed_else, changed_here, key_or_not, same_key-self, same_key-true}
pub use PlaceCounts.{has_shares, place_or_not, same_place-self, same_place-true, set_else, set_here}
pub use PlaceCounts.{set_more}
pub use Sound.{no_owner, orphan_unshared, owner_passes, some_owner}
pub use Requests.{read_has, stored_backed, write_has, zero_is}
pub use KeyMoves.{dead_is}
pub use Kept.{keeps, kept_along, replay_sound, sound_unstarted}
pub use Sums.{one_most, one_within, sum-cells, sum-frame, sum-most, sum-ones, sum-plus}
pub use Lists.{begun_ended, set_back, set_back_or, without_append, without_none, without_self}
pub use Lowest.{free_and_taken, free_counted, lowest_free, lowest_from, lowest_is, lowest_nowhere}
pub use Lowest.{lowest_one, lowest_taken, lowest_there, none_counted}
pub use SetSizes.{all_shares, in_range, nowhere, places_are, places_within, private_share}
pub use SetSizes.{resident_there, set_there, set_within, sets_fewer, share_within}
pub use Homes.{counts_homes, tally-none, total}
pub use FileKeys.{in_line, only_machine}
pub use Blocks.{file_has_block, paging_block}
pub use Deduced.{ModifiedFrame, block_kept, blocks_apart, changed_slotless, counted, file_backed}
pub use Deduced.{file_key_stays, frame_there, free_bare, keys_counted, line_flight, modified_frame}
pub use Deduced.{modified_is, move_flight, no_other, once, one_frame, owner_lives}
pub use Deduced.{ownerless_unblocked, paging_lives, place_own, place_owned, place_shares}
pub use Deduced.{places_counted, reached_along, reached_next, reached_sound, reached_start}
pub use Deduced.{requests_counted, share_most, slot_free, slot_has, slot_one, slot_taken}
pub use Deduced.{slot_there, some_keys, standby_is, three_hold, zeroed_bare}
pub use Settling.{bad_settles, got_settles, lost_settles, unmap_settles, wrote_settles}
pub use Facts.{facts_of, reached_by}
