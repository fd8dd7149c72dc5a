pub mod Making
pub mod Whole
pub mod After
pub use Making.{begins_by, call_legal, carried, carried_on, clear_carries, grew_one, is_reading}
pub use Making.{is_writing, legal_at, located_moved, located_on, located_or, made_by, made_by_read}
pub use Making.{made_by_write, made_moved, made_quiet, no_block, noted_at, plain_grown, ranged_at}
pub use Making.{read_carries, read_low, read_waits, rest_called, rest_of, rest_page, same_page}
pub use Making.{shown_on, shows_start, some_free, some_standby, write_calm, write_carries}
pub use Making.{write_legal, write_low}
pub use Whole.{block_carries, block_whole, block_written, blocks_whole, other_request, own_bytes}
pub use Whole.{own_page, page_whole, pick, rest_block, slots_whole, soiled_calm, tallied_none}
pub use Whole.{tallied_read, tallied_search, tallied_write, valid_calm, valid_names, valid_owner}
pub use Whole.{whole_grown, whole_on}
pub use After.{give_quiet, map_quiet, read_begun, read_quiet, soil_soiled, unmap_below}
pub use After.{unmap_requests}
