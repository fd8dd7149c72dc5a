pub mod Fronts
pub mod Holding
pub mod Serving
pub mod Stored
pub use Fronts.{front_changed, front_length, same_way}
pub use Holding.{keeps_same, keeps_then, keeps_written}
pub use Serving.{all_served_failed, all_served_later, all_served_one, all_served_then, failed_later}
pub use Serving.{later_same, later_then, map-logged, named_as_before, serves_failed, serves_later}
pub use Stored.{block_put, block_read, blocks_added}
