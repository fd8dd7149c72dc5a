pub mod Numbered
pub mod Traffic
pub mod Devices
pub mod Reads
pub mod Stores
pub use Traffic.{NoneLogged, after_call, empty_block, is_due, is_next_named, one_further, same_direction}
pub use Devices.{AllServed, Call, CallFailed, DeviceOf, IsLater, KeepsOthers, NamedMade, Serves}
pub use Devices.{device_with, left_to_fail, logged_call, no_device, wrote_block}
pub use Reads.{WasRead}
pub use Stores.{block_bytes}
pub use declared.device_calls.DeviceCall.{DeviceCall}
pub use declared.device_calls.NamedCalls.{NamedCalls}
pub use declared.mem_blocks.MemBlocks.{MemBlocks}
