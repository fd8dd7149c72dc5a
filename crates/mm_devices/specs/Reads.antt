-- A read of a block into a place elsewhere, as the layers that pass it on promise it.
use Rattle.std.specs.Prelude.{◌≡◌, ℕ, Bool}
use Rattle.mm_types.specs.declared.devices.Direction.TheVariants as way
use Rattle.mm_devices.specs.declared.Inject.{Ghosts}
use Rattle.mm_devices.specs.Traffic.{is_next_named}
use Rattle.mm_devices.specs.Devices.{Serves, device_with}

-- block i of the device was read, well or not: no block changed, and the device holds the same
-- references
pub record WasRead {D : Type 0} (d : Ghosts D) (i : ℕ) (succeeded : Bool) (old new : D) :
    Type 0 where
  pub blocks : d.blocks new ≡ d.blocks old
  pub served : Serves (record {
    way = way.Read;
    block = i;
    succeeded = succeeded;
    named = is_next_named way.Read (d.named old);
  }) (device_with (d.log old) (d.named old) (d.faults old))
      (device_with (d.log new) (d.named new) (d.faults new))
  pub loans : d.loans new ≡ d.loans old
