-- A device as a store over it sees it, and the calls that the store makes of it.
use Rattle.std.specs.Prelude.{◌≡◌, ◌≤◌, ◌<◌, ◌⊎◌, ℕ, ◌+◌, ◌==◌, Bool, true, false, not, ◌&&◌, List, [], ◌∷◌, length, slice_get, Option, None}
use Rattle.std.specs.List.{list_any}
use Rattle.mm_types.specs.{Rose, Direction}
use Rattle.mm_types.specs.declared.devices.Direction.TheVariants as way
use Rattle.mm_devices.specs.declared.device_calls.DeviceCall.{DeviceCall}
use Rattle.mm_devices.specs.declared.device_calls.NamedCalls.{NamedCalls}
use Rattle.mm_devices.specs.Traffic.{Logged, same_direction, is_next_named, after_call}

pub record DeviceOf : Type 0 where
  pub log : Option (List DeviceCall)  -- the reads and writes that were passed on, where told
  pub named : List NamedCalls  -- those to come that `fail` lines named
  pub faults : ℕ  -- how often it failed of itself, calls that were named apart; never falls

abbrev pub device_with : Option (List DeviceCall) → List NamedCalls → ℕ → DeviceOf
device_with log named faults = record { log = log; named = named; faults = faults }

-- of a store that keeps no such device
abbrev pub no_device : DeviceOf
no_device = device_with None [] 0

-- a read or a write that a store asked for: what came of it, and whether a `fail` line named it
pub record Call : Type 0 where
  pub way : Direction
  pub block : ℕ
  pub succeeded : Bool
  pub named : Bool

abbrev pub logged_call : Call → DeviceCall
logged_call c = record { direction = c.way; block = c.block; succeeded = c.succeeded }

-- the device failed of itself
abbrev pub is_fault : Call → Bool
is_fault c = not c.named && not c.succeeded

-- One call of a device. A named one fails and is not passed on, any other is in the log, where that
-- is told. The count of faults rises where the device failed of itself, and only there.
pub record Serves (c : Call) (old new : DeviceOf) : Type 0 where
  pub is_one : is_next_named c.way old.named ≡ c.named
  pub after : new.named ≡ after_call c.way old.named
  pub refused : c.named ≡ true → c.succeeded ≡ false
  pub quiet : c.named ≡ true → new.log ≡ old.log
  pub logged : c.named ≡ false → Logged old.log new.log (logged_call c ∷ [])
  pub rose : is_fault c ≡ true → Rose old.faults new.faults
  pub stays : is_fault c ≡ false → new.faults ≡ old.faults
  pub later : old.faults ≤ new.faults

-- these calls, one after another
abbrev pub AllServed : List Call → DeviceOf → DeviceOf → Type 0
AllServed [] old new = new ≡ old
AllServed (c ∷ cs) old new = (mid : DeviceOf) × (Serves c old mid × AllServed cs mid new)

-- ---- failures

-- how many calls are left to fail, of those named
abbrev pub left_to_fail : List NamedCalls → ℕ
left_to_fail [] = 0
left_to_fail (c ∷ cs) = c.fails + left_to_fail cs

-- a named call was made: fewer are left to fail
abbrev pub NamedMade : DeviceOf → DeviceOf → Type 0
NamedMade old new = left_to_fail new.named < left_to_fail old.named

-- a call failed: of itself, or since a `fail` line named it
abbrev pub CallFailed : DeviceOf → DeviceOf → Type 0
CallFailed old new = Rose old.faults new.faults ⊎ NamedMade old new

-- reads and writes were made since
pub record IsLater (old new : DeviceOf) : Type 0 where
  pub faults : old.faults ≤ new.faults
  pub left : left_to_fail new.named ≤ left_to_fail old.named

-- ---- what a device holds

-- a write of block i that succeeded
abbrev pub wrote_block : ℕ → DeviceCall → Bool
wrote_block i c = same_direction way.Write c.direction && c.succeeded && (c.block == i)

-- after these calls there are as many blocks, and each that none of them wrote is as before
pub record KeepsOthers (calls : List DeviceCall) (old new : List (List ℕ)) : Type 0 where
  pub count : length new ≡ length old
  pub others : (i : ℕ) → list_any (wrote_block i) calls ≡ false → slice_get new i ≡ slice_get old i
