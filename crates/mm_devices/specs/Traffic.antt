-- The reads and writes of a device, as its log tells them, and those that were named to fail.
use Rattle.std.specs.Prelude.{◌≡◌, ℕ, ◌-◌, ◌==◌, ◌≤◌, Bool, true, false, not, ◌&&◌, if◌then◌else◌, List, [], ◌++◌, map, replicate, Option, Some, None, Result, is_ok, IsErrOf, OnOk, OnErr}
use Rattle.std.specs.List.{list_any}
use Rattle.mm_types.specs.{Rose, Direction, OpenFault, page_size}
use Rattle.mm_types.specs.declared.devices.Direction.TheVariants as direction
use Rattle.mm_types.specs.declared.faults.OpenFault.TheVariants as fault
use Rattle.mm_devices.specs.declared.device_calls.DeviceCall.{DeviceCall}
use Rattle.mm_devices.specs.declared.device_calls.NamedCalls.{NamedCalls}

-- what a block holds before its first write
abbrev pub empty_block : List ℕ
empty_block = replicate page_size 0

-- a read or a write of block i with this outcome
abbrev pub made_call : {T E : Type 0} → Direction → ℕ → Result T E → DeviceCall
made_call d i r = record { direction = d; block = i; succeeded = is_ok r }

-- These calls came after those in the log. A device may stop telling its log, and tells it again
-- only when it is opened.
abbrev pub Logged : Option (List DeviceCall) → Option (List DeviceCall) → List DeviceCall → Type 0
Logged None None calls = Unit {0}
Logged None (Some b) calls = ⊥
Logged (Some a) None calls = Unit {0}
Logged (Some a) (Some b) calls = b ≡ a ++ calls

-- No call is in the log, where it is told.
abbrev pub NoneLogged : Option (List DeviceCall) → Type 0
NoneLogged None = Unit {0}
NoneLogged (Some calls) = calls ≡ []

abbrev pub same_direction : Direction → Direction → Bool
same_direction direction.Read direction.Read = true
same_direction direction.Read direction.Write = false
same_direction direction.Write direction.Read = false
same_direction direction.Write direction.Write = true

-- the next call of this direction is one of those named
abbrev pub is_due : Direction → NamedCalls → Bool
is_due d c = same_direction d c.direction && (c.passes == 0) && not (c.fails == 0)

-- what is still named after one more call of this direction
abbrev pub one_further : Direction → NamedCalls → NamedCalls
one_further d c = if same_direction d c.direction then (if c.passes == 0 then record c {
  fails = c.fails - 1;
} else record c { passes = c.passes - 1 }) else c

-- the next call of this direction is named to fail
abbrev pub is_next_named : Direction → List NamedCalls → Bool
is_next_named d calls = list_any (is_due d) calls

abbrev pub after_call : Direction → List NamedCalls → List NamedCalls
after_call d calls = map (one_further d) calls

-- ---- the count of faults

-- A call leaves it as it was where it succeeded, and it rose where it failed; it never falls.
pub record HasCallCause {T E : Type 0} (before now : ℕ) (result : Result T E) : Type 0 where
  pub later : before ≤ now
  pub stays : OnOk result (now ≡ before)
  pub rose : OnErr result (Rose before now)

-- The same where memory may be out, in which case it stays.
pub record HasOpenCause {T : Type 0} (before now : ℕ) (result : Result T OpenFault) : Type 0 where
  pub later : before ≤ now
  pub stays : OnOk result (now ≡ before)
  pub failed : IsErrOf result fault.Failed → Rose before now
  pub quiet : IsErrOf result fault.Memory → now ≡ before
