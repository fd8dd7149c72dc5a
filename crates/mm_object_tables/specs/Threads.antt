-- What an access that a thread keeps asks for.
use Rattle.std.specs.Prelude.{◌+◌, ◌%◌, ◌≤◌, length}
use Rattle.std.specs.Coded.{×_prop, le_prop}
use Rattle.mm_types.specs.{AccessSpec}
use Rattle.mm_types.specs.declared.events.AccessSpec.TheVariants as spec

-- it lies in one page, and a read is of 1 to 64 bytes
abbrev pub FitsPage : AccessSpec → Type 0
FitsPage (spec.Read addr len) = (1 ≤ len) × ((len ≤ 64) × (addr % 4096 + len ≤ 4096))
FitsPage (spec.Write addr bytes) = addr % 4096 + length bytes ≤ 4096

pub FitsPage-prop : (what : AccessSpec) → IsProp (FitsPage what)
FitsPage-prop (spec.Read addr len) = ×_prop le_prop (×_prop le_prop le_prop)
FitsPage-prop (spec.Write addr bytes) = le_prop
