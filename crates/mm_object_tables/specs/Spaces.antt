-- What stands at a process's place: its regions and its handles, and others in their place.
use Rattle.std.specs.Borrow.{Fml, Lends, MutBor}
use Rattle.std.specs.Prelude.{ℕ, List, [], Option, option_map, unwrap_or}
use Rattle.std.specs.contracts.option.Option.{the_row as option_row}
use Rattle.mm_world.specs.{Numbered, RegionOf}
use Rattle.mm_sections.specs.{HandlesOf}
use Rattle.mm_sections.specs.contracts.handles.Handles.{the_row as handles_row}
use Rattle.mm_address_spaces.specs.{RegionsOf}
use Rattle.mm_address_spaces.specs.contracts.spaces.AddressSpace.{the_row as space_row}
use Rattle.mm_object_tables.specs.contracts.tables.Process.{the_row as process_row}
use Rattle.mm_object_tables.specs.declared.tables.Process.{Process}

-- none where no process lives
abbrev pub process_regions : Option Process → List (RegionOf (Unit {0}))
process_regions o = unwrap_or (option_map (λ p. p.space.regions) o) []

abbrev pub process_handles : Option Process → Numbered ℕ
process_handles o = unwrap_or (option_map (λ p. p.handles.entries) o) []

-- the same process with these
abbrev pub with_space : Option Process → RegionsOf → Option Process
with_space o space = option_map (λ p. record { space = space; handles = p.handles }) o

abbrev pub with_handles : Option Process → HandlesOf → Option Process
with_handles o handles = option_map (λ p. record { space = p.space; handles = handles }) o

-- it ends with what was lent of it
abbrev pub LendsSpace : MutBor (Option Process) → MutBor RegionsOf → Fml
LendsSpace o space = Lends (option_row process_row) space_row o space (with_space o.now)

abbrev pub LendsHandles : MutBor (Option Process) → MutBor HandlesOf → Fml
LendsHandles o handles = Lends (option_row process_row) handles_row o handles (with_handles o.now)
