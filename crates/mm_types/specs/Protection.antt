-- What a protection permits (Microsoft's memory protection constants).
-- Profile, "Protections".
use Rattle.std.specs.Prelude.{ℕ, ◌%◌, Bool, true, false, ◌==◌, if◌then◌else◌, List, [], ◌∷◌}
use Rattle.mm_types.specs.declared.protections.Access.{Access}
use Rattle.mm_types.specs.declared.protections.Access.TheVariants as access

-- the protections, by Microsoft's names and numbers
abbrev pub noaccess : ℕ
noaccess = 0x01

abbrev pub readonly : ℕ
readonly = 0x02

abbrev pub readwrite : ℕ
readwrite = 0x04

abbrev pub writecopy : ℕ
writecopy = 0x08

abbrev pub execute : ℕ
execute = 0x10

abbrev pub execute_read : ℕ
execute_read = 0x20

abbrev pub execute_readwrite : ℕ
execute_readwrite = 0x40

abbrev pub execute_writecopy : ℕ
execute_writecopy = 0x80

-- the flag beside a protection that makes its page a guard page
abbrev pub guard_flag : ℕ
guard_flag = 0x100

-- one row of the table: a base protection, and whether it permits to read, to write, to execute
pub record Permission : Type 0 where
  pub prot : ℕ
  pub reads : Bool
  pub writes : Bool
  pub executes : Bool

abbrev pub no_access : Permission
no_access = record { prot = noaccess; reads = false; writes = false; executes = false }

-- the eight protections; that EXECUTE permits to read is this profile's own
abbrev pub permissions : List Permission
permissions =
    no_access
    ∷ record { prot = readonly; reads = true; writes = false; executes = false }
    ∷ record { prot = readwrite; reads = true; writes = true; executes = false }
    ∷ record { prot = writecopy; reads = true; writes = true; executes = false }
    ∷ record { prot = execute; reads = true; writes = false; executes = true }
    ∷ record { prot = execute_read; reads = true; writes = false; executes = true }
    ∷ record { prot = execute_readwrite; reads = true; writes = true; executes = true }
    ∷ record { prot = execute_writecopy; reads = true; writes = true; executes = true }
    ∷ []

-- the guard is a flag beside the base protection
abbrev pub base_of : ℕ → ℕ
base_of prot = prot % guard_flag

abbrev pub permission_in : List Permission → ℕ → Permission
permission_in [] prot = no_access
permission_in (p ∷ ps) prot = let later = permission_in ps prot in if p.prot == prot then p else
    later

abbrev pub permitted : Permission → Access → Bool
permitted p access.Read = p.reads
permitted p access.Write = p.writes
permitted p access.Execute = p.executes

-- whether a protection permits an access, its guard aside; what is none of the eight permits
-- nothing
abbrev pub permits : ℕ → Access → Bool
permits prot what = permitted (permission_in permissions (base_of prot)) what
