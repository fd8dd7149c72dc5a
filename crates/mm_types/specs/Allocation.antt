-- The allocation types of VirtualAlloc and the free types of VirtualFree (MEM_COMMIT and the
-- others, by Microsoft's numbers). Profile, "Calls".
use Rattle.std.specs.Prelude.{ℕ}

abbrev pub commit_type : ℕ
commit_type = 0x1000

abbrev pub reserve_type : ℕ
reserve_type = 0x2000

abbrev pub reserve_and_commit_type : ℕ
reserve_and_commit_type = 0x3000

abbrev pub decommit_type : ℕ
decommit_type = 0x4000

abbrev pub release_type : ℕ
release_type = 0x8000

-- MEM_WRITE_WATCH, added to a type that reserves
abbrev pub watch_type : ℕ
watch_type = 0x200000
