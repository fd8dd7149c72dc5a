-- Blocks of which only those that were written take memory of their own.
use Rattle.std.specs.Prelude.{ℕ, List, Option, Some, None, Box}
use Rattle.std.specs.declared.alloc.Global.{Global}
use Rattle.mm_devices.specs.Traffic.{empty_block}

-- the bytes of a block
abbrev pub block_bytes : Option (Box (List ℕ) Global) → List ℕ
block_bytes None = empty_block
block_bytes (Some b) = b.value
