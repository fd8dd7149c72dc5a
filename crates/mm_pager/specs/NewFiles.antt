-- A file that is made: its blocks are written, and its pages come to be.
-- Profile, "Calls".
use Rattle.std.specs.Prelude.{◌≡◌, ◌≤◌, ◌<◌, ◌⊎◌, ◌+◌, ◌%◌, ℕ, Bool, true, false, ◌==◌, ◌&&◌, nat_lt, if◌then◌else◌, List, ◌++◌, map, length, slice_get, Some, Result, Ok, Err}
use Rattle.mm_types.specs.declared.devices.Direction.TheVariants as way
use Rattle.mm_types.specs.{MakeFault, Move, Key}
use Rattle.mm_types.specs.declared.faults.MakeFault.TheVariants as make_fault
use Rattle.mm_types.specs.declared.frames.Held.TheVariants as held
use Rattle.mm_types.specs.declared.numbers.Key.TheVariants.{Private, Shared}
use Rattle.mm_devices.specs.{Call, AllServed, logged_call, CallFailed, IsLater, KeepsOthers}
use Rattle.mm_world.specs.{filled, Tally}
use Rattle.mm_store.specs.{MakesFrom, Turned, writes_from, last_write, tallied}
use Rattle.mm_move_rules.specs.{changed}
use Rattle.mm_state_calls.specs.{StateOf, moved, DoesMoves}

-- the file device was called so, to write blocks, and nothing but it was changed
pub record CallsWritten (calls : List Call) (s z : StateOf) : Type 0 where
  pub served : AllServed calls s.files z.files
  pub none_read : (t : Tally) → tallied way.Read calls t ≡ t
  pub told : z.told ≡ record s.told {
    file_writes = tallied way.Write calls s.told.file_writes;
    search_writes = tallied way.Write calls s.told.search_writes;
  }
  pub rest : z ≡ record s { told = z.told; files = z.files; blocks = z.blocks }
  pub later : IsLater s.files z.files
  pub kept : KeepsOthers (map logged_call calls) s.blocks z.blocks

-- The first n blocks of a new file were written in order, block `first + i` with the byte `byte +
-- i` throughout; or they were up to a write that failed. Nothing but the file device was changed,
-- and no other block.
pub record BlocksWritten (first n byte : ℕ) (ok : Bool) (s z : StateOf) : Type 0 where
  pub whole : ℕ
  pub calls : List Call
  pub tells : CallsWritten calls s z
  pub are : map logged_call calls ≡ writes_from first whole ++ last_write ok (first + whole)
  pub all : ok ≡ true → whole ≡ n
  pub some : ok ≡ false → whole < n
  pub written : ok ≡ true → (i : ℕ) → i < n →
      slice_get z.blocks (first + i) ≡ Some (filled ((byte + i) % 256))
  pub others : (block : ℕ) → (block < first) ⊎ (first + n ≤ block) →
      slice_get z.blocks block ≡ slice_get s.blocks block
  pub long : length z.blocks ≡ length s.blocks
  pub quiet : ok ≡ true → z.told.file_writes.failed ≡ s.told.file_writes.failed
  pub failed : ok ≡ false → 0 < z.told.file_writes.failed
  pub blamed : ok ≡ false → CallFailed s.files z.files

-- a function of keys, with these values for the first n pages of an area
abbrev pub with_pages : {V : Type 0} → ℕ → ℕ → (ℕ → V) → (Key → V) → Key → V
with_pages area n value f (Private pid vpn) = f (Private pid vpn)
with_pages area n value f (Shared a i) = if (a.0 == area) && nat_lt i n then value i else
    f (Shared a i)

-- the first n pages of an area came to be, each in its block, the blocks from the first on
pub record PagesAdded (area first n : ℕ) (s z : StateOf) : Type 0 where
  pub moves : List Move
  pub does : DoesMoves moves s z
  pub adds : Turned (MakesFrom 0 n) s.life moves
  pub life : z.life ≡ record s.life { stands = z.life.stands; added = z.life.added }
  pub stands : (k : Key) → z.life.stands k ≡ with_pages area n (λ i. held.Block (record {
    0 = first + i;
  })) s.life.stands k
  pub contents : (k : Key) →
      z.contents k ≡ with_pages area n (λ i. slice_get s.blocks (first + i)) s.contents k
  pub added : (b : ℕ) → first + n ≤ b → z.life.added b ≡ s.life.added b
  pub told : z.told ≡ s.told
  pub waits : z.waits ≡ s.waits
  pub same : z ≡ record (moved s z) { contents = z.contents }

-- the state with an area open
abbrev pub with_area : ℕ → ℕ → StateOf → StateOf
with_area area n s = record s { areas = changed ◌==◌ s.areas area (Some n) }

-- a file is made: its area is open, its blocks are written and its pages are there
pub record FileBuilt (area first n byte : ℕ) (s z : StateOf) : Type 0 where
  pub mid : StateOf
  pub wrote : BlocksWritten first n byte true (with_area area n s) mid
  pub added : PagesAdded area first n mid z

-- or it is not
abbrev pub UnmadeAs : ℕ → ℕ → ℕ → MakeFault → StateOf → StateOf → Type 0
UnmadeAs first n byte make_fault.Write s z = BlocksWritten first n byte false s z
UnmadeAs first n byte make_fault.Memory s z = z ≡ s

abbrev pub BuiltAs : {T : Type 0} → ℕ → ℕ → ℕ → ℕ → Result T MakeFault → StateOf → StateOf → Type 0
BuiltAs area first n byte (Ok v) s z = FileBuilt area first n byte s z
BuiltAs area first n byte (Err e) s z = UnmadeAs first n byte e s z
