-- What a call of a store did: moves that replay, noted in order, and the device calls that they
-- stand for.
use Rattle.std.specs.Prelude.{◌≡◌, ◌<◌, ℕ, zero, suc, ◌+◌, Bool, true, false, List, [], ◌∷◌, ◌++◌, map, Result, Ok, Err}
use Rattle.mm_types.specs.declared.devices.Direction.TheVariants as way
use Rattle.mm_types.specs.{MakeFault, Move}
use Rattle.mm_types.specs.declared.faults.MakeFault.TheVariants as make_fault
use Rattle.mm_devices.specs.{DeviceCall, Call, AllServed, logged_call, KeepsOthers}
use Rattle.mm_move_rules.specs.{Grew, AreMoves, spelled_moves, Replays}
use Rattle.mm_store.specs.Tallies.{tallied}
use Rattle.mm_store.specs.Store.{StoreOf}
use Rattle.mm_store.specs.Behind.{Behind}
use Rattle.mm_store.specs.Told.{told_of, told_through, paging_traffic, file_traffic}

-- moves of which this holds
pub record Passes (That : Behind → List Move → Behind → Type 0) (s z : StoreOf) (b c : Behind) :
    Type 0 where
  pub moves : List Move
  pub in_range : AreMoves moves
  pub grew : Grew b.log c.log (spelled_moves moves)
  pub replays : Replays moves b.life c.life
  pub that : That b moves c
  -- the report counts the device calls of these moves
  pub report : told_of z.report ≡ told_through b.life moves (told_of s.report)
  -- and each stands in its device's log, or was named
  pub paging_calls : List Call
  pub paging : AllServed paging_calls s.paging_device z.paging_device
  pub paging_are : map logged_call paging_calls ≡ paging_traffic b.life moves
  pub file_calls : List Call
  pub files : AllServed file_calls s.file_device z.file_device
  pub files_are : map logged_call file_calls ≡ file_traffic b.life moves
  -- a slot or a block that none of them wrote is as before
  pub slots_kept : KeepsOthers (paging_traffic b.life moves) b.slots c.slots
  pub blocks_kept : KeepsOthers (file_traffic b.life moves) s.file_blocks z.file_blocks

-- of any store: where it pages nothing, what stands behind it is as before
abbrev pub PassesIn : Bool → (Behind → List Move → Behind → Type 0) → StoreOf → StoreOf → Behind →
    Behind → Type 0
PassesIn true That s z b c = c ≡ b
PassesIn false That s z b c = Passes That s z b c

-- moves of which this holds, in a line that calls devices otherwise: a file is made, or the paging
-- device grows
pub record Notes (That : Behind → List Move → Behind → Type 0) (b c : Behind) : Type 0 where
  pub moves : List Move
  pub in_range : AreMoves moves
  pub grew : Grew b.log c.log (spelled_moves moves)
  pub replays : Replays moves b.life c.life
  pub that : That b moves c

abbrev pub NotesIn : Bool → (Behind → List Move → Behind → Type 0) → Behind → Behind → Type 0
NotesIn true That b c = c ≡ b
NotesIn false That b c = Notes That b c

-- ---- a file's blocks are written

abbrev pub writes_from : ℕ → ℕ → List DeviceCall
writes_from first zero = []
writes_from first (suc n) = record {
  direction = way.Write;
  block = first;
  succeeded = true;
} ∷ writes_from (first + 1) n

abbrev pub last_write : Bool → ℕ → List DeviceCall
last_write true block = []
last_write false block = record { direction = way.Write; block = block; succeeded = false } ∷ []

-- in rising order, up to the first write that fails; none where memory ran out
pub record WritesFile (first n : ℕ) (ok : Bool) (s z : StoreOf) : Type 0 where
  pub whole : ℕ
  pub calls : List Call
  pub served : AllServed calls s.file_device z.file_device
  pub are : map logged_call calls ≡ writes_from first whole ++ last_write ok (first + whole)
  pub blocks_kept : KeepsOthers (map logged_call calls) s.file_blocks z.file_blocks
  -- all were written, or the write of one of them failed
  pub all : ok ≡ true → whole ≡ n
  pub some : ok ≡ false → whole < n
  pub report : z.report.file_writes ≡ tallied way.Write calls s.report.file_writes
  pub search : z.report.search_writes ≡ tallied way.Write calls s.report.search_writes

abbrev pub FileMade : {T : Type 0} → ℕ → ℕ → Result T MakeFault → StoreOf → StoreOf → Type 0
FileMade first n (Ok v) s z = WritesFile first n true s z
FileMade first n (Err make_fault.Write) s z = WritesFile first n false s z
FileMade first n (Err make_fault.Memory) s z = Unit {0}
