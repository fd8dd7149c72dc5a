-- What moves tell of devices: the report's counts, and the calls of each device.
use Rattle.std.specs.Prelude.{Bool, true, false, List, [], ◌∷◌, ◌++◌, Option, None}
use Rattle.mm_types.specs.{Direction, Backing, Move, Key}
use Rattle.mm_types.specs.declared.devices.Direction.TheVariants as way
use Rattle.mm_types.specs.declared.frames.Backing.TheVariants as backing
use Rattle.mm_types.specs.declared.moves.Move.TheVariants as move
use Rattle.mm_devices.specs.{DeviceCall}
use Rattle.mm_move_rules.specs.{record_at, FrameLife, after_move}
use Rattle.mm_world.specs.{Tally}
use Rattle.mm_world.specs.Report.{Report}
use Rattle.mm_store.specs.Tallies.{with_outcome}
use Rattle.mm_store.specs.Reports.{no_calls}

-- of a report, the device calls of the line
pub record Told : Type 0 where
  pub paging_reads : Tally
  pub paging_writes : Tally
  pub file_reads : Tally
  pub file_writes : Tally
  pub last_failed_read : Option Key
  pub search_writes : Tally

abbrev pub told_of : Report → Told
told_of r = record {
  paging_reads = r.paging_reads;
  paging_writes = r.paging_writes;
  file_reads = r.file_reads;
  file_writes = r.file_writes;
  last_failed_read = r.last_failed_read;
  search_writes = r.search_writes;
}

abbrev pub none_told : Told
none_told = record {
  paging_reads = no_calls;
  paging_writes = no_calls;
  file_reads = no_calls;
  file_writes = no_calls;
  last_failed_read = None;
  search_writes = no_calls;
}

abbrev pub with_read : Bool → Backing → Told → Told
with_read ok backing.None t = t
with_read ok (backing.Slot s) t = record t { paging_reads = with_outcome ok t.paging_reads }
with_read ok (backing.Block b) t = record t { file_reads = with_outcome ok t.file_reads }

abbrev pub with_write : Bool → Backing → Told → Told
with_write ok backing.None t = t
with_write ok (backing.Slot s) t = record t {
  paging_writes = with_outcome ok t.paging_writes;
  search_writes = with_outcome ok t.search_writes;
}
with_write ok (backing.Block b) t = record t {
  file_writes = with_outcome ok t.file_writes;
  search_writes = with_outcome ok t.search_writes;
}

-- after a move
abbrev pub told_after : FrameLife → Move → Told → Told
told_after l (move.At n k) t = none_told
told_after l (move.Give f k) t = record t { search_writes = no_calls }
told_after l (move.Read f k) t = record t { search_writes = no_calls }
told_after l (move.Got f) t = with_read true (record_at l.frames f.0).backing t
told_after l (move.Bad f) t =
    record (with_read false (record_at l.frames f.0).backing t) {
      last_failed_read =
          (record_at l.frames f.0).owner;
    }
told_after l (move.Wrote f) t = with_write true (record_at l.frames f.0).backing t
told_after l (move.Lost f) t = with_write false (record_at l.frames f.0).backing t
told_after l _ t = t

abbrev pub told_through : FrameLife → List Move → Told → Told
told_through l [] t = t
told_through l (m ∷ ms) t = told_through (after_move l m) ms (told_after l m t)

-- the calls of devices that moves stand for, with the device that each is made of
abbrev pub in_slot : Direction → Bool → Backing → List DeviceCall
in_slot d ok backing.None = []
in_slot d ok (backing.Slot s) = record { direction = d; block = s.0; succeeded = ok } ∷ []
in_slot d ok (backing.Block b) = []

abbrev pub in_block : Direction → Bool → Backing → List DeviceCall
in_block d ok backing.None = []
in_block d ok (backing.Slot s) = []
in_block d ok (backing.Block b) = record { direction = d; block = b.0; succeeded = ok } ∷ []

module _ (on : Direction → Bool → Backing → List DeviceCall) where
  abbrev pub call_of : FrameLife → Move → List DeviceCall
  call_of l (move.Got f) = on way.Read true (record_at l.frames f.0).backing
  call_of l (move.Bad f) = on way.Read false (record_at l.frames f.0).backing
  call_of l (move.Wrote f) = on way.Write true (record_at l.frames f.0).backing
  call_of l (move.Lost f) = on way.Write false (record_at l.frames f.0).backing
  call_of l _ = []

  abbrev pub calls_of : FrameLife → List Move → List DeviceCall
  calls_of l [] = []
  calls_of l (m ∷ ms) = call_of l m ++ calls_of (after_move l m) ms

-- of the paging device, and of the file device
abbrev pub paging_traffic : FrameLife → List Move → List DeviceCall
paging_traffic l ms = calls_of in_slot l ms

abbrev pub file_traffic : FrameLife → List Move → List DeviceCall
file_traffic l ms = calls_of in_block l ms
