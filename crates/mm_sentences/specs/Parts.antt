-- The parts of a move's condition, in their order.
use Rattle.std.specs.Prelude.{◌+◌, Bool, true, false, not, ◌&&◌, ◌||◌, nat_le, nat_lt, ◌==◌}
use Rattle.std.specs.Prelude.{is_some, is_none, if◌then◌else◌, List, [], ◌∷◌, length, Option, Some}
use Rattle.std.specs.Prelude.{None, option_map, unwrap_or}
use Rattle.mm_types.specs.{limit_of, Block, Frame, Key, Place, Record, LineKind, Stored, Move}
use Rattle.mm_types.specs.declared.moves.LineKind.TheVariants as kind
use Rattle.mm_types.specs.declared.moves.Stored.TheVariants as stored
use Rattle.mm_types.specs.declared.moves.Move.TheVariants as move
use Rattle.mm_move_rules.specs.{record_at, is_first, is_empty, is_on, has_request, is_read, is_write, is_again, FrameLife, set_of, is_shared, is_live}
use Rattle.mm_move_rules.specs.{is_call, is_io, is_access, is_thread, is_unbind, is_writer, is_zeroer, is_touch, touches, is_valid_machine, has_depth}
use Rattle.mm_move_rules.specs.{is_zero, is_stored, owner_is, may_copy, is_unmapped, fits_place, is_below_max, may_unmap, is_block, is_lowest}
use Rattle.mm_move_rules.specs.{may_write_block}
use Rattle.mm_sentences.specs.declared.parts.Part.{Part}
use Rattle.mm_sentences.specs.declared.parts.Part.TheVariants as part

-- ---- which parts a move has

abbrev pub kind_parts : LineKind → List Part
kind_parts (kind.Machine frames slots depth blocks) =
    part.FirstLine ∷ part.MachineRange (kind.Machine frames slots depth blocks) ∷ []
kind_parts (kind.Process pid min max) =
    part.Started ∷ part.NextProcess pid ∷ part.FewProcesses pid ∷ []
kind_parts (kind.Grow n) = part.Started ∷ part.SomeSlots n ∷ part.FewSlots n ∷ []
kind_parts (kind.Unbind pid) = part.Started ∷ []
kind_parts (kind.Access pid) = part.Started ∷ []
kind_parts (kind.Thread pid) = part.Started ∷ []
kind_parts (kind.Trim pid) = part.Started ∷ []
kind_parts kind.Writer = part.Started ∷ []
kind_parts kind.Zeroer = part.Started ∷ []
kind_parts kind.Io = part.Started ∷ []
kind_parts kind.Call = part.Started ∷ []

abbrev pub add_parts : Key → Option Block → List Part
add_parts k None = part.NotLive k ∷ part.Commit ∷ part.CallOrCopy k ∷ []
add_parts k (Some b) =
    part.Call ∷ part.OfSection k ∷ part.NotLive k ∷ part.BlockThere b ∷ part.BlockNew b ∷ []

abbrev pub write_parts : Frame → Stored → List Part
write_parts f (stored.Slot s) =
    part.OnModified f ∷ part.HoldsPaging f ∷ part.LowestSlot s ∷ part.WritesSlot ∷ []
write_parts f (stored.Block b) =
    part.Changed f ∷ part.Owned f ∷ part.Quiet f ∷ part.OfBlock f b ∷ part.WritesBlock f ∷ []

abbrev pub parts_of : Move → List Part
parts_of (move.At n k) = part.NextLine n ∷ part.InDepth ∷ kind_parts k
parts_of (move.Add k b) = add_parts k b
parts_of (move.Drop k) = part.CallOrUnbind ∷ part.OfPagingFile k ∷ part.Unmapped k ∷ []
parts_of (move.Clear f) = part.FirstFree f ∷ part.Zeroes ∷ []
parts_of (move.Steal f) =
    part.FirstStandby f ∷ part.ZeroedEmpty ∷ part.FreeEmpty ∷ part.Access ∷ []
parts_of (move.Give f k) = part.FirstZeroed f ∷ part.DemandZero k ∷ part.Access ∷ []
parts_of (move.Read f k) = part.FirstToRead f ∷ part.OnDevice k ∷ part.AccessReads ∷ []
parts_of (move.Got f) = part.BeingRead f ∷ part.IoOrAccess ∷ []
parts_of (move.Bad f) = part.BeingRead f ∷ part.IoOrAccess ∷ []
parts_of (move.Map f p) =
    part.FitsPlace f p ∷ part.NotBeingRead f ∷ part.NotValid p ∷ part.AccessOf p.pid
    ∷ part.BelowMax p.pid ∷ []
parts_of (move.Unmap p) = part.Valid p ∷ part.MayEnd p ∷ []
parts_of (move.Soil f) = part.Active f ∷ part.Clean f ∷ part.Access ∷ []
parts_of (move.Write f s) = write_parts f s
parts_of (move.Wrote f) = part.BeingWritten f ∷ part.IoAccessOrCall ∷ []
parts_of (move.Lost f) = part.BeingWritten f ∷ part.IoAccessOrCall ∷ []

-- ---- when a part holds

abbrev pub is_range : LineKind → Bool
is_range (kind.Machine frames slots depth blocks) =
    is_valid_machine (record { frames = frames; slots = slots; depth = depth; blocks = blocks })
is_range _ = true

abbrev pub is_clean : Record → Bool
is_clean r =
    (not r.changed && not (has_request r.request))
    || (is_write r.request && not (is_again r.request))

abbrev pub may_end : FrameLife → Place → Bool
may_end l place =
    unwrap_or (option_map (λ f. may_unmap l place (record_at l.frames f.0)) (l.valid place)) false

abbrev pub part_holds : FrameLife → Part → Bool
part_holds l (part.NextLine n) = n == l.line + 1
part_holds l part.InDepth = nat_le (length l.flight) l.machine.depth
part_holds l part.FirstLine = l.line == 0
part_holds l (part.MachineRange k) = is_range k
part_holds l part.Started = nat_lt 0 l.line
part_holds l (part.NextProcess pid) = pid.0 == length l.sets + 1
part_holds l (part.FewProcesses pid) = nat_le pid.0 64
part_holds l (part.SomeSlots n) = nat_le 1 n
part_holds l (part.FewSlots n) = nat_le (l.machine.slots + n) 262144
part_holds l (part.NotLive k) = not (is_live l k)
part_holds l part.Commit = nat_lt l.paging_keys (limit_of l.machine)
part_holds l (part.CallOrCopy k) = is_call l.kind || may_copy l k
part_holds l part.Call = is_call l.kind
part_holds l (part.OfSection k) = is_shared k
part_holds l (part.BlockThere b) = nat_lt b.0 l.machine.blocks
part_holds l (part.BlockNew b) = not (l.added b.0)
part_holds l part.CallOrUnbind = is_call l.kind || is_unbind l.kind
part_holds l (part.OfPagingFile k) = l.paging k
part_holds l (part.Unmapped k) = is_unmapped l (l.stands k)
part_holds l (part.FirstFree f) = is_first f.0 l.frames.free
part_holds l part.Zeroes = is_zeroer l.kind || (is_touch l.kind && is_empty l.frames.zeroed)
part_holds l (part.FirstStandby f) = is_first f.0 l.frames.standby
part_holds l part.ZeroedEmpty = is_empty l.frames.zeroed
part_holds l part.FreeEmpty = is_empty l.frames.free
part_holds l part.Access = is_touch l.kind
part_holds l (part.FirstZeroed f) = is_first f.0 l.frames.zeroed
part_holds l (part.DemandZero k) = is_zero (l.stands k)
part_holds l (part.FirstToRead f) =
    is_first f.0 l.frames.free || (is_empty l.frames.free && is_first f.0 l.frames.zeroed)
part_holds l (part.OnDevice k) = is_stored (l.stands k)
part_holds l part.AccessReads = is_access l.kind || (is_thread l.kind && has_depth l)
part_holds l (part.BeingRead f) = is_read (record_at l.frames f.0).request
part_holds l part.IoOrAccess = is_io l.kind || is_access l.kind
part_holds l (part.FitsPlace f p) = owner_is (fits_place p) (record_at l.frames f.0)
part_holds l (part.NotBeingRead f) = not (is_read (record_at l.frames f.0).request)
part_holds l (part.NotValid p) = is_none (l.valid p)
part_holds l (part.AccessOf pid) = touches pid.0 l.kind
part_holds l (part.BelowMax pid) = is_below_max (set_of l pid.0)
part_holds l (part.Valid p) = is_some (l.valid p)
part_holds l (part.MayEnd p) = may_end l p
part_holds l (part.Active f) = nat_lt 0 (record_at l.frames f.0).shares
part_holds l (part.Clean f) = is_clean (record_at l.frames f.0)
part_holds l (part.OnModified f) = is_on f.0 l.frames.modified
part_holds l (part.HoldsPaging f) = owner_is l.paging (record_at l.frames f.0)
part_holds l (part.LowestSlot s) = is_lowest s.0 l.free_slots
part_holds l part.WritesSlot = is_access l.kind || (is_writer l.kind && has_depth l)
part_holds l (part.Changed f) = (record_at l.frames f.0).changed
part_holds l (part.Owned f) = is_some (record_at l.frames f.0).owner
part_holds l (part.Quiet f) = not (has_request (record_at l.frames f.0).request)
part_holds l (part.OfBlock f b) = is_block b.0 (record_at l.frames f.0).backing
part_holds l (part.WritesBlock f) = may_write_block l f.0
part_holds l (part.BeingWritten f) = is_write (record_at l.frames f.0).request
part_holds l part.IoAccessOrCall = is_io l.kind || is_access l.kind || is_call l.kind

-- the first of these parts that does not hold
abbrev pub first_failing : FrameLife → List Part → Option Part
first_failing l [] = None
first_failing l (p ∷ ps) = if part_holds l p then first_failing l ps else Some p

-- the part for which a move is not legal; none exactly where it is
abbrev pub refusal : FrameLife → Move → Option Part
refusal l m = first_failing l (parts_of m)
