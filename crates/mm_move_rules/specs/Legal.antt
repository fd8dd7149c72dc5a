-- When a move is legal.
-- Profile, "Logs of moves".
use Rattle.std.specs.Prelude.{ℕ, zero, suc, ◌+◌, ◌*◌, Bool, true, false, not, ◌&&◌, ◌||◌, nat_le, nat_lt, ◌==◌, is_some, is_none, List, [], ◌∷◌, length, Option, Some, None, option_map, unwrap_or}
use Rattle.std.specs.Bool.{IsTrue}
use Rattle.mm_types.specs.{MachineOf, limit_of, Block, Key, Place, Record, Backing, Held, LineKind, Stored, Move}
use Rattle.mm_types.specs.declared.numbers.Key.TheVariants.{Private, Shared}
use Rattle.mm_types.specs.declared.frames.Backing.TheVariants as backing
use Rattle.mm_types.specs.declared.frames.Held.TheVariants as held
use Rattle.mm_types.specs.declared.moves.LineKind.TheVariants as kind
use Rattle.mm_types.specs.declared.moves.Stored.TheVariants as stored
use Rattle.mm_types.specs.declared.moves.Move.TheVariants as move
use Rattle.mm_move_rules.specs.Frames.{record_at, is_first, is_empty, is_on, has_request, is_read, is_write, is_again}
use Rattle.mm_move_rules.specs.declared.sets.ResidentSet.{ResidentSet}
use Rattle.mm_move_rules.specs.Life.{FrameLife, set_of, is_shared, key_of_place, is_live}

-- ---- kinds of lines

abbrev pub is_call : LineKind → Bool
is_call kind.Call = true
is_call _ = false

abbrev pub is_io : LineKind → Bool
is_io kind.Io = true
is_io _ = false

abbrev pub is_access : LineKind → Bool
is_access (kind.Access p) = true
is_access _ = false

abbrev pub is_thread : LineKind → Bool
is_thread (kind.Thread p) = true
is_thread _ = false

abbrev pub is_unbind : LineKind → Bool
is_unbind (kind.Unbind p) = true
is_unbind _ = false

abbrev pub is_writer : LineKind → Bool
is_writer kind.Writer = true
is_writer _ = false

abbrev pub is_zeroer : LineKind → Bool
is_zeroer kind.Zeroer = true
is_zeroer _ = false

-- an access, plain or of a thread
abbrev pub is_touch : LineKind → Bool
is_touch k = is_access k || is_thread k

-- an access of this process, plain or of a thread
abbrev pub touches : ℕ → LineKind → Bool
touches pid (kind.Access p) = p.0 == pid
touches pid (kind.Thread p) = p.0 == pid
touches pid _ = false

abbrev pub unbinds : ℕ → LineKind → Bool
unbinds pid (kind.Unbind p) = p.0 == pid
unbinds pid _ = false

abbrev pub trims : ℕ → LineKind → Bool
trims pid (kind.Trim p) = p.0 == pid
trims pid _ = false

-- ---- parts of the conditions

-- a machine's numbers are in range
abbrev pub is_valid_machine : MachineOf → Bool
is_valid_machine m =
    nat_le 6 m.frames && nat_le m.frames 262144 && nat_le m.slots 262144 && nat_le 1 m.depth &&
    nat_le m.depth 64 && nat_le m.blocks 65536
    && nat_le (2 * m.depth + 4) m.frames

-- line 1 is `machine`, and no other is
abbrev pub is_legal_kind : FrameLife → LineKind → Bool
is_legal_kind l (kind.Machine frames slots depth blocks) =
    (l.line == 0) && is_valid_machine (record {
      frames = frames;
      slots = slots;
      depth = depth;
      blocks = blocks;
    })
is_legal_kind l (kind.Process pid min max) = nat_lt 0 l.line && (pid.0 == length l.sets + 1) &&
    nat_le pid.0 64
is_legal_kind l (kind.Grow n) = nat_lt 0 l.line && nat_le 1 n && nat_le (l.machine.slots + n) 262144
is_legal_kind l _ = nat_lt 0 l.line

-- fewer than depth requests are in flight
abbrev pub has_depth : FrameLife → Bool
has_depth l = nat_lt (length l.flight) l.machine.depth

abbrev pub is_zero : Held → Bool
is_zero (held.Frame f) = false
is_zero (held.Slot s) = false
is_zero (held.Block b) = false
is_zero held.Zero = true
is_zero held.Dead = false

-- on a device, and in no frame
abbrev pub is_stored : Held → Bool
is_stored (held.Frame f) = false
is_stored (held.Slot s) = true
is_stored (held.Block b) = true
is_stored held.Zero = false
is_stored held.Dead = false

-- the owner, if any, passes the test
abbrev pub owner_is : (Key → Bool) → Record → Bool
owner_is test r = unwrap_or (option_map test r.owner) false

-- a shared page is valid at the place
abbrev pub shows_shared : FrameLife → Place → Bool
shows_shared l place =
    unwrap_or (option_map (λ f. owner_is is_shared (record_at l.frames f.0)) (l.valid place)) false

-- in an access, a private page of its process comes to be where a shared page is valid: a copy
abbrev pub may_copy : FrameLife → Key → Bool
may_copy l (Private p v) = touches p.0 l.kind && shows_shared l (record { pid = p; vpn = v })
may_copy l (Shared a i) = false

-- no place is valid for the frame of the key: its shares are the places that are valid for it
abbrev pub is_unmapped : FrameLife → Held → Bool
is_unmapped l (held.Frame f) = (record_at l.frames f.0).shares == 0
is_unmapped l (held.Slot s) = true
is_unmapped l (held.Block b) = true
is_unmapped l held.Zero = true
is_unmapped l held.Dead = true

-- a private page is valid at its own place alone, a shared one at any
abbrev pub fits_place : Place → Key → Bool
fits_place place (Private p v) = (p.0 == place.pid.0) && (v.0 == place.vpn.0)
fits_place place (Shared a i) = true

abbrev pub is_below_max : Option ResidentSet → Bool
is_below_max None = false
is_below_max (Some s) = nat_lt s.resident s.max

abbrev pub is_above_min : Option ResidentSet → Bool
is_above_min None = false
is_above_min (Some s) = nat_lt s.min s.resident

abbrev pub is_at_max : Option ResidentSet → Bool
is_at_max None = false
is_at_max (Some s) = s.resident == s.max

-- zeroed, free and standby are empty
abbrev pub is_short : FrameLife → Bool
is_short l = is_empty l.frames.zeroed && is_empty l.frames.free && is_empty l.frames.standby

-- an end of pages; a trim above the minimum; a full working set; an access of any process that
-- found no frame; a copy
abbrev pub may_unmap : FrameLife → Place → Record → Bool
may_unmap l place r =
    unbinds place.pid.0 l.kind
    || (trims place.pid.0 l.kind && is_above_min (set_of l place.pid.0))
    || (touches place.pid.0 l.kind && is_at_max (set_of l place.pid.0))
    || (is_access l.kind && is_short l)
    || (touches place.pid.0 l.kind && owner_is is_shared r && is_live l (key_of_place place))

abbrev pub is_block : ℕ → Backing → Bool
is_block b backing.None = false
is_block b (backing.Slot s) = false
is_block b (backing.Block c) = c.0 == b

-- the lowest free slot
abbrev pub is_lowest : ℕ → List Bool → Bool
is_lowest s [] = false
is_lowest zero (free ∷ rest) = free
is_lowest (suc s) (free ∷ rest) = not free && is_lowest s rest

abbrev pub may_write_block : FrameLife → ℕ → Bool
may_write_block l f =
    (is_on f l.frames.modified && is_access l.kind) ||
    (is_on f l.frames.modified && is_writer l.kind && has_depth l) || is_call l.kind

-- ---- the moves

abbrev pub is_legal_add : FrameLife → Key → Option Block → Bool
is_legal_add l k None = not (is_live l k) && nat_lt l.paging_keys (limit_of l.machine) &&
    (is_call l.kind || may_copy l k)
is_legal_add l k (Some b) = is_call l.kind && is_shared k && not (is_live l k) &&
    nat_lt b.0 l.machine.blocks && not (l.added b.0)

abbrev pub is_legal_map : FrameLife → Record → Place → Bool
is_legal_map l r place =
    owner_is (fits_place place) r && not (is_read r.request) && is_none (l.valid place) &&
    touches place.pid.0 l.kind
    && is_below_max (set_of l place.pid.0)

abbrev pub is_legal_soil : FrameLife → Record → Bool
is_legal_soil l r =
    nat_lt 0 r.shares &&
    ((not r.changed && not (has_request r.request)) ||
    (is_write r.request && not (is_again r.request))) && is_touch l.kind

abbrev pub is_legal_write : FrameLife → ℕ → Record → Stored → Bool
is_legal_write l f r (stored.Slot s) =
    is_on f l.frames.modified && owner_is l.paging r && is_lowest s.0 l.free_slots
    && (is_access l.kind || (is_writer l.kind && has_depth l))
is_legal_write l f r (stored.Block b) =
    r.changed && is_some r.owner && not (has_request r.request) && is_block b.0 r.backing &&
    may_write_block l f

abbrev pub is_legal : FrameLife → Move → Bool
is_legal l (move.At n k) = (n == l.line + 1) && nat_le (length l.flight) l.machine.depth &&
    is_legal_kind l k
is_legal l (move.Add k b) = is_legal_add l k b
is_legal l (move.Drop k) = (is_call l.kind || is_unbind l.kind) && l.paging k &&
    is_unmapped l (l.stands k)
is_legal l (move.Clear f) = is_first f.0 l.frames.free &&
    (is_zeroer l.kind || (is_touch l.kind && is_empty l.frames.zeroed))
is_legal l (move.Steal f) = is_first f.0 l.frames.standby && is_empty l.frames.zeroed &&
    is_empty l.frames.free && is_touch l.kind
is_legal l (move.Give f k) = is_first f.0 l.frames.zeroed && is_zero (l.stands k) && is_touch l.kind
is_legal l (move.Read f k) =
    (is_first f.0 l.frames.free || (is_empty l.frames.free && is_first f.0 l.frames.zeroed)) &&
    is_stored (l.stands k)
    && (is_access l.kind || (is_thread l.kind && has_depth l))
is_legal l (move.Got f) = is_read (record_at l.frames f.0).request &&
    (is_io l.kind || is_access l.kind)
is_legal l (move.Bad f) = is_read (record_at l.frames f.0).request &&
    (is_io l.kind || is_access l.kind)
is_legal l (move.Map f place) = is_legal_map l (record_at l.frames f.0) place
is_legal l (move.Unmap place) =
    unwrap_or (option_map (λ f. may_unmap l place (record_at l.frames f.0)) (l.valid place)) false
is_legal l (move.Soil f) = is_legal_soil l (record_at l.frames f.0)
is_legal l (move.Write f s) = is_legal_write l f.0 (record_at l.frames f.0) s
is_legal l (move.Wrote f) = is_write (record_at l.frames f.0).request &&
    (is_io l.kind || is_access l.kind || is_call l.kind)
is_legal l (move.Lost f) = is_write (record_at l.frames f.0).request &&
    (is_io l.kind || is_access l.kind || is_call l.kind)

abbrev pub IsLegal : Move → FrameLife → Type 0
IsLegal m l = IsTrue (is_legal l m)
