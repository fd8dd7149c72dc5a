-- What the sentence of a move names, by the state before the move.
use Rattle.std.specs.Prelude.{Option, Some, None}
use Rattle.mm_types.specs.{Frame, Key, Slot, Record, Held, Move, Stored}
use Rattle.mm_types.specs.declared.frames.Held.TheVariants as held
use Rattle.mm_types.specs.declared.moves.Move.TheVariants as move
use Rattle.mm_types.specs.declared.moves.Stored.TheVariants as stored
use Rattle.mm_move_rules.specs.{record_at, FrameLife, home_at}
use Rattle.mm_sentences.specs.declared.facts.Facts.{Facts}

abbrev pub slot_in : Held → Option Slot
slot_in (held.Slot s) = Some s
slot_in (held.Frame f) = None
slot_in (held.Block b) = None
slot_in held.Zero = None
slot_in held.Dead = None

abbrev pub home_of : Stored → Held
home_of (stored.Slot s) = held.Slot s
home_of (stored.Block b) = held.Block b

-- a page that is in no frame
abbrev pub facts_away : Option Key → Held → Facts
facts_away k home =
    record { key = k; frame = None; place = None; block = None; home = home; slot = slot_in home }

-- a frame, with what is known of its page
abbrev pub facts_in : Frame → Record → Facts
facts_in f r = record (facts_away r.owner (home_at r.backing)) { frame = Some f }

abbrev pub frame_facts : FrameLife → Frame → Facts
frame_facts l f = facts_in f (record_at l.frames f.0)

-- a page, where it stands
abbrev pub facts_held : FrameLife → Key → Held → Facts
facts_held l k (held.Frame f) = record (frame_facts l f) { key = Some k }
facts_held l k (held.Slot s) = facts_away (Some k) (held.Slot s)
facts_held l k (held.Block b) = facts_away (Some k) (held.Block b)
facts_held l k held.Zero = facts_away (Some k) held.Zero
facts_held l k held.Dead = facts_away (Some k) held.Dead

abbrev pub key_facts : FrameLife → Key → Facts
key_facts l k = facts_held l k (l.stands k)

abbrev pub valid_facts : FrameLife → Option Frame → Facts
valid_facts l (Some f) = frame_facts l f
valid_facts l None = facts_away None held.Dead

abbrev pub no_facts : Facts
no_facts = facts_away None held.Dead

-- none of `at`
abbrev pub facts_of : FrameLife → Move → Facts
facts_of l (move.At n k) = no_facts
facts_of l (move.Add k b) = record (key_facts l k) { block = b }
facts_of l (move.Drop k) = key_facts l k
facts_of l (move.Clear f) = frame_facts l f
facts_of l (move.Steal f) = frame_facts l f
facts_of l (move.Give f k) = record (frame_facts l f) { key = Some k }
facts_of l (move.Read f k) = record (frame_facts l f) { key = Some k; home = l.stands k }
facts_of l (move.Got f) = frame_facts l f
facts_of l (move.Bad f) = frame_facts l f
facts_of l (move.Map f p) = record (frame_facts l f) { place = Some p }
facts_of l (move.Unmap p) = record (valid_facts l (l.valid p)) { place = Some p }
facts_of l (move.Soil f) = frame_facts l f
facts_of l (move.Write f s) = record (frame_facts l f) { home = home_of s }
facts_of l (move.Wrote f) = frame_facts l f
facts_of l (move.Lost f) = frame_facts l f
