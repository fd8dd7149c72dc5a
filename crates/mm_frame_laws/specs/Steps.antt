-- What the steps of a search leave.
-- Profile, "Which frame moves, and when".
use Rattle.std.specs.Prelude.{◌≡◌, ◌≢◌, ℕ, ◌+◌, Bool, not, ◌&&◌, ◌==◌, List, [], ◌∷◌, ◌++◌, None}
use Rattle.mm_types.specs.{Frame, Place, Record, Backing, Stored}
use Rattle.mm_types.specs.declared.frames.Backing.TheVariants as backing
use Rattle.mm_types.specs.declared.moves.Stored.TheVariants as stored
use Rattle.mm_types.specs.declared.moves.Move.TheVariants as move
use Rattle.mm_move_rules.specs.{record_at, without, has_request, unshared, FrameLife, after_move}
use Rattle.mm_move_laws.specs.{valid_places, at_end_if, ListsAre}

-- a frame that one place alone shows, and that has no request: without that place it is on a list
abbrev pub is_last : Record → Bool
is_last r = (r.shares == 1) && not (has_request r.request)

-- two states in which the same frames can be written
pub record SameWriters (l m : FrameLife) : Type 0 where
  pub owners : (g : ℕ) → (record_at m.frames g).owner ≡ (record_at l.frames g).owner
  pub free_slots : m.free_slots ≡ l.free_slots
  pub paging : m.paging ≡ l.paging

-- the place was valid for the frame, and is so no more
pub record Unmapped (l m : FrameLife) (place : Place) (f : ℕ) : Type 0 where
  pub lists : ListsAre m.frames l.frames.zeroed l.frames.free
      (at_end_if (is_last (record_at l.frames f) && not (record_at l.frames f).changed) f
      l.frames.standby)
      (at_end_if (is_last (record_at l.frames f) && (record_at l.frames f).changed) f
      l.frames.modified)
  pub own : record_at m.frames f ≡ unshared (record_at l.frames f)
  pub others : (g : ℕ) → g ≢ f → record_at m.frames g ≡ record_at l.frames g
  pub writers : SameWriters l m
  pub fewer : valid_places m + 1 ≡ valid_places l
  pub gone : m.valid place ≡ None
  pub stays : (q : Place) → q ≢ place → m.valid q ≡ l.valid q
  pub flight : m.flight ≡ l.flight
  pub kind : m.kind ≡ l.kind
  pub machine : m.machine ≡ l.machine

-- the backing of a page that is written to a slot or a block
abbrev pub backing_to : Stored → Backing
backing_to (stored.Slot s) = backing.Slot s
backing_to (stored.Block b) = backing.Block b

-- after a write that succeeded, and after one that failed
abbrev pub after_written : FrameLife → Frame → Stored → FrameLife
after_written l f home = after_move (after_move l (move.Write f home)) (move.Wrote f)

abbrev pub after_failed : FrameLife → Frame → Stored → FrameLife
after_failed l f home = after_move (after_move l (move.Write f home)) (move.Lost f)

-- the frame at the end of the modified list, and all else as it was
abbrev pub put_last : FrameLife → ℕ → FrameLife
put_last l f = record l {
  frames = record l.frames { modified = without f l.frames.modified ++ f ∷ [] };
}

-- the modified list in a search: those passed over, those not tried yet, those whose write failed
abbrev pub list_in_search : List ℕ → List ℕ → List ℕ → List ℕ
list_in_search passed left lost = passed ++ (left ++ lost)
