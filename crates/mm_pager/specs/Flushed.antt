-- A page of a file that is written to its block.
-- Profile, "Calls".
use Rattle.std.specs.Prelude.{◌≡◌, ◌≢◌, ◌<◌, if◌then◌else◌, not, ℕ, Bool, true, false, List, [], ◌∷◌, slice_get}
use Rattle.mm_devices.specs.{CallFailed, IsLater}
use Rattle.mm_types.specs.declared.frames.Backing.TheVariants as backing
use Rattle.mm_types.specs.declared.frames.Held.TheVariants as held
use Rattle.mm_types.specs.{Request, Move, Stored, Block, Frame, Key}
use Rattle.mm_types.specs.declared.moves.Move.TheVariants as move
use Rattle.mm_move_rules.specs.{record_at, is_write, is_again}
use Rattle.mm_store.specs.{FlushMoves, FlushedAt, ends_lost, stored_of}
use Rattle.mm_parts.specs.{write_end}
use Rattle.mm_state_calls.specs.{StateOf, backing_of_frame, moved_with_call, DoesMoves}
use Rattle.mm_pager.specs.Pieces.{LifeKept}

-- a page of a file is in this frame
pub record HoldsFilePage (f : Frame) (s : StateOf) : Type 0 where
  pub key : Key
  pub stands : s.life.stands key ≡ held.Frame f
  pub block : Block
  pub backed : backing_of_frame s f ≡ backing.Block block

-- A block was written to, perhaps more than once: of the devices that of files alone was called,
-- and no other block changed. All of these writes succeeded, or the last failed.
pub record WritesTo (b : Block) (ok : Bool) (s z : StateOf) : Type 0 where
  pub paging : z.paging ≡ s.paging
  pub slots : z.slots ≡ s.slots
  pub waits : z.waits ≡ s.waits
  pub others : (other : ℕ) → other ≢ b.0 → slice_get z.blocks other ≡ slice_get s.blocks other
  pub told : z.told ≡ record s.told {
    file_writes = z.told.file_writes;
    search_writes = z.told.search_writes;
  }
  pub later : IsLater s.files z.files
  pub quiet : ok ≡ true → z.told.file_writes.failed ≡ s.told.file_writes.failed
  pub failed : ok ≡ false → 0 < z.told.file_writes.failed
  pub blamed : ok ≡ false → CallFailed s.files z.files

-- by these moves, and each page stands where it did
pub record WritesBack (b : Block) (ok : Bool) (moves : List Move) (s z : StateOf) : Type 0 where
  pub does : DoesMoves moves s z
  pub life : LifeKept s.life z.life
  pub stands : z.life.stands ≡ s.life.stands
  pub same : z ≡ moved_with_call s z
  pub device : WritesTo b ok s z

-- a write of a frame ends, where one is in flight
abbrev pub EndedIf : Bool → Bool → Frame → List Move → Type 0
EndedIf true ok f ms = ms ≡ write_end ok f ∷ []
EndedIf false ok f ms = (ms ≡ []) × (ok ≡ true)

-- a page is written, where it is changed
abbrev pub WrittenIf : Bool → Bool → Frame → List Move → Type 0
WrittenIf true ok f ms = (to : Stored) × (ms ≡ move.Write f to ∷ write_end ok f ∷ [])
WrittenIf false ok f ms = (ms ≡ []) × (ok ≡ true)

-- whether a page is changed once its write that was in flight was made
abbrev pub is_changed_then : Request → Bool → Bool
is_changed_then q changed = if is_write q then is_again q else changed

-- a write of a frame that was in flight, if one was, has ended
pub record EndsFlight (b : Block) (f : Frame) (ok : Bool) (s z : StateOf) : Type 0 where
  pub moves : List Move
  pub are : EndedIf (is_write (record_at s.life.frames f.0).request) ok f moves
  pub writes : WritesBack b ok moves s z
  pub backed : backing_of_frame z f ≡ backing.Block b
  pub still : ok ≡ true → is_write (record_at z.life.frames f.0).request ≡ false
  pub changed : ok ≡ true →
      (record_at z.life.frames f.0).changed ≡ is_changed_then (record_at s.life.frames f.0).request
      (record_at s.life.frames f.0).changed

-- a page that was changed is written
pub record WritesChanged (b : Block) (f : Frame) (ok : Bool) (s z : StateOf) : Type 0 where
  pub moves : List Move
  pub are : WrittenIf (record_at s.life.frames f.0).changed ok f moves
  pub writes : WritesBack b ok moves s z
  pub backed : backing_of_frame z f ≡ backing.Block b
  pub clean : ok ≡ true → (record_at z.life.frames f.0).changed ≡ false

-- a page in a frame is flushed
pub record FlushesFrame (b : Block) (f : Frame) (ok : Bool) (s z : StateOf) : Type 0 where
  pub moves : List Move
  pub are : FlushMoves (record_at s.life.frames f.0) f moves
  pub ends : ends_lost moves ≡ not ok
  pub writes : WritesBack b ok moves s z
  pub backed : backing_of_frame z f ≡ backing.Block b
  pub clean : ok ≡ true → (record_at z.life.frames f.0).changed ≡ false

-- a page is flushed: where that succeeded, its block is where its bytes stand
pub record FlushedOnePage (k : Key) (b : Block) (ok : Bool) (s z : StateOf) : Type 0 where
  pub moves : List Move
  pub writes : WritesBack b ok moves s z
  pub page : FlushedAt s.life (s.life.stands k) moves
  pub ends : ends_lost moves ≡ not ok
  pub clean : ok ≡ true → stored_of z.life (z.life.stands k) ≡ held.Block b
