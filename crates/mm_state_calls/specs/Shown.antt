-- What a machine's joined state shows to the store of pages above it, and what its calls make of
-- that. Profile, "Which frame moves, and when".
use Rattle.std.specs.Prelude.{◌≡◌, ◌<◌, ◌⊎◌, ℕ, Bool, true, false, List, [], ◌∷◌, Option, None}
use Rattle.mm_types.specs.{Direction, Frame, Key, Place, Backing, Move}
use Rattle.mm_types.specs.declared.devices.Direction.TheVariants as way
use Rattle.mm_types.specs.declared.frames.Backing.TheVariants as backing
use Rattle.mm_types.specs.declared.moves.Move.TheVariants as move
use Rattle.mm_move_rules.specs.{record_at, FrameLife, IsLegal, after_move, Log}
use Rattle.mm_move_rules.specs.{Grew, AreMoves, spelled_moves, Waiting, waits_after, ages_after, BlockBytes}
use Rattle.mm_devices.specs.{is_next_named, DeviceOf, Serves, CallFailed, KeepsOthers}
use Rattle.mm_frame_laws.specs.{slots_written, blocks_written}
use Rattle.mm_store.specs.{told_after, none_told, paging_traffic, file_traffic}
use Rattle.mm_store.specs.Told.{Told}

pub record StateOf : Type 0 where
  -- the state of the replay, and the log
  pub life : FrameLife
  pub log : Log
  -- the device calls of the line
  pub told : Told
  -- the bytes of each live key
  pub contents : Key → Option (List ℕ)
  -- the age of each valid place, 0 of a place that is not valid
  pub ages : Place → ℕ
  -- what each thread waits for
  pub waits : ℕ → Waiting
  -- the open processes, the bound places, and how many pages each open area has
  pub is_open : ℕ → Bool
  pub bound : Place → Bool
  pub areas : ℕ → Option ℕ
  -- the key last used at each place
  pub names : Place → Option Key
  -- the one private key, by its place, whose entry stands beside the tables
  pub aside : Option Place
  -- the line's own request, the youngest
  pub own : Option Frame
  -- the devices, and the blocks of each
  pub paging : DeviceOf
  pub files : DeviceOf
  pub slots : List (List ℕ)
  pub blocks : List (List ℕ)

-- ---- one move

-- the one call of a device for a backing, with this outcome; the other device was not called
abbrev pub CalledFor : Direction → Backing → Bool → DeviceOf → DeviceOf → DeviceOf → DeviceOf →
    Type 0
CalledFor w backing.None ok paging files paging' files' = (paging' ≡ paging) × (files' ≡ files)
CalledFor w (backing.Slot b) ok paging files paging' files' =
    Serves (record {
      way = w;
      block = b.0;
      succeeded = ok;
      named = is_next_named w paging.named;
    }) paging paging' × (files' ≡ files)
CalledFor w (backing.Block b) ok paging files paging' files' =
    Serves (record {
      way = w;
      block = b.0;
      succeeded = ok;
      named = is_next_named w files.named;
    }) files files' × (paging' ≡ paging)

abbrev pub DeviceCalled : Direction → Backing → Bool → StateOf → StateOf → Type 0
DeviceCalled w home ok s z = CalledFor w home ok s.paging s.files z.paging z.files

abbrev pub backing_of_frame : StateOf → Frame → Backing
backing_of_frame s f = (record_at s.life.frames f.0).backing

-- the device call that a move stands for
abbrev pub Calls : Move → StateOf → StateOf → Type 0
Calls (move.Got f) s z = DeviceCalled way.Read (backing_of_frame s f) true s z
Calls (move.Bad f) s z = DeviceCalled way.Read (backing_of_frame s f) false s z
Calls (move.Wrote f) s z = DeviceCalled way.Write (backing_of_frame s f) true s z
Calls (move.Lost f) s z = DeviceCalled way.Write (backing_of_frame s f) false s z
Calls _ s z = (z.paging ≡ s.paging) × (z.files ≡ s.files)

-- one legal move was made, noted and counted
pub record Made (x : Move) (s z : StateOf) : Type 0 where
  pub legal : IsLegal x s.life
  pub life : z.life ≡ after_move s.life x
  pub in_range : AreMoves (x ∷ [])
  pub grew : Grew s.log z.log (spelled_moves (x ∷ []))
  pub ages : z.ages ≡ ages_after x s.ages
  pub waits : z.waits ≡ waits_after x s.waits
  pub told : z.told ≡ told_after s.life x s.told
  pub calls : Calls x s z
  -- a slot or a block that it did not write is as before
  pub slots_kept : KeepsOthers (paging_traffic s.life (x ∷ [])) s.slots z.slots
  pub blocks_kept : KeepsOthers (file_traffic s.life (x ∷ [])) s.blocks z.blocks

-- the blocks of a device, where the write succeeded
abbrev pub written_if : Bool → (BlockBytes → BlockBytes) → BlockBytes → BlockBytes
written_if true write blocks = write blocks
written_if false write blocks = blocks

-- a page was written to where a frame is backed, where the call succeeded
pub record WrotePage (home : Backing) (page : List ℕ) (ok : Bool) (s z : StateOf) : Type 0 where
  pub slots_are : z.slots ≡ written_if ok (slots_written home page) s.slots
  pub blocks_are : z.blocks ≡ written_if ok (blocks_written home page) s.blocks

-- the same for a line in which the paging device grows: what came of that is told apart
pub record GrowBegins (x : Move) (s z : StateOf) : Type 0 where
  pub legal : IsLegal x s.life
  pub life : z.life ≡ after_move s.life x
  pub in_range : AreMoves (x ∷ [])
  pub grew : Grew s.log z.log (spelled_moves (x ∷ []))
  pub ages : z.ages ≡ ages_after x s.ages
  pub waits : z.waits ≡ waits_after x s.waits
  pub told : z.told ≡ none_told

-- a device that was asked to grow, and failed
abbrev pub asked_to_grow : DeviceOf → DeviceOf → DeviceOf
asked_to_grow d e = record d { faults = e.faults }

-- what a move can change, changed
abbrev pub moved : StateOf → StateOf → StateOf
moved s z = record s { life = z.life; log = z.log; told = z.told; ages = z.ages; waits = z.waits }

-- with a call of a device
abbrev pub moved_with_call : StateOf → StateOf → StateOf
moved_with_call s z = record (moved s z) {
  paging = z.paging;
  files = z.files;
  slots = z.slots;
  blocks = z.blocks;
}

-- ---- keys and places

-- a call of one of both devices failed
abbrev pub SomeFault : StateOf → StateOf → Type 0
SomeFault s z = CallFailed s.paging z.paging ⊎ CallFailed s.files z.files

-- each frame is in the request that it was in
abbrev pub KeepsRequests : FrameLife → FrameLife → Type 0
KeepsRequests old new =
    (f : Frame) → (record_at new.frames f.0).request ≡ (record_at old.frames f.0).request
