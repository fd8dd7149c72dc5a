-- The bytes of keys in a state, and what changes of them.
-- Profile, "Logs of moves".
use Rattle.std.specs.Prelude.{◌≡◌, ℕ, Bool, true, false, List, Option, slice_set}
use Rattle.mm_types.specs.{Key, Backing, Record, Request, LineKind}
use Rattle.mm_types.specs.declared.frames.Backing.TheVariants as backing
use Rattle.mm_types.specs.declared.frames.Request.TheVariants as request
use Rattle.mm_types.specs.declared.moves.LineKind.TheVariants as kind
use Rattle.mm_move_rules.specs.{FrameLife, changed, same_key, FrameBytes, BlockBytes, contents_of, BytesLocated}
use Rattle.mm_move_laws.specs.{ReachedByMoves}

-- the bytes are located in this state, and the keys have these contents
pub record Carries (l : FrameLife) (ram : FrameBytes) (slots blocks : BlockBytes)
    (contents : Key → Option (List ℕ)) : Type 0 where
  pub located : BytesLocated l ram slots blocks
  pub bytes : contents_of l ram slots blocks ≡ contents

-- the blocks of the two devices, once a page was written to where a frame is backed
abbrev pub slots_written : Backing → List ℕ → BlockBytes → BlockBytes
slots_written backing.None page slots = slots
slots_written (backing.Slot s) page slots = slice_set slots s.0 page
slots_written (backing.Block b) page slots = slots

abbrev pub blocks_written : Backing → List ℕ → BlockBytes → BlockBytes
blocks_written backing.None page blocks = blocks
blocks_written (backing.Slot s) page blocks = blocks
blocks_written (backing.Block b) page blocks = slice_set blocks b.0 page

-- a page that can be written: its frame is changed, and is not being written, or is to be written
-- again
abbrev pub is_calm : Request → Bool
is_calm request.None = true
is_calm request.Read = false
is_calm request.Write = false
is_calm request.WriteAgain = true

pub record IsSoiled (r : Record) : Type 0 where
  pub changed : r.changed ≡ true
  pub calm : is_calm r.request ≡ true

-- further slots
abbrev pub slots_grown : LineKind → ℕ
slots_grown (kind.Machine frames slots depth blocks) = 0
slots_grown (kind.Process pid min max) = 0
slots_grown (kind.Unbind pid) = 0
slots_grown (kind.Access pid) = 0
slots_grown (kind.Thread pid) = 0
slots_grown (kind.Trim pid) = 0
slots_grown kind.Writer = 0
slots_grown kind.Zeroer = 0
slots_grown kind.Io = 0
slots_grown kind.Call = 0
slots_grown (kind.Grow n) = n

-- a state that legal moves reach, in which the bytes are located
pub record HoldsBytes (l : FrameLife) (ram : FrameBytes) (slots blocks : BlockBytes) : Type 0 where
  pub reached : ∥ ReachedByMoves l ∥₁
  pub located : BytesLocated l ram slots blocks

-- this leaves the bytes of every key
abbrev pub KeepsBytes : FrameLife → FrameBytes → BlockBytes → BlockBytes → FrameLife → FrameBytes →
    BlockBytes → BlockBytes → Type 0
KeepsBytes l ram slots blocks m ram' slots' blocks' =
    Carries m ram' slots' blocks' (contents_of l ram slots blocks)

-- and this changes those of one key
abbrev pub SetsBytes : FrameLife → FrameBytes → BlockBytes → BlockBytes → Key → Option (List ℕ) →
    FrameLife → FrameBytes → Type 0
SetsBytes l ram slots blocks k v m ram' =
    Carries m ram' slots blocks (changed same_key (contents_of l ram slots blocks) k v)
