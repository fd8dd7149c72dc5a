-- The block of a file that a key stands on.
-- Profile, "Logs of moves".
use Rattle.std.specs.Prelude.{◌≡◌, ◌<◌, ℕ, true, Option, Some, None}
use Rattle.mm_types.specs.{Key, Backing, Held}
use Rattle.mm_types.specs.declared.frames.Backing.TheVariants as backing
use Rattle.mm_types.specs.declared.frames.Held.TheVariants as held
use Rattle.mm_move_rules.specs.{FrameTable, record_at, FrameLife}

abbrev pub block_of : Backing → Option ℕ
block_of backing.None = None
block_of (backing.Slot s) = None
block_of (backing.Block b) = Some b.0

abbrev pub block_in : FrameTable → Held → Option ℕ
block_in d (held.Frame f) = block_of (record_at d f.0).backing
block_in d (held.Slot s) = None
block_in d (held.Block b) = Some b.0
block_in d held.Zero = None
block_in d held.Dead = None

-- the block of a key: its home, or the backing of its frame
abbrev pub block_held : FrameLife → Key → Option ℕ
block_held l k = block_in l.frames (l.stands k)

-- a block that is there, and that a key was added with
pub record IsAdded (l : FrameLife) (b : ℕ) : Type 0 where
  pub there : b < l.machine.blocks
  pub added : l.added b ≡ true
