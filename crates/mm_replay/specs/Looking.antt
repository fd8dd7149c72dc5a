-- What the readers of a running check tell of its lists.
-- Profile, "Logs of moves".
use Rattle.std.specs.Prelude.{◌≡◌, ℕ, ◌+◌, List, Option, Some, None, option_map, slice_get}
use Rattle.mm_types.specs.{Frame}
use Rattle.mm_move_rules.specs.{FrameTable}
use Rattle.mm_replay.specs.declared.four_lists.FrameList.{FrameList}
use Rattle.mm_replay.specs.declared.four_lists.FrameList.TheVariants as list
use Rattle.mm_replay.specs.Sound.{frame}

-- the frames on a list, the one that stands there longest first
abbrev pub frames_on : FrameTable → FrameList → List ℕ
frames_on d list.Zeroed = d.zeroed
frames_on d list.Free = d.free
frames_on d list.Standby = d.standby
frames_on d list.Modified = d.modified

-- what stands at a place of a list, if anything
abbrev pub frame_at : List ℕ → ℕ → Option Frame
frame_at frames k = option_map frame (slice_get frames k)

-- what stands right after a frame on its list; nothing after the last, nor after a frame that is on
-- none of the lists
pub record IsBehind {A : Type 0} (lists : A → List ℕ) (f : ℕ) (next : Option Frame) : Type 0 where
  pub behind : (j : A) (k : ℕ) → slice_get (lists j) k ≡ Some f → next ≡ frame_at (lists j) (k + 1)
  pub none : ((j : A) (k : ℕ) → slice_get (lists j) k ≡ Some f → ⊥) → next ≡ None
