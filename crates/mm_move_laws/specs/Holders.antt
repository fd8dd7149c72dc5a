-- What holds a page-file slot.
-- Profile, "Logs of moves".
use Rattle.std.specs.Prelude.{ℕ, Option}
use Rattle.mm_types.specs.{Key, Held}
use Rattle.mm_move_rules.specs.{FrameTable, record_at, slot_of, FrameLife, slot_at}

-- a key without a frame, by its home; a frame, with an owner or without, by its backing
pub data Holder : Type 0 where
  Home : Key → Holder
  Behind : ℕ → Holder

abbrev pub holding : FrameTable → (Key → Held) → Holder → Option ℕ
holding d stands (Home k) = slot_at (stands k)
holding d stands (Behind f) = slot_of (record_at d f).backing

-- the slot that it holds, if any
abbrev pub slot_held : FrameLife → Holder → Option ℕ
slot_held l = holding l.frames l.stands
