-- Where page frames stand.
-- Profile, "Logs of moves".
use Rattle.std.specs.Prelude.{◌≡◌, ℕ, ◌+◌, true, false, is_some, None}
use Rattle.mm_types.specs.{Counts, Record}
use Rattle.mm_move_rules.specs.{FrameTable, record_at, has_request, slot_of, is_active, is_in_transition}
use Rattle.mm_move_laws.specs.Tally.{one_if, times}
use Rattle.mm_move_laws.specs.Fits.{is_backed}

-- in how many places a frame stands: so often on the four lists, active, in transition
abbrev pub standings : FrameTable → ℕ → ℕ
standings d f =
    times f d.zeroed + times f d.free + times f d.standby + times f d.modified
    + one_if (is_active (record_at d f)) + one_if (is_in_transition (record_at d f))

-- the six counts of frames
abbrev pub counted_frames : Counts → ℕ
counted_frames c = c.zeroed + c.free + c.standby + c.modified + c.active + c.transition

-- a frame that can be stolen: its page lives, is valid nowhere, and stands unchanged on a device
pub record IsStandby (r : Record) : Type 0 where
  pub owned : is_some r.owner ≡ true
  pub unshared : r.shares ≡ 0
  pub quiet : has_request r.request ≡ false
  pub unchanged : r.changed ≡ false
  pub backed : is_backed r.backing ≡ true

-- a frame that can be written: its page lives, is valid nowhere, and was changed; it has no slot
pub record IsModified (r : Record) : Type 0 where
  pub owned : is_some r.owner ≡ true
  pub unshared : r.shares ≡ 0
  pub quiet : has_request r.request ≡ false
  pub changed : r.changed ≡ true
  pub slotless : slot_of r.backing ≡ None
