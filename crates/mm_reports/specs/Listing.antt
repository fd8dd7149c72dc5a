-- The four lists of frames, read out.
-- Profile, "What a log shows".
use Rattle.std.specs.Prelude.{◌≡◌, ◌<◌, ◌^◌, length, count_by}
use Rattle.mm_move_rules.specs.{FrameTable, is_active, is_in_transition}
use Rattle.mm_reports.specs.declared.lists.FrameLists.{FrameLists}

-- these are the frames on the lists, the one that stands there longest first
pub record AreListsOf (d : FrameTable) (s : FrameLists) : Type 0 where
  pub zeroed : s.zeroed.items ≡ d.zeroed
  pub free : s.free.items ≡ d.free
  pub standby : s.standby.items ≡ d.standby
  pub modified : s.modified.items ≡ d.modified

-- no count of frames is too great for 32 bits
pub record AreFew (d : FrameTable) : Type 0 where
  pub zeroed : length d.zeroed < 2 ^ 32
  pub free : length d.free < 2 ^ 32
  pub standby : length d.standby < 2 ^ 32
  pub modified : length d.modified < 2 ^ 32
  pub active : count_by is_active d.records < 2 ^ 32
  pub transition : count_by is_in_transition d.records < 2 ^ 32
