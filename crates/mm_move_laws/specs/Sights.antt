-- What is seen of one frame: its record, and how often it stands on each list; and that it stands
-- where its record says. Profile, "Logs of moves".
use Rattle.std.specs.Prelude.{◌≡◌, ◌+◌, ℕ, not, ◌&&◌, if◌then◌else◌, nat_lt, is_some, List, length}
use Rattle.mm_types.specs.{Record}
use Rattle.mm_move_rules.specs.{FrameTable, record_at, has_request, is_idle}
use Rattle.mm_move_laws.specs.Tally.{one_if, times}
use Rattle.mm_move_laws.specs.Fits.{is_kept, Fit}

pub record Sight : Type 0 where
  pub what : Record
  -- 1 for a frame of the machine, else 0
  pub inside : ℕ
  pub zeroed : ℕ
  pub free : ℕ
  pub standby : ℕ
  pub modified : ℕ
  pub flight : ℕ

abbrev pub sight : FrameTable → List ℕ → ℕ → Sight
sight d flight f = record {
  what = record_at d f;
  inside = one_if (nat_lt f (length d.records));
  zeroed = times f d.zeroed;
  free = times f d.free;
  standby = times f d.standby;
  modified = times f d.modified;
  flight = times f flight;
}

-- a frame stands where its record says
pub record Stand (s : Sight) : Type 0 where
  pub fresh : s.zeroed + s.free ≡ if is_kept s.what then 0 else s.inside
  pub standby : s.standby ≡ one_if (is_some s.what.owner && (is_idle s.what && not s.what.changed))
  pub modified : s.modified ≡ one_if (is_some s.what.owner && (is_idle s.what && s.what.changed))
  pub flight : s.flight ≡ one_if (has_request s.what.request)
  pub fit : Fit s.what

-- each frame stands where its record says, and the requests in flight are those of the records
abbrev pub FramesStand : FrameTable → List ℕ → Type 0
FramesStand d q = (f : ℕ) → Stand (sight d q f)
