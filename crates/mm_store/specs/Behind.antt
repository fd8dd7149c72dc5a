-- What stands behind a store that pages: the log of its moves, the life of its frames, ages, what
-- threads wait for.
use Rattle.std.specs.Prelude.{ℕ, false, List, [], None}
use Rattle.mm_types.specs.{Place}
use Rattle.mm_move_rules.specs.{FrameLife, unstarted, Log, Waiting, Idle}
use Rattle.mm_world.specs.{Page}

pub record Behind : Type 0 where
  -- the bytes that the moves' sink took, where told; whether it failed; its count of faults
  pub log : Log
  -- the state of the replay
  pub life : FrameLife
  -- of each valid place its age; 0 of a place that is not valid
  pub ages : Place → ℕ
  -- of each thread, by its number
  pub waits : ℕ → Waiting
  -- what the paging device holds, slot by slot
  pub slots : List Page

-- of a store that pages nothing
abbrev pub nothing_behind : Behind
nothing_behind = record {
  log = record { bytes = None; given = None; failed = false; faults = 0 };
  life = unstarted;
  ages = λ _. 0;
  waits = λ _. Idle;
  slots = [];
}
