-- A machine's numbers, and how many pages can be committed on it.
-- Profile, "Machine, addresses, limits".
use Rattle.std.specs.Prelude.{ℕ, ◌+◌, ◌-◌, ◌*◌, ◌≤◌}

-- page frames, page-file slots, the most device requests in flight, file blocks
pub record MachineOf : Type 0 where
  pub frames : ℕ
  pub slots : ℕ
  pub depth : ℕ
  pub blocks : ℕ

-- the ranges of a machine's numbers
pub record IsMachine (m : MachineOf) : Type 0 where
  pub least_frames : 6 ≤ m.frames
  pub most_frames : m.frames ≤ 262144
  pub most_slots : m.slots ≤ 262144
  pub least_depth : 1 ≤ m.depth
  pub most_depth : m.depth ≤ 64
  pub most_blocks : m.blocks ≤ 65536
  pub enough_frames : 2 * m.depth + 4 ≤ m.frames

-- frames that stay free for requests and the pages that they need (this profile's own)
abbrev pub reserve_of : MachineOf → ℕ
reserve_of m = 2 * m.depth + 2

-- the commit limit: frames and slots, less the reserve
abbrev pub limit_of : MachineOf → ℕ
limit_of m = (m.frames + m.slots) - reserve_of m
