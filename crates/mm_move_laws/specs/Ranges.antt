-- The numbers of a machine and of processes.
-- Profile, "Logs of moves".
use Rattle.std.specs.Prelude.{◌≡◌, ◌≤◌, true, length}
use Rattle.mm_types.specs.{IsMachine}
use Rattle.mm_move_rules.specs.{FrameLife, is_touch}

pub record InRange (l : FrameLife) : Type 0 where
  -- from line 1 on the machine's numbers are in range
  pub machine : 1 ≤ l.line → IsMachine l.machine
  -- an access, plain or of a thread, comes after line 1
  pub begun : is_touch l.kind ≡ true → 1 ≤ l.line
  -- a process has a pid up to 64
  pub sets : length l.sets ≤ 64
