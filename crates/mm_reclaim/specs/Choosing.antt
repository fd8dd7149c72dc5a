-- Which place a search unmaps, as the code finds it.
-- Profile, "Which frame moves, and when".
use Rattle.std.specs.Prelude.{◌≡◌, ◌<◌, ◌-◌, ◌+◌, ◌*◌, ℕ, true, false, is_some, Option, Some, None}
use Rattle.mm_types.specs.{Frame, Pid, Vpn, Place}
use Rattle.mm_move_rules.specs.{FrameLife, Ages, may_go}
use Rattle.mm_page_tables.specs.{place_from}

-- no page of the process may go
abbrev pub NoneIn : FrameLife → Option Frame → ℕ → Type 0
NoneIn l pinned pid = (q : Place) → q.pid.0 ≡ pid → may_go l pinned q ≡ false

-- a page of the process that is valid, if one is given
abbrev pub IsValidPage : FrameLife → Pid → Option Vpn → Type 0
IsValidPage l pid None = Unit {0}
IsValidPage l pid (Some v) = is_some (l.valid (place_from pid v)) ≡ true

-- the lower it is, the sooner the page goes
abbrev pub rank : Ages → Pid → Option Vpn → ℕ
rank ages pid None = 0
rank ages pid (Some v) = 4294967296 * (7 - ages (place_from pid v)) + v.0 + 1

abbrev pub IsLow : Option Vpn → Type 0
IsLow None = Unit {0}
IsLow (Some v) = v.0 < 4294967296
