-- The state of a replay that a running check stands at.
-- Profile, "Logs of moves".
use Rattle.mm_move_rules.specs.{FrameLife}
use Rattle.mm_replay.specs.declared.lives.Life.{Life}
use Rattle.mm_replay.specs.Replaying.{life as state_life}

abbrev pub life : Life → FrameLife
life c = state_life c.state
