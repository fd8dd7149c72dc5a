-- What a run shows between two lines.
-- Profile, "A run".
use Rattle.std.specs.Prelude.{◌≡◌, ◌≤◌, ℕ, false, List, Option}
use Rattle.mm_move_rules.specs.{FrameLife, unstarted, Log, GaveOn}
use Rattle.mm_dispatch.specs.{Scene}

-- Before its first line: the counts of faults of both devices, and how the sink of moves stands.
pub record Outset : Type 0 where
  pub paging : ℕ
  pub files : ℕ
  pub log : Log

abbrev pub outset : ℕ → ℕ → Option (List ℕ) → Option (List ℕ) → ℕ → Outset
outset paging files taken given faults = record {
  paging = paging;
  files = files;
  log = record { bytes = taken; given = given; failed = false; faults = faults };
}

-- Before its first line a run has an outset; after it, what its world over a store shows.
pub data Stage : Type 0 where
  NotBegun : Outset → Stage
  Running : Scene → Stage

-- the state of the replay
abbrev pub replay_of : Stage → FrameLife
replay_of (NotBegun o) = unstarted
replay_of (Running s) = s.behind.life

-- how the sink of moves stands
abbrev pub log_of : Stage → Log
log_of (NotBegun o) = o.log
log_of (Running s) = s.behind.log

-- all moves up to here were written
abbrev pub HasNoted : Stage → Type 0
HasNoted s = (log_of s).failed ≡ false

-- after a flush of the moves: these bytes were given on, and so often it has failed
abbrev pub with_flush : Option (List ℕ) → ℕ → Stage → Stage
with_flush given k (NotBegun o) =
    NotBegun (record o { log = record (o.log) { given = given; faults = k } })
with_flush given k (Running s) =
    Running (record s {
      behind = record (s.behind) { log = record (s.behind.log) { given = given; faults = k } };
    })

-- Nothing has changed between two lines, but that a flush may have given on moves, or may have
-- failed.
pub record Follows (old mid : Stage) : Type 0 where
  pub same : mid ≡ with_flush (log_of mid).given (log_of mid).faults old
  pub later : (log_of old).faults ≤ (log_of mid).faults
  pub gave : GaveOn (log_of old) (log_of mid)
