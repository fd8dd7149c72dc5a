-- What became of the source and the sink of a run, by its status.
-- Profile, "Logs of moves".
use Rattle.std.specs.Prelude.{◌≡◌, ◌≢◌, ◌≤◌, ℕ}
use Rattle.mm_types.specs.{Rose}
use Rattle.mm_io.specs.{SinkSeen}
use Rattle.mm_log_check.specs.Exact.{IsFaultStatus}

-- A count of faults beside the status that blames it: it never falls, and is blamed where it rose,
-- and only there.
pub record Blames (fault before now status : ℕ) : Type 0 where
  pub later : before ≤ now
  pub rose : status ≡ fault → Rose before now
  pub same : status ≢ fault → now ≡ before

-- A sink whose count 5 blames; but with the statuses with which some is withheld it has given on
-- all that it took.
pub record WritesText (withheld : ℕ → Type 0) (a b : SinkSeen) (status : ℕ) : Type 0 where
  pub counts : Blames 5 a.faults b.faults status
  pub gave : (withheld status → ⊥) → b.gave ≡ b.took

-- The count of faults of a log's source: it never falls, and with a status that blames nothing it
-- is as it was.
pub record ReadsLog (before now status : ℕ) : Type 0 where
  pub later : before ≤ now
  pub same : (IsFaultStatus status → ⊥) → now ≡ before
