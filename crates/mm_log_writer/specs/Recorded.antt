-- When a recorder of moves has failed.
-- Profile, "Logs of moves".
use Rattle.std.specs.Prelude.{◌≡◌, ℕ, Bool, true, false, Option}
use Rattle.mm_types.specs.{Text, Appended}
use Rattle.mm_io.specs.{IsCut}
use Rattle.mm_move_rules.specs.{Log}

-- The log has failed exactly where it had before, or the sink failed in this text: where the bytes
-- are told, exactly where not all of the text came after them.
pub record FailsExactly (old new : Log) (text : Text) : Type 0 where
  pub cut : new.failed ≡ true → IsCut old.bytes new.bytes text
  pub fresh : new.failed ≡ false → old.failed ≡ false
  pub whole : new.failed ≡ false → Appended old.bytes new.bytes text

-- a log by what a sink tells and whether writing has failed
abbrev pub log_of : Option Text → Option Text → Bool → ℕ → Log
log_of bytes given failed faults =
    record { bytes = bytes; given = given; failed = failed; faults = faults }
