-- What a sink shows.
-- Profile, "A run".
use Rattle.std.specs.Prelude.{ℕ, Option}
use Rattle.mm_types.specs.{Text}
use Rattle.mm_io.specs.declared.Sink.{Ghosts}

-- The bytes that a sink took and those that it gave on, where told, and its count of faults.
pub record SinkSeen : Type 0 where
  pub took : Option Text
  pub gave : Option Text
  pub faults : ℕ

abbrev pub sink_seen : {K : Type 0} → Ghosts K → K → SinkSeen
sink_seen k x = record { took = k.taken x; gave = k.given x; faults = k.faults x }
