-- The table of faults, where some moves were counted and some are to come.
-- Profile, "What a log shows".
use Rattle.std.specs.Prelude.{Bool, List}
use Rattle.mm_types.specs.{Text, Move}
use Rattle.mm_move_rules.specs.{FrameLife}
use Rattle.mm_move_classes.specs.{marks_of}
use Rattle.mm_reports.specs.Tallies.{FaultTally, tally_from}
use Rattle.mm_reports.specs.FaultRows.{tally_said}
use Rattle.mm_reports.specs.declared.counters.Counters.{Counters}
use Rattle.mm_reports.specs.declared.faults.FaultTeller.{FaultTeller}

abbrev pub tally_of : Counters → FaultTally
tally_of c = record {
  pages = c.pages.entries;
  processes = c.processes.entries;
  paging_file = c.paging_file;
  files = c.files;
  zero_fills = c.zero_fills;
  hard = c.hard;
  soft = c.soft;
  first_uses = c.first_uses;
}

abbrev pub fault_rest : FaultTeller → Bool → FrameLife → List Move → Text
fault_rest t whole l ms =
    tally_said t.style whole (tally_from (tally_of t.counters) l (marks_of t.marks) t.before ms)
