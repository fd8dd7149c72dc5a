use Rattle.std.proofs.Common.{◌≡◌, ◌+◌, ◌≤◌, drop}
use Rattle.std.specs.Prelude.{count_by}
use Rattle.mm_replay.specs.Standing.{life}
use Rattle.mm_reports.specs.{is_use, listed_records}
use Rattle.mm_reports.proofs.uses.count_listed.Given as goal

abbrev pub invariant-loop-frame : goal.invariant-loop-frame
invariant-loop-frame l = record {
  few : l.count ≤ l.frame-index;
  rest : l.count + count_by (is_use (life l.life) l.usage) (listed_records (life l.life) (drop l.frame-index l.frames)) ≡ count_by (is_use (life l.life) l.usage) (listed_records (life l.life) l.frames);
}
