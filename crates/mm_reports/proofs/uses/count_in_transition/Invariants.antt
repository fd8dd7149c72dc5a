use Rattle.std.proofs.Common.{◌≡◌, ◌+◌, ◌≤◌, drop}
use Rattle.std.specs.Prelude.{count_by, filter}
use Rattle.mm_move_rules.specs.{is_in_transition}
use Rattle.mm_replay.specs.Standing.{life}
use Rattle.mm_reports.specs.{is_use}
use Rattle.mm_reports.proofs.uses.count_in_transition.Given as goal

abbrev pub invariant-loop-r : goal.invariant-loop-r
invariant-loop-r l = record {
  few : l.count ≤ l.r-index;
  rest : l.count + count_by (is_use (life l.life) l.usage) (filter is_in_transition (drop l.r-index l.records)) ≡ count_by (is_use (life l.life) l.usage) (filter is_in_transition l.records);
}
