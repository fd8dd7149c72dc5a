use Rattle.std.proofs.Common.{◌≡◌, ◌++◌, drop}
use Rattle.std.specs.Prelude.{flat_map}
use Rattle.mm_replay.specs.Standing.{life}
use Rattle.mm_reports.specs.{use_row}
use Rattle.mm_reports.proofs.tables.put_use_rows.Given as goal

abbrev pub invariant-loop-usage : goal.invariant-loop-usage
invariant-loop-usage l = l.text.items ++ flat_map (use_row (life l.life)) (drop l.usage-index l.uses) ≡ l.fn.text.items ++ flat_map (use_row (life l.life)) l.uses
