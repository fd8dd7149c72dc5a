use Rattle.std.proofs.Common.{◌≡◌, ◌++◌}
use Rattle.std.specs.Prelude.{flat_map}
use Rattle.mm_reports.specs.{page_row}
use Rattle.mm_reports.proofs.fault_tables.put_page_rows.Given as goal

abbrev pub invariant-loop-place : goal.invariant-loop-place
invariant-loop-place l = l.text.items ++ flat_map (page_row l.style l.pid) l.place-iterator ≡ l.fn.text.items ++ flat_map (page_row l.style l.pid) l.pages.entries
