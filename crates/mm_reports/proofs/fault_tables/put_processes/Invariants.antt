use Rattle.std.proofs.Common.{◌≡◌, ◌++◌}
use Rattle.std.specs.Prelude.{flat_map}
use Rattle.mm_reports.specs.{process_rows}
use Rattle.mm_reports.proofs.fault_tables.put_processes.Given as goal

abbrev pub invariant-loop-pid : goal.invariant-loop-pid
invariant-loop-pid l = l.text.items ++ flat_map (process_rows l.style l.pages.entries) l.pid-iterator ≡ l.fn.text.items ++ flat_map (process_rows l.style l.pages.entries) l.processes.entries
