use Rattle.std.proofs.Common.{sym, ap, ◌∙◌}
use Rattle.mm_script.specs.{is_machine}
use Rattle.mm_run.proofs.readings.later_event.Goals as goal

pub returns-then-is_machine-clause-refused : goal.returns-then-is_machine-clause-refused
returns-then-is_machine-clause-refused c = λ e line.
    let written = c.parse_into.ensures.only e line in
    ap is_machine (sym written.1) ∙ sym c.if-is_machine.ensures

pub returns-then-is_machine_word-clause-refused : goal.returns-then-is_machine_word-clause-refused
returns-then-is_machine_word-clause-refused c = λ e line. absurd (c.in-Err.ensures.none e line)

pub returns-else-is_machine_word-clause-refused : goal.returns-else-is_machine_word-clause-refused
returns-else-is_machine_word-clause-refused c = λ e line. absurd (c.in-Err.ensures.none e line)
