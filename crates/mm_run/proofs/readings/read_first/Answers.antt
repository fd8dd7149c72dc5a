use Rattle.std.proofs.Common.{◌≡◌, sym, ap, ◌∙◌}
use Rattle.std.specs.Prelude.{Ok}
use Rattle.mm_script.specs.{is_machine}
use Rattle.mm_run.proofs.readings.read_first.Goals as goal

pub returns-else-is_machine-clause-refused : goal.returns-else-is_machine-clause-refused
returns-else-is_machine-clause-refused c = λ e line.
    let same : Ok c.in-Ok.event ≡ Ok e = sym c.in-Ok.is ∙ c.parse_line.ensures.only e line in
    let is : c.in-Ok.event ≡ e = cc in
    ap is_machine (sym is) ∙ sym c.if-is_machine.ensures

pub returns-then-is_machine_word-clause-refused : goal.returns-then-is_machine_word-clause-refused
returns-then-is_machine_word-clause-refused c = λ e line. absurd (c.in-Err.ensures.none e line)

pub returns-else-is_machine_word-clause-refused : goal.returns-else-is_machine_word-clause-refused
returns-else-is_machine_word-clause-refused c = λ e line. absurd (c.in-Err.ensures.none e line)
