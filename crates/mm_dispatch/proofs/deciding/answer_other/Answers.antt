use Rattle.std.proofs.Common.{rules}
use Rattle.mm_dispatch.proofs.deciding.answer_other.Goals as goal

pub returns-in-Ok : goal.returns-in-Ok
returns-in-Ok g c = search (rules, c.in-Ok.ensures)

pub returns-in-Err : goal.returns-in-Err
returns-in-Err g c = search (rules, c.in-Err.ensures)
