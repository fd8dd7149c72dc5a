use Rattle.mm_script.proofs.Laws.{one_event}
use Rattle.mm_script.proofs.reading.one_event.Goals as goal

pub returns : goal.returns
returns c = one_event
