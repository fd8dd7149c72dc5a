use Rattle.mm_move_laws.proofs.{unmap_settles}
use Rattle.mm_move_laws.proofs.ends.unmaps_settle_one_frame.Goals as goal

pub returns : goal.returns
returns c = λ l s place f. unmap_settles l s f place
