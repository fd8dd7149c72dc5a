use Rattle.mm_replay.proofs.{none_in}
use Rattle.mm_replay.proofs.grids.Grid.new.Goals as goal

pub returns : goal.returns
returns g c = λ n. none_in n c.new.result.items c.new.ensures.items
