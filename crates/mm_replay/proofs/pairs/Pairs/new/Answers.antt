use Rattle.mm_replay.specs.{in_leaves, mapped}
use Rattle.mm_replay.proofs.{nothing_found, mapped_none}
use Rattle.mm_replay.proofs.pairs.Pairs.new.Goals as goal

pub returns : goal.returns
returns g c = nothing_found (in_leaves c.new.result.leaves.items) (mapped c.new-2.result) c.new.ensures (mapped_none c.new-2.result c.new-2.ensures.empty)
