use Rattle.mm_replay.specs.{found_pair}
use Rattle.mm_replay.proofs.{frames_none}
use Rattle.mm_replay.proofs.holdings.Places.new.Goals as goal

pub returns : goal.returns
returns c = frames_none (found_pair c.new.result) c.new.ensures
