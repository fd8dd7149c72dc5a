use Rattle.std.proofs.Common.{None, sym, ◌∙◌, arith}
use Rattle.mm_replay.specs.{found_pair}
use Rattle.mm_replay.proofs.{if_none, frames_written, frames_kept}
use Rattle.mm_replay.proofs.holdings.Places.remove.Goals as goal

pub returns-clause-removed : goal.returns-clause-removed
returns-clause-removed c = frames_written (found_pair c.args.self.now.frames) (found_pair c.remove.new.self) c.args.place c.from.result None (omega arith) c.remove.ensures.removed

pub returns-clause-same : goal.returns-clause-same
returns-clause-same c =
    if_none c.remove.result (λ none. frames_kept (found_pair c.args.self.now.frames) (found_pair c.remove.new.self) c.args.place c.from.result c.remove.ensures.removed (sym c.remove.ensures.value ∙ none))
