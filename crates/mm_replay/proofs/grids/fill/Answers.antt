use Rattle.std.proofs.Common.{arith}
use Rattle.mm_replay.proofs.{resized}
use Rattle.mm_replay.proofs.grids.fill.Goals as goal

pub returns-in_ok-resize-clause-same : goal.returns-in_ok-resize-clause-same
returns-in_ok-resize-clause-same g c = λ i. resized c.args.leaf.now.items c.resize.new.self.items _ c.in_ok-resize.ensures.items (omega (arith, c.args.leaf.now.ok.0)) i
