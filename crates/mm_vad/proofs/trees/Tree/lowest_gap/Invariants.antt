use Rattle.std.proofs.Common.{◌≡◌, ◌-◌, ◌≤◌}
use Rattle.mm_types.specs.{end_of_user_pages}
use Rattle.mm_vad.specs.{first_fit, IsShaped, VisitsAtMost}
use Rattle.mm_vad.proofs.trees.Tree.lowest_gap.Given as goal

abbrev pub invariant-loop-node : goal.invariant-loop-node
invariant-loop-node g l = record {
  within : l.from ≤ end_of_user_pages;
  same : first_fit l.from l.tree.ranges l.to l.n ≡ first_fit l.low l.self.ranges l.high l.n;
  shaped : IsShaped l.tree → IsShaped l.self;
  lower : l.tree.height ≤ l.self.height;
  few : VisitsAtMost g.L.Ledger.stepped l.fn.steps.ledger l.steps.ledger (l.self.height - l.tree.height);
}

abbrev pub decreases-loop-node : goal.decreases-loop-node
decreases-loop-node g l = l.tree.height
