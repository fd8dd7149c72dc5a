use Rattle.std.proofs.Common.{◌≡◌, sym, subst, arith}
use Rattle.mm_types.specs.{first_user_page}
use Rattle.mm_vad.specs.{LieApart, remove_range}
use Rattle.mm_vad.proofs.{apart_from_below, length-apart, remove_apart}
use Rattle.mm_vad.proofs.gaps.Gaps.remove.Goals as goal

pub remove-node-requires-clause-apart : goal.remove-node-requires-clause-apart
remove-node-requires-clause-apart c = apart_from_below 0 first_user_page c.self.inside.tree.ranges (omega arith) c.self.invariant

pub remove-node-requires-clause-few : goal.remove-node-requires-clause-few
remove-node-requires-clause-few c = omega (arith, length-apart first_user_page c.self.inside.tree.ranges (omega arith) c.self.invariant)

pub returns-clause-apart : goal.returns-clause-apart
returns-clause-apart c =
    let is : c.remove-node.new.self.ranges ≡ remove_range c.args.first.0 c.self.inside.tree.ranges = c.remove-node.ensures.is in
    subst (LieApart first_user_page) (sym is) (remove_apart first_user_page c.args.first.0 c.self.inside.tree.ranges c.self.invariant)

pub invariant_of-self : goal.invariant_of-self
invariant_of-self c = returns-clause-apart c
