use Rattle.std.proofs.Common.{◌<◌, ◌/◌, length, arith}
use Rattle.mm_replay.specs.{in_leaves}
use Rattle.mm_replay.proofs.{on_ok_then, same_twice, full_keeps, full_place}
use Rattle.mm_replay.proofs.grids.Grid.make_place.Goals as goal

pub returns-clause-same : goal.returns-clause-same
returns-clause-same g c =
    let mid = c.add_leaves.new.leaves.items in
    let range : c.args.n / 256 < length mid = omega (arith, c.in_ok-add_leaves.ensures.there, c.add_leaves.new.leaves.ok.0) in
    same_twice (in_leaves c.args.self.now.leaves.items) (in_leaves mid) _ c.in_ok-add_leaves.ensures.same
    (full_keeps mid c.args.n c.fill.new.leaf range c.index_mut-leaf.result.now c.index_mut-leaf.ensures.value c.fill.ensures.same)

pub returns-clause-place : goal.returns-clause-place
returns-clause-place g c =
    let mid = c.add_leaves.new.leaves.items in
    let range : c.args.n / 256 < length mid = omega (arith, c.in_ok-add_leaves.ensures.there, c.add_leaves.new.leaves.ok.0) in
    on_ok_then c.fill.result (λ whole. full_place mid c.args.n c.fill.new.leaf range (omega (arith, whole, c.fill.new.leaf.ok.0))) c.fill.ensures.whole
