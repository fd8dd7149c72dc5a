use Rattle.std.proofs.Common.{arith}
use Rattle.mm_replay.proofs.{place_within, place_in, put_sets}
use Rattle.mm_replay.proofs.grids.Grid.put.Goals as goal

pub index_mut-leaf-requires : goal.index_mut-leaf-requires
index_mut-leaf-requires g c = omega (arith, place_within c.args.self.now.leaves.items c.args.n c.requires, c.args.self.now.leaves.ok.0)

pub index_mut-requires : goal.index_mut-requires
index_mut-requires g c =
    omega (arith, place_in c.args.self.now.leaves.items c.args.n c.index_mut-leaf.result.now (place_within c.args.self.now.leaves.items c.args.n c.requires) c.index_mut-leaf.ensures.value c.requires, c.index_mut-leaf.result.now.ok.0)

pub returns : goal.returns
returns g c = put_sets c.args.self.now.leaves.items c.args.n c.index_mut-leaf.result.now c.args.value c.requires c.index_mut-leaf.ensures.value
