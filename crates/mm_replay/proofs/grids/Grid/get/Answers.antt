use Rattle.std.proofs.Common.{sym, arith}
use Rattle.mm_replay.proofs.{place_within, place_in, value_is, none_placed}
use Rattle.mm_replay.proofs.grids.Grid.get.Goals as goal

pub index-requires : goal.index-requires
index-requires g c = omega (arith, place_within c.args.self.now.leaves.items c.args.n (c.has_place.ensures.0 c.if-has_place.true), c.args.self.now.leaves.ok.0)

pub index-requires-then-has_place : goal.index-requires-then-has_place
index-requires-then-has_place g c =
    let place = c.has_place.ensures.0 c.if-has_place.true in
    omega (arith, place_in c.args.self.now.leaves.items c.args.n c.index.result.now (place_within c.args.self.now.leaves.items c.args.n place) c.index.ensures place, c.index.result.now.ok.0)

pub returns-then-has_place : goal.returns-then-has_place
returns-then-has_place g c =
    value_is c.args.self.now.leaves.items c.args.n c.index.result.now c.index-then-has_place.result.now (c.has_place.ensures.0 c.if-has_place.true) c.index.ensures c.index-then-has_place.ensures

pub returns-else-has_place : goal.returns-else-has_place
returns-else-has_place g c = sym (none_placed c.args.self.now.leaves.items c.args.n c.has_place.result c.has_place.ensures c.if-has_place.false)
