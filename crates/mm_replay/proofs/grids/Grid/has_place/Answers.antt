use Rattle.std.proofs.Common.{◌∙◌, arith}
use Rattle.mm_replay.proofs.{no_place, place_tested}
use Rattle.mm_replay.proofs.grids.Grid.has_place.Goals as goal

pub returns-then-leaf-count : goal.returns-then-leaf-count
returns-then-leaf-count g c = no_place c.args.self.now.leaves.items c.args.n (omega (arith, c.args.self.now.leaves.ok.0))

pub returns : goal.returns
returns g c =
    place_tested c.args.self.now.leaves.items c.args.n c.index.result.now (omega (arith, c.args.self.now.leaves.ok.0)) c.index.ensures
    c.len.result (c.len.ensures ∙ c.index.result.now.ok.0)
