use Rattle.std.proofs.Common.{Some}
use Rattle.mm_types.proofs.{on_err}
use Rattle.mm_replay.specs.{in_leaves}
use Rattle.mm_replay.proofs.{set_after}
use Rattle.mm_replay.proofs.grids.Grid.set.Goals as goal

pub returns-clause-ok : goal.returns-clause-ok
returns-clause-ok g c =
    set_after (in_leaves c.args.self.now.leaves.items) (in_leaves c.make_place.new.self.leaves.items) (in_leaves c.put.new.self.leaves.items) c.args.n (Some c.args.value)
    c.in_ok-make_place.ensures.same c.put.ensures

pub returns-in_err-make_place-clause-err : goal.returns-in_err-make_place-clause-err
returns-in_err-make_place-clause-err g c = on_err c.from_residual.result c.in_err-make_place.ensures.same
