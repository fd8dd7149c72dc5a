use Rattle.std.proofs.Common.{None, sym, ap, ◌∙◌}
use Rattle.std.specs.Prelude.{is_some}
use Rattle.mm_replay.specs.{in_leaves}
use Rattle.mm_replay.proofs.{place_of_some, set_to_same}
use Rattle.mm_replay.proofs.grids.Grid.remove.Goals as goal

pub put-requires : goal.put-requires
put-requires g c = place_of_some c.args.self.now.leaves.items c.args.n (ap is_some (sym c.get.ensures ∙ c.in_ok-value.was))

pub returns-in_err-value-clause-removed : goal.returns-in_err-value-clause-removed
returns-in_err-value-clause-removed g c = set_to_same (in_leaves c.args.self.now.leaves.items) c.args.n None (sym c.get.ensures ∙ c.in_err-value.was)
