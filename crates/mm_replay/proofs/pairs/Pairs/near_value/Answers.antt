use Rattle.std.proofs.Common.{Some, None, sym, ◌∙◌}
use Rattle.mm_replay.specs.{in_leaves}
use Rattle.mm_replay.proofs.{part_of}
use Rattle.mm_replay.proofs.pairs.Pairs.near_value.Goals as goal

pub returns-in-Some : goal.returns-in-Some
returns-in-Some g c =
    c.get.ensures ∙ sym (part_of (in_leaves c.args.self.now.near.leaves.items) c.args.a c.args.b (Some c.in-Some.n) (sym c.near_number.ensures ∙ c.in-Some.is))

pub returns-in-None : goal.returns-in-None
returns-in-None g c =
    sym (part_of (in_leaves c.args.self.now.near.leaves.items) c.args.a c.args.b None (sym c.near_number.ensures ∙ c.in-None.is))
