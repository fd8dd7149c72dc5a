use Rattle.std.proofs.Common.{Some, None, sym, ◌∙◌}
use Rattle.mm_replay.specs.{in_leaves, near_part}
use Rattle.mm_replay.proofs.{part_of, near_sets, none_removed}
use Rattle.mm_replay.proofs.pairs.remove_near.Goals as goal

pub returns-in-Some-clause-value : goal.returns-in-Some-clause-value
returns-in-Some-clause-value g c =
    c.remove.ensures.value ∙ sym (part_of (in_leaves c.args.near.now.leaves.items) c.args.a c.args.b (Some c.in-Some.n) (sym c.near_number.ensures ∙ c.in-Some.is))

pub returns-in-Some-clause-removed : goal.returns-in-Some-clause-removed
returns-in-Some-clause-removed g c =
    near_sets c.args.a c.args.b c.in-Some.n (in_leaves c.args.near.now.leaves.items) (in_leaves c.remove.new.self.leaves.items) None (sym c.near_number.ensures ∙ c.in-Some.is) c.remove.ensures.removed

pub returns-in-None-clause-value : goal.returns-in-None-clause-value
returns-in-None-clause-value g c =
    sym (part_of (in_leaves c.args.near.now.leaves.items) c.args.a c.args.b None (sym c.near_number.ensures ∙ c.in-None.is))

pub returns-in-None-clause-removed : goal.returns-in-None-clause-removed
returns-in-None-clause-removed g c =
    none_removed (near_part (in_leaves c.args.near.now.leaves.items)) c.args.a c.args.b
    (part_of (in_leaves c.args.near.now.leaves.items) c.args.a c.args.b None (sym c.near_number.ensures ∙ c.in-None.is))
