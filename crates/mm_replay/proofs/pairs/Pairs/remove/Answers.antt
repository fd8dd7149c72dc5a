use Rattle.std.proofs.Common.{None, sym, ◌∙◌, arith}
use Rattle.mm_replay.specs.{in_leaves, mapped, near_part, near_of}
use Rattle.mm_replay.proofs.{chosen, both_removed, mapped_at, mapped_written}
use Rattle.mm_replay.proofs.pairs.Pairs.remove.Goals as goal

pub returns-in-Some-clause-value : goal.returns-in-Some-clause-value
returns-in-Some-clause-value g c =
    let s = c.args.self.now in
    sym (chosen (near_of s) (mapped s.far) c.args.a c.args.b (sym c.remove_near.ensures.value ∙ c.in-Some.is))

pub returns-in-Some-clause-removed : goal.returns-in-Some-clause-removed
returns-in-Some-clause-removed g c =
    let s = c.args.self.now in
    both_removed c.args.a c.args.b (near_of s) (near_part (in_leaves c.remove_near.new.near.leaves.items)) (mapped s.far) (mapped c.remove-far.new.self)
    c.remove_near.ensures.removed
    (mapped_written s.far c.args.a c.args.b c.one_number.result (omega arith) c.one_number.ensures c.remove-far.new.self None c.remove-far.ensures.updates.0)

pub returns-in-None-clause-value : goal.returns-in-None-clause-value
returns-in-None-clause-value g c =
    let s = c.args.self.now in
    c.remove-far.ensures.value
    ∙ sym (chosen (near_of s) (mapped s.far) c.args.a c.args.b (sym c.remove_near.ensures.value ∙ c.in-None.is) ∙ mapped_at s.far c.args.a c.args.b c.one_number.result (omega arith) c.one_number.ensures)

pub returns-in-None-clause-removed : goal.returns-in-None-clause-removed
returns-in-None-clause-removed g c =
    let s = c.args.self.now in
    both_removed c.args.a c.args.b (near_of s) (near_part (in_leaves c.remove_near.new.near.leaves.items)) (mapped s.far) (mapped c.remove-far.new.self)
    c.remove_near.ensures.removed
    (mapped_written s.far c.args.a c.args.b c.one_number.result (omega arith) c.one_number.ensures c.remove-far.new.self None c.remove-far.ensures.updates.0)
