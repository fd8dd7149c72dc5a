use Rattle.std.proofs.Common.{◌≡◌, true, false, None, Some, sym, ap, ◌∙◌, arith}
use Rattle.std.specs.Prelude.{is_some}
use Rattle.mm_replay.specs.{in_leaves, mapped, near_part, near_of}
use Rattle.mm_replay.proofs.{chosen, near_sets, near_written, far_written, place_of_some, mapped_at, mapped_through}
use Rattle.mm_replay.proofs.pairs.Pairs.change.Goals as goal

pub put-requires : goal.put-requires
put-requires g c = place_of_some c.args.self.now.near.leaves.items c.in-Some.n c.in-Some.ensures.1

pub unreachable-requires : goal.unreachable-requires
unreachable-requires g c =
    let s = c.args.self.now in
    let none : mapped s.far c.args.a c.args.b ≡ None =
    mapped_at s.far c.args.a c.args.b c.one_number.result (omega arith) c.one_number.ensures ∙ sym c.in_default.ensures.value in
    let bad : false ≡ true = sym (ap is_some (chosen (near_of s) (mapped s.far) c.args.a c.args.b c.in-None.ensures ∙ none)) ∙ c.requires in
    cc

pub returns-in-Some : goal.returns-in-Some
returns-in-Some g c =
    let s = c.args.self.now in
    let old = in_leaves s.near.leaves.items in
    let new = in_leaves c.put.new.self.leaves.items in
    near_written c.args.a c.args.b (near_part old) (near_part new) (mapped s.far) c.args.value
    (near_sets c.args.a c.args.b c.in-Some.n old new (Some c.args.value) c.in-Some.ensures.0 c.put.ensures)

pub returns-in-Some-get_mut : goal.returns-in-Some-get_mut
returns-in-Some-get_mut g c =
    let s = c.args.self.now in
    far_written c.args.a c.args.b (near_of s) (mapped s.far) (mapped (c.get_mut.follows.lender c.args.value)) (Some c.args.value) c.in-None.ensures
    (mapped_through s.far c.args.a c.args.b c.one_number.result (omega arith) c.one_number.ensures
    (c.get_mut.follows.lender c.args.value) c.in-Some-get_mut.place.now c.args.value (c.get_mut.follows.holds c.args.value) c.in-Some-get_mut.ensures.value)
