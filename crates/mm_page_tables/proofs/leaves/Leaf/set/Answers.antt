use Rattle.std.proofs.Common.{Some, ap, ◌∙◌, arith, vec_capacity}
use Rattle.std.specs.Prelude.{slice_set, List, Option, ℕ}
use Rattle.mm_page_tables.proofs.{placed, placed_low, bit_there, some_numbers, shown_set, set_leaf}
use Rattle.mm_page_tables.proofs.leaves.Leaf.set.Goals as goal

pub overflow_add-at : goal.overflow_add-at
overflow_add-at c = omega (arith, placed_low c.self.inside.numbers.items c.args.self.now c.args.at c.self.view_is c.requires)

pub reach-requires-clause-within : goal.reach-requires-clause-within
reach-requires-clause-within c = omega (arith, placed_low c.self.inside.numbers.items c.args.self.now c.args.at c.self.view_is c.requires)

pub reach-requires-clause-room : goal.reach-requires-clause-room
reach-requires-clause-room c =
    let ns = c.self.inside.numbers.items in
    c.self.invariant.room (some_numbers ns (omega (arith, placed ns c.args.self.now c.args.at c.self.view_is c.requires)))

pub invariant_of-self : goal.invariant_of-self
invariant_of-self c =
    let ns = c.self.inside.numbers.items in
    let low = placed ns c.args.self.now c.args.at c.self.view_is c.requires in
    set_leaf (vec_capacity c.self.inside.numbers) c.reach.new.words.cap ns c.reach.new.words.items _ c.args.at c.args.word c.self.invariant c.reach.ensures.items low
    (bit_there ns c.args.self.now c.args.at c.self.view_is c.requires) c.reach.ensures.there c.reach.ensures.few
    (omega (arith, c.self.invariant.room (some_numbers ns (omega (arith, low))), c.reach.ensures.capacity))

pub returns : goal.returns
returns c =
    let ns = c.self.inside.numbers.items in
    shown_set (vec_capacity c.self.inside.numbers) c.reach.new.words.cap ns c.reach.new.words.items _ c.args.at c.args.word c.self.invariant c.reach.ensures.items
    (placed ns c.args.self.now c.args.at c.self.view_is c.requires) (bit_there ns c.args.self.now c.args.at c.self.view_is c.requires) c.reach.ensures.there
    ∙ ap (λ (ws : List (Option ℕ)). slice_set ws c.args.at (Some c.args.word)) c.self.view_is
