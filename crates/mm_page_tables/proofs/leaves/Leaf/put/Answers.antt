use Rattle.std.proofs.Common.{arith, vec_capacity}
use Rattle.mm_page_tables.proofs.{put_places, put_leaf, places_shown, some_numbers, most_places}
use Rattle.mm_page_tables.proofs.LeafLemmas.{put_words}
use Rattle.mm_page_tables.proofs.leaves.Leaf.put.Goals as goal

pub mark-requires-clause-within : goal.mark-requires-clause-within
mark-requires-clause-within c = omega (arith, c.requires.within, places_shown c.self.inside.numbers.items c.args.self.now c.self.view_is, most_places c.self.inside.numbers.items)

pub mark-requires-clause-there : goal.mark-requires-clause-there
mark-requires-clause-there c =
    c.self.invariant.bits (some_numbers c.self.inside.numbers.items (omega (arith, c.requires.within, c.requires.some, places_shown c.self.inside.numbers.items c.args.self.now c.self.view_is)))

pub overflow_add-from : goal.overflow_add-from
overflow_add-from c = omega (arith, c.requires.within, c.requires.some, places_shown c.self.inside.numbers.items c.args.self.now c.self.view_is, most_places c.self.inside.numbers.items)

pub overflow_add-to : goal.overflow_add-to
overflow_add-to c = omega (arith, c.requires.within, c.requires.some, places_shown c.self.inside.numbers.items c.args.self.now c.self.view_is, most_places c.self.inside.numbers.items)

pub invariant_of-self : goal.invariant_of-self
invariant_of-self c =
    put_leaf (vec_capacity c.self.inside.numbers) (vec_capacity c.settle_numbers.new.numbers) c.self.inside.numbers.items c.mark.new.numbers.items c.settle_numbers.new.numbers.items c.args.self.now c.args.from c.args.to c.args.on
    c.self.invariant c.self.view_is c.requires.some c.requires.within c.mark.ensures.put c.mark.ensures.rest c.mark.ensures.kept c.settle_numbers.ensures.settled c.settle_numbers.ensures.kept
    (omega (arith, c.mark.ensures.capacity, c.settle_numbers.ensures.capacity))

pub returns-clause-words : goal.returns-clause-words
returns-clause-words c =
    put_words (vec_capacity c.self.inside.numbers) (vec_capacity c.settle_numbers.new.numbers) c.self.inside.numbers.items c.mark.new.numbers.items c.settle_numbers.new.numbers.items c.args.self.now c.args.from c.args.to c.args.on
    c.self.invariant c.self.view_is c.requires.some c.requires.within c.mark.ensures.put c.mark.ensures.rest c.mark.ensures.kept c.settle_numbers.ensures.settled c.settle_numbers.ensures.kept

pub returns-clause-room : goal.returns-clause-room
returns-clause-room c =
    put_places (vec_capacity c.self.inside.numbers) (vec_capacity c.settle_numbers.new.numbers) c.self.inside.numbers.items c.mark.new.numbers.items c.settle_numbers.new.numbers.items c.args.self.now c.args.from c.args.to c.args.on
    c.self.invariant c.self.view_is c.requires.some c.requires.within c.mark.ensures.put c.mark.ensures.rest c.mark.ensures.kept c.settle_numbers.ensures.settled c.settle_numbers.ensures.kept
