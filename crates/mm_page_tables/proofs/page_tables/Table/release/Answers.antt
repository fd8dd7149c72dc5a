use Rattle.std.proofs.Common.{arith}
use Rattle.mm_page_tables.proofs.{worded, place_of_some, reserved_end, release_map}
use Rattle.mm_page_tables.proofs.page_tables.Table.release.Goals as goal

pub put_words-requires-clause-end : goal.put_words-requires-clause-end
put_words-requires-clause-end c = reserved_end c.self.inside.leaves.items c.args.self.now c.args.first.0 c.args.n c.self.view_is c.self.invariant c.requires (omega arith)

pub put_words-requires-clause-places : goal.put_words-requires-clause-places
put_words-requires-clause-places c = λ q l u. place_of_some c.self.inside.leaves.items q (worded c.self.inside.leaves.items c.args.self.now q c.self.view_is c.self.invariant (c.requires q l u))

pub returns : goal.returns
returns c = release_map c.self.inside.leaves.items c.put_words.new.leaves.items c.args.self.now c.args.first.0 c.args.n c.self.view_is c.self.invariant c.put_words.ensures

pub overflow_add-first : goal.overflow_add-first
overflow_add-first c = omega (arith, reserved_end c.self.inside.leaves.items c.args.self.now c.args.first.0 c.args.n c.self.view_is c.self.invariant c.requires (omega arith))
