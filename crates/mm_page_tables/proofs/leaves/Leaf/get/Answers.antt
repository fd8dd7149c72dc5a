use Rattle.std.proofs.Common.{◌+◌, sym, arith}
use Rattle.std.proofs.lemmas.List.{get_or_read, get_or_past}
use Rattle.mm_page_tables.specs.{bit_numbers}
use Rattle.mm_page_tables.proofs.{placed_low}
use Rattle.mm_page_tables.proofs.LeafLemmas.{word_is}
use Rattle.mm_page_tables.proofs.leaves.Leaf.get.Goals as goal

pub overflow_add-i : goal.overflow_add-i
overflow_add-i c = omega (arith, placed_low c.self.inside.numbers.items c.args.self.now c.args.at c.self.view_is c.requires)

pub returns-then-i-len : goal.returns-then-i-len
returns-then-i-len c =
    word_is c.self.inside.numbers.items c.args.self.now c.args.at c.self.view_is c.requires c.index.result.now
    (sym (get_or_read c.self.inside.numbers.items (bit_numbers + c.args.at) c.index.result.now (omega arith) c.index.ensures 0))

pub returns-else-i-len : goal.returns-else-i-len
returns-else-i-len c =
    word_is c.self.inside.numbers.items c.args.self.now c.args.at c.self.view_is c.requires 0
    (get_or_past c.self.inside.numbers.items (bit_numbers + c.args.at) 0 (omega arith))
