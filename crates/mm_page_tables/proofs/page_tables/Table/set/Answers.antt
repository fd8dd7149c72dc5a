use Rattle.std.proofs.Common.{ap, ◌∙◌}
use Rattle.std.specs.FinMap as finite
use Rattle.mm_page_tables.specs.{directory_words}
use Rattle.mm_page_tables.proofs.{worded, place_of_some, words_of-with_word}
use Rattle.mm_page_tables.proofs.page_tables.Table.set.Goals as goal

pub set_at-requires : goal.set_at-requires
set_at-requires c = worded c.self.inside.leaves.items c.args.self.now c.args.v.0 c.self.view_is c.self.invariant c.requires

pub returns : goal.returns
returns c =
    ap directory_words c.set_at.ensures
    ∙ words_of-with_word c.self.inside.leaves.items c.args.v.0 c.args.word
    (place_of_some c.self.inside.leaves.items c.args.v.0 (worded c.self.inside.leaves.items c.args.self.now c.args.v.0 c.self.view_is c.self.invariant c.requires)) c.self.invariant
    ∙ ap (λ m. finite.insert m c.args.v.0 c.args.word) c.self.view_is
