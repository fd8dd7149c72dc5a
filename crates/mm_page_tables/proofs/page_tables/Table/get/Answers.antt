use Rattle.std.proofs.Common.{sym, ap, ◌∙◌, subst}
use Rattle.std.specs.Prelude.{IsSome}
use Rattle.std.specs.FinMap as finite
use Rattle.mm_page_tables.specs.{LeavesOf, word_in}
use Rattle.mm_page_tables.proofs.{worded, get-words_of}
use Rattle.mm_page_tables.proofs.page_tables.Table.get.Goals as goal

pub word_at-requires : goal.word_at-requires
word_at-requires c =
    subst (λ (l : LeavesOf). IsSome (word_in l c.args.v.0)) (sym c.deref.ensures.value)
    (worded c.self.inside.leaves.items c.args.self.now c.args.v.0 c.self.view_is c.self.invariant c.requires)

pub returns : goal.returns
returns c =
    ap (λ m. finite.get m c.args.v.0) (sym c.self.view_is) ∙ get-words_of c.self.inside.leaves.items c.self.invariant c.args.v.0
    ∙ ap (λ (l : LeavesOf). word_in l c.args.v.0) (sym c.deref.ensures.value) ∙ c.word_at.ensures
