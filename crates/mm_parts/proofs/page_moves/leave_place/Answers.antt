use Rattle.std.proofs.Common.{ap, ◌∙◌, subst}
use Rattle.mm_types.specs.{Key}
use Rattle.mm_types.specs.declared.numbers.Key.TheVariants.{Shared}
use Rattle.mm_page_tables.specs.{WordsOf, has_word}
use Rattle.mm_page_tables.specs.Shown as tables
use Rattle.mm_parts.specs.{CanLeave}
use Rattle.mm_parts.proofs.page_moves.leave_place.Goals as goal

pub set_word-requires-clause-has : goal.set_word-requires-clause-has
set_word-requires-clause-has c =
    ap (λ (w : WordsOf). has_word w (Shared c.in-Shared.area c.in-Shared.index)) c.make_invalid-in-Shared.ensures.words
    ∙ (subst (λ (k : Key). CanLeave (tables.words c.args.words.now) k c.args.f) c.in-Shared.is c.requires.can).0
