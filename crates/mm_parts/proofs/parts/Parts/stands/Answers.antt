use Rattle.std.proofs.Common.{◌∙◌}
use Rattle.mm_parts.specs.{joined_parts}
use Rattle.mm_parts.proofs.{told_low, stands_told}
use Rattle.mm_parts.proofs.parts.Parts.stands.Goals as goal

pub is_own_page-own-requires : goal.is_own_page-own-requires
is_own_page-own-requires c = λ f v. told_low (joined_parts c.args.self.now) c.args.self.now.kept c.args.key c.word-entry.result c.word-entry.ensures f v

pub returns : goal.returns
returns c =
    c.held_in.ensures
    ∙ stands_told (joined_parts c.args.self.now) c.args.self.now.kept c.args.key c.word-entry.result c.is_own_page-own.result c.word-entry.ensures c.is_own_page-own.ensures
