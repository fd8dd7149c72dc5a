use Rattle.std.proofs.Common.{refl, ◌∙◌}
use Rattle.mm_unpaged.proofs.{count_by_insert, none_there}
use Rattle.mm_unpaged.proofs.places.Places.bind.Goals as goal

pub returns-clause-count : goal.returns-clause-count
returns-clause-count c = count_by_insert c.args.self.now.map c.insert.new.self c.args.place _ c.in-Ok.field-0 c.in-Ok.ensures.entries (c.in-Ok.ensures.old ∙ none_there _ c.requires.unbound) refl
