use Rattle.std.proofs.Common.{sym, ◌∙◌}
use Rattle.std.specs.Ordering.{nat_cmp}
use Rattle.std.specs.FinMap as finite
use Rattle.mm_types.proofs.{same}
use Rattle.mm_page_tables.proofs.page_tables.Table.give_back.Goals as goal

pub returns : goal.returns
returns c = c.drop.view_is ∙ c.new.ensures ∙ same finite.empty c.args.self.now (λ q. finite.get-empty nat_cmp q ∙ sym (c.requires q))
