use Rattle.std.proofs.Common.{refl, sym, ap, ◌∙◌}
use Rattle.mm_page_lists.specs.{ListsOf, number_at}
use Rattle.mm_page_lists.proofs.{without_removes}
use Rattle.mm_pfn_database.proofs.placing.relist.Goals as goal

pub push_back-requires-clause-on_none : goal.push_back-requires-clause-on_none
push_back-requires-clause-on_none c = λ j k e.
    ((without_removes c.args.f c.args.lists.now.lists).gone j k c.args.f (ap (λ (v : ListsOf). number_at v.lists j k) (sym c.leave.ensures.left) ∙ e)).0 refl
