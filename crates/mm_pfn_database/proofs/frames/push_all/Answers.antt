use Rattle.std.proofs.Common.{◌++◌, ◌∷◌, [], sym, ap, ◌∙◌, List, ℕ}
use Rattle.mm_page_lists.specs.{ListsOf, list_at, number_at, with_list}
use Rattle.mm_pfn_database.specs.{free_only}
use Rattle.mm_move_rules.proofs.{numbers_next}
use Rattle.mm_pfn_database.proofs.{not_yet}
use Rattle.mm_pfn_database.proofs.frames.push_all.Goals as goal

pub push_back-requires-clause-on_none : goal.push_back-requires-clause-on_none
push_back-requires-clause-on_none c = λ j k e.
    not_yet c.args.n c.loop-f.f j k (ap (λ (v : ListsOf). number_at v.lists j k) (sym c.loop-f.invariant.0) ∙ e)

pub loop-f-preserved : goal.loop-f-preserved
loop-f-preserved c = (
  c.push_back.ensures.pushed
      ∙ ap (λ (v : ListsOf). with_list v 1 (list_at v.lists 1 ++ c.loop-f.f ∷ [])) c.loop-f.invariant.0
      ∙ ap (λ (xs : List ℕ). record { numbers = c.args.n; lists = free_only xs }) (sym (numbers_next c.loop-f.f)),
  c.push_back.ensures.apart,
)
