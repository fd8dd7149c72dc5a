use Rattle.std.proofs.Common.{rules, ◌++◌, ◌∷◌, [], List, ℕ, sym, ap, ◌∙◌}
use Rattle.mm_page_lists.specs.{ListsOf, list_at, number_at, with_list}
use Rattle.mm_replay.specs.{free_alone}
use Rattle.mm_move_rules.proofs.{numbers_next}
use Rattle.mm_replay.proofs.{not_yet}
use Rattle.mm_replay.proofs.listings.push_all.Goals as goal

pub push_back-requires : goal.push_back-requires
push_back-requires c =
    (search rules, (search rules, (search rules, λ j k e. not_yet c.loop-f.f j k (ap (λ (v : ListsOf). number_at v.lists j k) (sym c.loop-f.invariant.pushed) ∙ e))))

pub loop-f-preserved : goal.loop-f-preserved
loop-f-preserved c = record {
  pushed =
      c.push_back.ensures.pushed
      ∙ ap (λ (v : ListsOf). with_list v 1 (list_at v.lists 1 ++ c.loop-f.f ∷ [])) c.loop-f.invariant.pushed
      ∙ ap (λ (xs : List ℕ). record { numbers = c.args.n; lists = free_alone xs }) (sym (numbers_next c.loop-f.f));
  kept = c.push_back.ensures.kept;
}
