use Rattle.std.proofs.Common.{ℕ, List, ap, ◌∙◌, replicate, Some, arith}
use Rattle.std.specs.FinMap as finite
use Rattle.mm_types.proofs.{table_insert}
use Rattle.mm_page_tables.specs.{words_in}
use Rattle.mm_page_tables.proofs.protos.Protos.open.Goals as goal

pub returns-clause-ok : goal.returns-clause-ok
returns-clause-ok c =
    table_insert words_in c.make_place.new.areas.items c.args.a.0 (Some c.in_ok-words.words) (omega (arith, c.in_ok-make_place.ensures.place, c.make_place.new.areas.ok)) (replicate c.args.n 0) (ap (λ (ws : List ℕ). Some ws) (c.in_ok-words.ensures.items_if_clones_equal (λ y same. same)))
    ∙ ap (λ m. finite.insert m c.args.a.0 (replicate c.args.n 0)) (c.in_ok-make_place.ensures.same ∙ c.self.view_is)
