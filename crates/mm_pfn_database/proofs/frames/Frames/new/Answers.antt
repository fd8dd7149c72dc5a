use Rattle.std.proofs.Common.{sym, subst, None, Option, List, ℕ, replicate}
use Rattle.mm_types.specs.{Record}
use Rattle.mm_move_rules.specs.{blank}
use Rattle.mm_page_lists.specs.{ListsOf}
use Rattle.mm_pfn_database.specs.{Standing, AreFrames, AreBacked}
use Rattle.mm_pfn_database.specs.declared.standing.Standing.TheVariants.{Free}
use Rattle.mm_page_lists.specs.contracts.lists.Lists.{the_view}
use Rattle.mm_pfn_database.proofs.{all_free, none_backed}
use Rattle.mm_pfn_database.proofs.frames.Frames.new.Goals as goal

pub invariant_of-result-2 : goal.invariant_of-result-2
invariant_of-result-2 c =
    let n = c.args.n in
    let made = all_free n c.push_all.new.lists c.ranges.n.fits c.push_all.ensures.pushed c.push_all.ensures.apart in
    record {
      placed =
          subst (λ (rs : List Record). AreFrames rs c.in_ok-all_free.field-0.items (the_view c.lists.inside) c.in_ok-new-3.field-0) (sym c.in_ok-new.ensures)
          (subst (λ (ss : List Standing). AreFrames (replicate n blank) ss (the_view c.lists.inside) c.in_ok-new-3.field-0) (sym c.in_ok-all_free.ensures)
          (subst (λ (m : List (Option (List ℕ))). AreFrames (replicate n blank) (replicate n Free) (the_view c.lists.inside) m) (sym c.in_ok-new-3.ensures)
          (subst (λ (v : ListsOf). AreFrames (replicate n blank) (replicate n Free) v (replicate n None)) (sym c.lists.view_is) made)));
      backed =
          subst (λ (rs : List Record). AreBacked rs (the_view c.lists.inside).lists c.in_ok-new-2.field-0) (sym c.in_ok-new.ensures)
          (subst (λ (v : ListsOf). AreBacked (replicate n blank) v.lists c.in_ok-new-2.field-0) (sym c.lists.view_is)
          (none_backed n c.push_all.new.lists c.in_ok-new-2.field-0 c.push_all.ensures.pushed c.in_ok-new-2.ensures.empty c.in_ok-new-2.ensures.apart));
    }
