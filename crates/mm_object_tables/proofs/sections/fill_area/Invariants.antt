use Rattle.std.proofs.Common.{◌≡◌}
use Rattle.mm_store.specs.{Turns, MakesFrom, PassesIn}
use Rattle.mm_object_tables.specs.{Come, is_page_of}
use Rattle.mm_object_tables.proofs.sections.fill_area.Given as goal

abbrev pub invariant-loop-i : goal.invariant-loop-i
invariant-loop-i g l = record {
  fills : Come (is_page_of l.area l.i) l.i (g.G.PageStore.contents l.fn.g) (g.G.PageStore.contents l.g) (g.G.PageStore.store l.fn.g) (g.G.PageStore.store l.g);
  passes : PassesIn g.G.PageStore.unpaged (Turns (MakesFrom 0 l.i)) (g.G.PageStore.store l.fn.g) (g.G.PageStore.store l.g) (g.G.PageStore.behind l.fn.g) (g.G.PageStore.behind l.g);
  loans : g.G.PageStore.loans l.g ≡ g.G.PageStore.loans l.fn.g;
}
