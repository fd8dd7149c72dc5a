use Rattle.std.proofs.Common.{◌≡◌, ◌+◌}
use Rattle.mm_store.specs.{Turns, MakesFrom, PassesIn}
use Rattle.mm_object_tables.specs.{Shares}
use Rattle.mm_object_tables.proofs.views.share_range.Given as goal

abbrev pub invariant-loop-i : goal.invariant-loop-i
invariant-loop-i g l = record {
  shares : Shares l.area l.first l.i l.pages (g.G.PageStore.contents l.fn.g) (g.G.PageStore.contents l.g) (g.G.PageStore.store l.fn.g) (g.G.PageStore.store l.g);
  passes : PassesIn g.G.PageStore.unpaged (Turns (MakesFrom l.first (l.first + l.i))) (g.G.PageStore.store l.fn.g) (g.G.PageStore.store l.g) (g.G.PageStore.behind l.fn.g) (g.G.PageStore.behind l.g);
  loans : g.G.PageStore.loans l.g ≡ g.G.PageStore.loans l.fn.g;
}
