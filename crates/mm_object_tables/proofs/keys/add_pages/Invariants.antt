use Rattle.mm_store.specs.{Turns, MakesFrom, PassesIn}
use Rattle.std.proofs.Common.{◌≡◌, ◌+◌}
use Rattle.mm_object_tables.specs.{Adds, first_pages}
use Rattle.mm_object_tables.proofs.keys.add_pages.Given as goal

abbrev pub invariant-loop-i : goal.invariant-loop-i
invariant-loop-i g l = record {
  adds : Adds l.pid (first_pages l.fn.range l.i) (g.G.PageStore.contents l.fn.g) (g.G.PageStore.contents l.g) (g.G.PageStore.store l.fn.g) (g.G.PageStore.store l.g);
  passes : PassesIn g.G.PageStore.unpaged (Turns (MakesFrom l.fn.range.first (l.fn.range.first + l.i))) (g.G.PageStore.store l.fn.g) (g.G.PageStore.store l.g) (g.G.PageStore.behind l.fn.g) (g.G.PageStore.behind l.g);
  loans : g.G.PageStore.loans l.g ≡ g.G.PageStore.loans l.fn.g;
}
