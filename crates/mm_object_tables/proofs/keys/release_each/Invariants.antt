use Rattle.std.proofs.Common.{◌≡◌, ◌+◌}
use Rattle.mm_store.specs.{Turns, page_rank, PassesIn}
use Rattle.mm_store.specs.Housekeeping.{Ends}
use Rattle.mm_store.specs.Leaving.{Leaving}
use Rattle.mm_object_tables.specs.{GivenUp, owned_among, is_owned_at, first_pages}
use Rattle.mm_object_tables.proofs.{AllHeld}
use Rattle.mm_object_tables.proofs.keys.release_each.Given as goal

abbrev pub invariant-loop-i : goal.invariant-loop-i
invariant-loop-i g l = record {
  given_up : GivenUp l.goes l.pid (first_pages l.fn.range l.i) (owned_among (is_owned_at l.space.regions l.fn.range.first) l.i) (g.G.PageStore.contents l.fn.g) (g.G.PageStore.contents l.g) (g.G.PageStore.store l.fn.g) (g.G.PageStore.store l.g);
  passes : (held : Leaving) → AllHeld held l.pid l.fn.range →
      PassesIn g.G.PageStore.unpaged (Turns (Ends held (page_rank l.fn.range.first) (page_rank (l.fn.range.first + l.i)))) (g.G.PageStore.store l.fn.g) (g.G.PageStore.store l.g) (g.G.PageStore.behind l.fn.g) (g.G.PageStore.behind l.g);
  loans : g.G.PageStore.loans l.g ≡ g.G.PageStore.loans l.fn.g;
}
