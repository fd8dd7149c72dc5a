use Rattle.std.proofs.Common.{◌≡◌, ℕ, true, is_some, Some, length}
use Rattle.mm_store.specs.{place_at, Turns, page_rank, PassesIn}
use Rattle.mm_store.specs.Housekeeping.{Ends}
use Rattle.mm_store.specs.Leaving.{Leaving}
use Rattle.mm_world.specs.{ProcessOf, process_of}
use Rattle.mm_object_tables.specs.{Toward, HasNoHandle, IsRankFor}
use Rattle.mm_object_tables.proofs.{first_page, regions_in}
use Rattle.mm_object_tables.proofs.tables.Tables.drop_regions.Given as goal

abbrev pub invariant-loop-info : goal.invariant-loop-info
invariant-loop-info g l = record {
  toward : Toward l.pid.0 l.fn.self l.self (g.G.PageStore.contents l.fn.g) (g.G.PageStore.contents l.g) (g.G.PageStore.store l.fn.g) (g.G.PageStore.store l.g);
  lives : is_some (process_of l.self l.pid.0) ≡ true;
  closed : (p : ProcessOf (Unit {0})) → process_of l.self l.pid.0 ≡ Some p → HasNoHandle p;
  passes : (held : Leaving) → IsRankFor held.rank l.pid.0 l.fn.self → ((page : ℕ) → held.places (place_at l.pid page) ≡ true) →
      PassesIn g.G.PageStore.unpaged (Turns (Ends held (page_rank 0) (page_rank (first_page (regions_in l.self l.pid.0))))) (g.G.PageStore.store l.fn.g) (g.G.PageStore.store l.g) (g.G.PageStore.behind l.fn.g) (g.G.PageStore.behind l.g);
  loans : g.G.PageStore.loans l.g ≡ g.G.PageStore.loans l.fn.g;
}

abbrev pub decreases-loop-info : goal.decreases-loop-info
decreases-loop-info g l = length (regions_in l.self l.pid.0)
