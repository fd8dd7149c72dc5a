use Rattle.std.proofs.Common.{◌≡◌, ◌≤◌, ◌<◌, ℕ}
use Rattle.mm_store.specs.{Turns, PassesIn}
use Rattle.mm_store.specs.Housekeeping.{Ends}
use Rattle.mm_store.specs.Leaving.{Leaving}
use Rattle.mm_object_tables.specs.{Gone, is_owned_among, owned_among, shared_at, is_committed_in}
use Rattle.mm_object_tables.proofs.keys.remove_shared.Given as goal

abbrev pub invariant-loop-i : goal.invariant-loop-i
invariant-loop-i g l = record {
  gone : Gone (is_owned_among (shared_at l.area) (is_committed_in l.fn.pages) l.i) (owned_among (is_committed_in l.fn.pages) l.i) (g.G.PageStore.contents l.fn.g) (g.G.PageStore.contents l.g) (g.G.PageStore.store l.fn.g) (g.G.PageStore.store l.g);
  passes : (held : Leaving) (from to : ℕ) → from ≤ held.rank l.area.0 → held.rank l.area.0 < to → PassesIn g.G.PageStore.unpaged (Turns (Ends held from to)) (g.G.PageStore.store l.fn.g) (g.G.PageStore.store l.g) (g.G.PageStore.behind l.fn.g) (g.G.PageStore.behind l.g);
  loans : g.G.PageStore.loans l.g ≡ g.G.PageStore.loans l.fn.g;
}
