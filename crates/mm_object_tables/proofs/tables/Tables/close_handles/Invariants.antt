use Rattle.std.proofs.Common.{◌≡◌, ◌≤◌, ◌+◌, ◌^◌, ℕ, true, is_some}
use Rattle.mm_store.specs.{Turns, PassesIn}
use Rattle.mm_store.specs.Housekeeping.{Ends}
use Rattle.mm_store.specs.Leaving.{Leaving}
use Rattle.mm_world.specs.{process_of}
use Rattle.mm_object_tables.specs.{Toward, IsRankFor}
use Rattle.mm_object_tables.proofs.{open_handles, NoneBelow}
use Rattle.mm_object_tables.proofs.tables.Tables.close_handles.Given as goal

abbrev pub invariant-loop-handle : goal.invariant-loop-handle
invariant-loop-handle g l = record {
  toward : Toward l.pid.0 l.fn.self l.self (g.G.PageStore.contents l.fn.g) (g.G.PageStore.contents l.g) (g.G.PageStore.store l.fn.g) (g.G.PageStore.store l.g);
  lives : is_some (process_of l.self l.pid.0) ≡ true;
  closed : (k : ℕ) × (k ≤ 2 ^ 30) × NoneBelow k l.pid.0 l.self × ((held : Leaving) → IsRankFor held.rank l.pid.0 l.fn.self → PassesIn g.G.PageStore.unpaged (Turns (Ends held 1 (k + 1))) (g.G.PageStore.store l.fn.g) (g.G.PageStore.store l.g) (g.G.PageStore.behind l.fn.g) (g.G.PageStore.behind l.g));
  loans : g.G.PageStore.loans l.g ≡ g.G.PageStore.loans l.fn.g;
}

abbrev pub decreases-loop-handle : goal.decreases-loop-handle
decreases-loop-handle g l = open_handles (process_of l.self l.pid.0)
