-- A guard that is turned off leaves regions well formed.
use Rattle.std.proofs.Common.{◌≡◌, ℕ, Some}
use Rattle.mm_types.specs.{Answer}
use Rattle.mm_world.specs.{WorldOf, ProcessOf, process_of, Committed, committed_at, guard_off, done}
use Rattle.mm_world.proofs.Tables.{Holds}
use Rattle.mm_world.proofs.Spaces.{KeepsSpaces, spaces_kept}
use Rattle.mm_world.proofs.Edits.{any_terms}
use Rattle.mm_world.proofs.LineEdits as edits

pub by_guard : {B : Type 0} (w : WorldOf B) (pid : ℕ) (p : ProcessOf B) (c : Committed B) (page : ℕ) (a : Answer) → process_of w pid ≡ Some p → committed_at w p.regions page ≡ Some c → Holds (KeepsSpaces w) (done a (guard_off w pid p c page))
by_guard w pid p c page a lives committed = record { it = record { kept = spaces_kept (any_terms a) w _ (edits.guard_edits (any_terms a) w pid p c page lives committed) } }
