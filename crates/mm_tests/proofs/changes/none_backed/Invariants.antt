use Rattle.std.proofs.Common.{◌≡◌, ◌<◌, ℕ}
use Rattle.mm_types.specs.declared.frames.Backing.TheVariants as backing
use Rattle.mm_move_rules.specs.{record_at}
use Rattle.mm_tests.proofs.changes.none_backed.Given as goal

abbrev pub invariant-loop-f : goal.invariant-loop-f
invariant-loop-f g l = record {
  none : (f : ℕ) → f < l.f → (record_at (g.T.StateCalls.shown l.fn.state).life.frames f).backing ≡ backing.None;
}
