use Rattle.std.proofs.Common.{subst, sym}
use Rattle.mm_move_laws.specs.{ReachedByMoves}
use Rattle.mm_move_laws.proofs.{reached_start}
use Rattle.mm_replay.proofs.lives.Life.new.Goals as goal

pub invariant_of-result : goal.invariant_of-result
invariant_of-result c = record { reached = ∣ subst ReachedByMoves (sym c.new.ensures) reached_start ∣₁ }
