use Rattle.std.proofs.Common.{◌≡◌, ℕ, List, ◌++◌, length}
use Rattle.mm_types.specs.{Appended}
use Rattle.mm_io.specs.{GivesOn}
use Rattle.mm_io.proofs.write.write_all.Given as goal

abbrev pub invariant-loop-rest : goal.invariant-loop-rest
invariant-loop-rest g l = record {
  done : (done : List ℕ) × (done ++ l.rest ≡ l.fn.text) × Appended (g.O.Sink.taken l.fn.out) (g.O.Sink.taken l.out) done;
  given : GivesOn (g.O.Sink.given l.fn.out) (g.O.Sink.given l.out) (g.O.Sink.taken l.fn.out) (g.O.Sink.taken l.out);
  faults : g.O.Sink.faults l.out ≡ g.O.Sink.faults l.fn.out;
  loans : g.O.Sink.loans l.out ≡ g.O.Sink.loans l.fn.out;
}

abbrev pub decreases-loop-rest : goal.decreases-loop-rest
decreases-loop-rest g l = length l.rest
