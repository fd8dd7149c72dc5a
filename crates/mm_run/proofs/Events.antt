-- Lines that were answered were decided, each from what the one before it left.
use Rattle.std.proofs.Common.{ℕ, suc, List, [], ◌∷◌, inl, inr, ap, ◌∙◌, ◌≡◌}
use Rattle.mm_types.specs.{Text}
use Rattle.mm_run.specs.{Ending, Stage, log_of, Follows, DecidedLine, AreAnswered, ClosesRun, AreDecided, ClosesEvents}
use Rattle.mm_run.specs.declared.endings.Ending.TheVariants as ending

pub decided_of : (n : ℕ) (old : Stage) (lines : List DecidedLine) → AreAnswered n old lines → AreDecided old lines
decided_of n old [] u = tt
decided_of n old (l ∷ ls) u = (record { follows = u.0.follows; decided = u.0.decided }, u.1, decided_of (suc n) l.after ls u.2)

pub closed_of : (e : Ending) (n : ℕ) (front : Text) (last end : Stage) → ClosesRun e n front last end → ClosesEvents e last end
closed_of ending.NoMemory n front last end h = elim h.broken [
  | inl m ↦ inl m.1
  | inr m ↦ inr (h.event, m.1)
]
closed_of ending.MovesFault n front last end (inl h) = inl h
closed_of ending.MovesFault n front last end (inr m) = inr (record {
  line = m.line;
  next = record { follows = m.muted.next.follows; decided = m.muted.next.decided };
  failed = ap (λ (z : Stage). (log_of z).failed) m.after ∙ m.muted.failed;
  after = m.after;
})
closed_of ending.Done n front last end h = h
closed_of x n front last end h = h

-- with status 0 nothing changed behind the last of them
pub follows_done : (e : Ending) (last end : Stage) → e ≡ ending.Done → ClosesEvents e last end → Follows last end
follows_done ending.Done last end q h = h
follows_done e last end q h = cc
