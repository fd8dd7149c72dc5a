-- Counting one move more.
-- Profile, "Logs of moves".
use Rattle.std.specs.Prelude.{◌≡◌, ℕ, ◌+◌, Bool, if◌then◌else◌, List, []}
use Rattle.mm_types.specs.{Move}
use Rattle.mm_move_rules.specs.{CountsOfLog, is_give, is_read_in, is_steal, is_wrote, soft_fault, brought_in}
use Rattle.mm_log_check.specs.Marking.{LineMarksOf, AreMarked}

pub record TallyOf : Type 0 where
  pub counts : CountsOfLog
  pub brought : LineMarksOf

abbrev pub no_counts : CountsOfLog
no_counts = record {
  moves = 0;
  zero_fills = 0;
  soft_faults = 0;
  hard_faults = 0;
  steals = 0;
  write_outs = 0;
}

-- nothing was counts_after
pub record CountsNothing (t : TallyOf) : Type 0 where
  pub counts : t.counts ≡ no_counts
  pub brought : AreMarked t.brought []

abbrev pub one_if : Bool → ℕ
one_if b = if b then 1 else 0

-- the counts with a move more, where these frames were brought in before it
abbrev pub counts_after : CountsOfLog → List ℕ → Move → CountsOfLog
counts_after c frames m = record {
  moves = c.moves + 1;
  zero_fills = c.zero_fills + one_if (is_give m);
  soft_faults = c.soft_faults + soft_fault frames m;
  hard_faults = c.hard_faults + one_if (is_read_in m);
  steals = c.steals + one_if (is_steal m);
  write_outs = c.write_outs + one_if (is_wrote m);
}

-- a move was counts_after, whichever frames it is that were brought in before it
pub record Counts (m : Move) (t t' : TallyOf) : Type 0 where
  pub counts : (frames : List ℕ) → AreMarked t.brought frames →
      t'.counts ≡ counts_after t.counts frames m
  pub brought : (frames : List ℕ) → AreMarked t.brought frames →
      AreMarked t'.brought (brought_in frames m)
