-- The numbers in the table, and the numbers of moves of their classes.
-- Profile, "What a log shows".
use Rattle.std.specs.Prelude.{◌≡◌, ℕ, ◌+◌, ◌==◌, if◌then◌else◌, List, [], ◌∷◌, count_by, Option, Some, None}
use Rattle.std.specs.Prelude.{slice_index}
use Rattle.mm_move_classes.specs.{Class}
use Rattle.mm_reports.specs.Faults.{is_first_use, is_hard, is_soft, is_zero_fill}
use Rattle.mm_reports.specs.Tallies.{Table, FaultTally, column_in}

-- the sum of a column
abbrev pub sum_in : {K : Type 0} → ℕ → Table K → ℕ
sum_in column [] = 0
sum_in column (e ∷ es) = slice_index e.1 column + sum_in column es

-- it is this column
abbrev pub one_at : Option ℕ → ℕ → ℕ
one_at None column = 0
one_at (Some k) column = if k == column then 1 else 0

-- how many of the moves of these classes are counted in a column
abbrev pub column_count : ℕ → List (Option Class) → ℕ
column_count column [] = 0
column_count column (c ∷ cs) = one_at (column_in c) column + column_count column cs

-- each sum is the number of moves of the classes that it counts
pub record SumsToClasses (t : FaultTally) (cs : List (Option Class)) : Type 0 where
  pub pages : (column : ℕ) → sum_in column t.pages ≡ column_count column cs
  pub processes : (column : ℕ) → sum_in column t.processes ≡ column_count column cs
  pub zero_fills : t.zero_fills ≡ count_by is_zero_fill cs
  pub hard : t.hard ≡ count_by is_hard cs
  pub soft : t.soft ≡ count_by is_soft cs
  pub first_uses : t.first_uses ≡ count_by is_first_use cs
