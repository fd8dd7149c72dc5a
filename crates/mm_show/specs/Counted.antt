-- Numbers of classes and of kinds of lines, some counted and some to come.
-- Profile, "What a log shows".
use Rattle.std.specs.Prelude.{ℕ, ◌+◌, ◌^◌, ◌<◌, ◌≤◌, List, Option, count_by, slice_index}
use Rattle.mm_types.specs.{Move}
use Rattle.mm_move_classes.specs.{class_count, code_of, Class}
use Rattle.mm_show.specs.Sums.{is_kind}

-- the numbers by code
abbrev pub of_class : List ℕ → List (Option Class) → Class → ℕ
of_class counts cs c = slice_index counts (code_of c) + class_count c cs

abbrev pub of_kind : List ℕ → List Move → ℕ → ℕ
of_kind counts ms k = slice_index counts k + count_by (is_kind k) ms

-- no number is greater than this
pub record AreBounded (classes kinds : List ℕ) (counted : ℕ) : Type 0 where
  pub classes_few : (k : ℕ) → slice_index classes k ≤ counted
  pub kinds_few : (k : ℕ) → slice_index kinds k ≤ counted
  pub few : counted < 2 ^ 63
