-- The sums, where some moves were counted and some are to come.
-- Profile, "What a log shows".
use Rattle.std.specs.Prelude.{ℕ, Bool, true, false, List, [], ◌++◌, Option}
use Rattle.mm_types.specs.{Text, Move}
use Rattle.mm_move_rules.specs.{FrameLife}
use Rattle.mm_move_classes.specs.{MarksOf, marks_of}
use Rattle.mm_log_walk.specs.{classes_rest, Pending}
use Rattle.mm_show.specs.Counted.{of_class, of_kind}
use Rattle.mm_show.specs.Sums.{class_sums, kind_sums}
use Rattle.mm_show.specs.declared.sums.SumTeller.{SumTeller}

-- these numbers, and those of the moves that come; nothing where the log does not end well
abbrev pub sums_left : List ℕ → List ℕ → MarksOf → Option Pending → Bool → FrameLife → List Move
    → Text
sums_left classes kinds v p true l ms =
    class_sums (of_class classes (classes_rest v p l ms)) ++ kind_sums (of_kind kinds ms)
sums_left classes kinds v p false l ms = []

abbrev pub sum_rest : SumTeller → Bool → FrameLife → List Move → Text
sum_rest t whole l ms =
    sums_left t.classes t.kinds (marks_of t.classifier.marks) t.classifier.pending whole l ms
