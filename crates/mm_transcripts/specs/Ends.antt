-- What is said of a run that ended before the last line of its script.
-- Profile, "What a log shows".
use Rattle.std.specs.Prelude.{ℕ, ◌+◌, Bool, true, false, if◌then◌else◌, is_some, List, [], ◌∷◌, ◌++◌}
use Rattle.std.specs.Prelude.{codes, Option, Some, None}
use Rattle.mm_types.specs.{Text, decimal}
use Rattle.mm_log_walk.specs.{Beside, is_bad_text, is_long_text, line_numbered}

abbrev pub line_words : ℕ → Text → Text
line_words n words = codes "line " ++ (decimal n ++ (words ++ 10 ∷ []))

-- the script goes on with this line, or does not
abbrev pub cut_text : Bool → ℕ → Text
cut_text true n = line_words n (codes " was not reached: the run ended before it")
cut_text false n = []

-- what a run wrote behind the answers, if anything
abbrev pub run_end_text : Bool → ℕ → Option Text → Text
run_end_text more n None = cut_text more n
run_end_text more n (Some answer) =
    if is_bad_text n answer then line_words n (codes " is no line: the run ended here") else
    if is_long_text n answer then line_words n (codes " is too long: the run ended here") else
    cut_text more n

-- behind a log that is whole and has so many lines, where a script is named
abbrev pub ending_text : Beside → Bool → ℕ → Text
ending_text b false n = []
ending_text b true n =
    run_end_text (is_some (line_numbered b.script (n + 1))) (n + 1) (line_numbered b.answers (n + 1))
