-- What observations are checked against: a script and its answers.
-- web/README.md, "Packed observations".
use Rattle.std.specs.Prelude.{ℕ, ◌+◌, Bool, false, not, ◌&&◌, ◌||◌, nat_le, nat_lt, bytes_eq, ◌==◌}
use Rattle.std.specs.Prelude.{codes, if◌then◌else◌, List, [], ◌∷◌, length, Option, Some, None}
use Rattle.std.specs.Prelude.{slice_get, slice_set, replicate}
use Rattle.mm_types.specs.{Text}
use Rattle.mm_text.specs.{number_of, words_of}
use Rattle.mm_text.specs.Word.{Word}
use Rattle.mm_observations.specs.declared.run_lines.RunLines.{RunLines}

-- ---- the process that a line makes

abbrev pub leading_text : List Word → Text
leading_text [] = []
leading_text (w ∷ ws) = w.text

-- of a line of at most 256 bytes, as those of scripts and answers are
abbrev pub leading_word : Text → Text
leading_word line = if nat_le (length line) 256 then leading_text (words_of line) else []

-- behind its answers a run that ended early tells a line that is none or too long
abbrev pub is_answer : Text → Bool
is_answer text =
    not (bytes_eq (leading_word text) (codes "bad") || bytes_eq (leading_word text) (codes "too"))

-- `ok` and a number
abbrev pub number_answered : Text → Option ℕ
number_answered (a ∷ b ∷ c ∷ digits) =
    if (a == 0x6F) && (b == 0x6B) && (c == 0x20) then number_of digits else None
number_answered _ = None

abbrev pub process_made : Text → Text → Option ℕ
process_made line answer =
    if bytes_eq (leading_word line) (codes "process") then number_answered answer else None

-- ---- a run

-- before the first line
abbrev pub no_lines : RunLines
no_lines = record { count = 0; made = replicate 256 0 }

abbrev pub made_after : List ℕ → ℕ → Option ℕ → List ℕ
made_after made line None = made
made_after made line (Some pid) = if nat_lt pid 256 then slice_set made pid line else made

-- one more line, with its answer
abbrev pub run_after : RunLines → Text → Text → RunLines
run_after run line answer =
    if is_answer answer then record {
      count = run.count + 1;
      made = made_after run.made (run.count + 1) (process_made line answer);
    } else run

-- the lines of a script that have answers
abbrev pub run_lines_from : RunLines → List Text → List Text → RunLines
run_lines_from run (line ∷ lines) (answer ∷ answers) =
    run_lines_from (run_after run line answer) lines answers
run_lines_from run _ _ = run

abbrev pub run_lines : List Text → List Text → RunLines
run_lines script answers = run_lines_from no_lines script answers

-- made at a line up to this one
abbrev pub is_made_by : ℕ → Option ℕ → Bool
is_made_by line None = false
is_made_by line (Some at) = nat_le 1 at && nat_le at line

abbrev pub is_made : RunLines → ℕ → ℕ → Bool
is_made run pid line = is_made_by line (slice_get run.made pid)
