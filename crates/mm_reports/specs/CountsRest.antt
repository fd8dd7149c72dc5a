-- What the tellers of counts and of uses have still to write.
-- Profile, "What a log shows".
use Rattle.std.specs.Prelude.{Bool, List, ◌++◌}
use Rattle.mm_types.specs.{Text, Move}
use Rattle.mm_move_rules.specs.{FrameLife}
use Rattle.mm_csv.specs.{head_left}
use Rattle.mm_reports.specs.Lines.{ends_of_lines, said_of_line}
use Rattle.mm_reports.specs.Counts.{counts_head_in, line_rows}
use Rattle.mm_reports.specs.Uses.{use_text}
use Rattle.mm_reports.specs.declared.counts.CountsTeller.{CountsTeller}
use Rattle.mm_reports.specs.declared.counts.UseTeller.{UseTeller}

abbrev pub counts_rest : CountsTeller → Bool → FrameLife → List Move → Text
counts_rest t whole l ms =
    head_left t.begun (counts_head_in t.style)
    ++ line_rows t.style t.script.now t.answers.now t.charge (ends_of_lines whole l ms)

-- what is said of the line, if it comes
abbrev pub use_rest : UseTeller → Bool → FrameLife → List Move → Text
use_rest t whole l ms = said_of_line t.line use_text (ends_of_lines whole l ms)
