-- The eight counts after each line; by the rule of csv with the working sets and the charge.
-- Profile, "What a log shows".
use Rattle.std.specs.Prelude.{Bool, List, [], ◌∷◌, ◌++◌, codes, Option, None}
use Rattle.mm_types.specs.{Text, decimal, Move}
use Rattle.mm_move_rules.specs.{FrameLife, counts_of, unstarted}
use Rattle.mm_move_classes.specs.{numbers_of}
use Rattle.mm_text.specs.{right_in, numbers_in}
use Rattle.mm_csv.specs.{csv_row}
use Rattle.mm_reports.specs.Lines.{ends_of_lines}
use Rattle.mm_reports.specs.Charges.{charge_after}
use Rattle.mm_reports.specs.Fields.{counts_fields}
use Rattle.mm_reports.specs.declared.charges.Charge.{Charge}
use Rattle.mm_reports.specs.declared.styles.Style.{Style}
use Rattle.mm_reports.specs.declared.styles.Style.TheVariants as style

abbrev pub counts_head : Text
counts_head =
    codes "   line     zeroed       free    standby   modified"
    ++ (codes "     active transition      slots   requests" ++ 10 ∷ [])

-- the line, and the counts at its end
abbrev pub counts_row : FrameLife → Text
counts_row l = right_in 7 (decimal l.line) ++ (numbers_in 11 (numbers_of (counts_of l)) ++ 10 ∷ [])

abbrev pub counts_csv_head : Text
counts_csv_head =
    codes "line,zeroed,free,standby,modified,active,transition,slots,requests,sets,charge,limit"
    ++ 10 ∷ []

-- ---- in either style

abbrev pub counts_head_in : Style → Text
counts_head_in style.Columns = counts_head
counts_head_in style.Csv = counts_csv_head

abbrev pub counts_row_in : Style → Option Charge → FrameLife → Text
counts_row_in style.Columns charge l = counts_row l
counts_row_in style.Csv charge l = csv_row (counts_fields charge l)

-- the rows of lines that end, where the charge was told so before them
abbrev pub line_rows : Style → Option (List Text) → Option (List Text) → Option Charge
    → List FrameLife → Text
line_rows s script answers charge [] = []
line_rows s script answers charge (l ∷ ls) =
    let told : Option Charge = charge_after script answers charge l.line in
    counts_row_in s told l ++ line_rows s script answers told ls

abbrev pub counts_rows : Style → Option (List Text) → Option (List Text) → Bool → List Move → Text
counts_rows s script answers whole moves =
    counts_head_in s ++ line_rows s script answers None (ends_of_lines whole unstarted moves)
