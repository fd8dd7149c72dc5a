-- The commit charge, as the last `charge` line told it.
-- Profile, "What a log shows".
use Rattle.std.specs.Prelude.{ℕ, ◌-◌, bytes_eq, if◌then◌else◌, List, [], ◌∷◌, codes, slice_get}
use Rattle.std.specs.Prelude.{Option, Some, None}
use Rattle.mm_types.specs.{Text}
use Rattle.mm_move_rules.specs.{FrameLife}
use Rattle.mm_text.specs.{number_of}
use Rattle.mm_reports.specs.Splits.{before, after_byte}
use Rattle.mm_reports.specs.declared.charges.Charge.{Charge}

abbrev pub charge_of : Option ℕ → Option ℕ → Option Charge
charge_of None limit = None
charge_of (Some charged) None = None
charge_of (Some charged) (Some limit) = Some (record { charged = charged; limit = limit })

-- `ok`, the charge, its limit
abbrev pub charge_in : Text → Option Charge
charge_in answer =
    let numbers : Text = after_byte 32 answer in
    if bytes_eq (before 32 answer) (codes "ok")
    then charge_of (number_of (before 32 numbers)) (number_of (after_byte 32 numbers))
    else None

-- a line that asks for the charge, and its answer
abbrev pub charge_by : Option Text → Option Text → Option Charge
charge_by None answer = None
charge_by (Some line) None = None
charge_by (Some line) (Some answer) =
    if bytes_eq line (codes "charge") then charge_in answer else None

-- a line by its number from 1 on, where the file is named and has it
abbrev pub line_at : Option (List Text) → ℕ → Option Text
line_at None n = None
line_at (Some lines) n = slice_get lines (n - 1)

abbrev pub charge_at : Option (List Text) → Option (List Text) → ℕ → Option Charge
charge_at script answers n = charge_by (line_at script n) (line_at answers n)

-- the charge that was told last: by this line, or before it
abbrev pub later_charge : Option Charge → Option Charge → Option Charge
later_charge last None = last
later_charge last (Some charge) = Some charge

abbrev pub charge_after : Option (List Text) → Option (List Text) → Option Charge → ℕ
    → Option Charge
charge_after script answers last n = later_charge last (charge_at script answers n)

-- after these lines ended
abbrev pub charge_then : Option (List Text) → Option (List Text) → Option Charge → List FrameLife
    → Option Charge
charge_then script answers last [] = last
charge_then script answers last (l ∷ ls) =
    charge_then script answers (charge_after script answers last l.line) ls
