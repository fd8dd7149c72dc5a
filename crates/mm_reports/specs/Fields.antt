-- The fields of the rows of csv.
-- Profile, "What a log shows".
use Rattle.std.specs.Prelude.{ℕ, List, [], ◌∷◌, ◌++◌, map, flat_map, Option, Some, None}
use Rattle.mm_types.specs.{Text, decimal}
use Rattle.mm_move_rules.specs.{ResidentSet, FrameLife, counts_of}
use Rattle.mm_move_classes.specs.{numbers_of}
use Rattle.mm_csv.specs.{csv_next}
use Rattle.mm_reports.specs.declared.charges.Charge.{Charge}

-- a number behind another field
abbrev pub number_next : ℕ → Text
number_next n = csv_next (decimal n)

-- the resident pages of each process, between them a space
abbrev pub resident_word : ResidentSet → Text
resident_word s = 32 ∷ decimal s.resident

abbrev pub sets_text : List ResidentSet → Text
sets_text [] = []
sets_text (s ∷ ss) = decimal s.resident ++ flat_map resident_word ss

-- the charge and its limit; empty where none was told
abbrev pub charge_fields : Option Charge → List Text
charge_fields None = [] ∷ [] ∷ []
charge_fields (Some c) = decimal c.charged ∷ decimal c.limit ∷ []

-- the line, the counts at its end, the working sets, the charge
abbrev pub counts_fields : Option Charge → FrameLife → List Text
counts_fields c l =
    decimal l.line ∷ (map decimal (numbers_of (counts_of l)) ++ (sets_text l.sets ∷ charge_fields c))

-- the process, the page, the faults by column
abbrev pub fault_fields : ℕ → Text → List ℕ → List Text
fault_fields pid page counts = decimal pid ∷ page ∷ map decimal counts
