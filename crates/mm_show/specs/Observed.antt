-- Observations beside a script and its answers.
-- Profile, "What a log shows".
use Rattle.std.specs.Prelude.{◌≡◌, ◌⊎◌, ℕ, Bool, true, false, List, [], ◌∷◌, Option, Some, None}
use Rattle.std.specs.Prelude.{Result, Ok, Err, codes}
use Rattle.mm_types.specs.{Text}
use Rattle.mm_move_rules.specs.{numbered}
use Rattle.mm_log_check.specs.{IsRefusedLog, Shows}
use Rattle.mm_observations.specs.{packed, run_lines}

-- the packed text, or the number of the first row that is not good
abbrev pub observed : Option (List Text) → Option (List Text) → Option Text → Result Text ℕ
observed None answers bytes = Ok []
observed (Some script) None bytes = Ok []
observed (Some script) (Some answers) None = Ok []
observed (Some script) (Some answers) (Some bytes) = packed (run_lines script answers) bytes

-- a file that is named is told, and these are its bytes
abbrev pub FileHas : Bool → Option (Option Text) → Option Text → Type 0
FileHas false left bytes = bytes ≡ None
FileHas true left bytes = (text : Text) × ((left ≡ Some (Some text)) × (bytes ≡ Some text))

-- what is written of a row that is not good, by its number
abbrev pub bad_row_text : ℕ → Text
bad_row_text n = numbered (codes "observation line ") n (10 ∷ [])

-- this is said of a row; or memory was refused for that
abbrev pub IsRefusedRow : ℕ → Option Text → Option Text → ℕ → Type 0
IsRefusedRow n took took' result =
    Shows took took' (bad_row_text n) 6 result ⊎ IsRefusedLog took took' result

-- what is said with the packed text, or of a row that is not good
abbrev pub IfGood : Result Text ℕ → Option Text → Option Text → ℕ → (Text → Type 0) → Type 0
IfGood (Ok text) took took' result says = says text
IfGood (Err n) took took' result says = Shows took took' (bad_row_text n) 6 result
