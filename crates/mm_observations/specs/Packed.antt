-- A file of observations, packed.
-- web/README.md, "Packed observations".
use Rattle.std.specs.Prelude.{◌≡◌, ℕ, ◌+◌, ◌==◌, if◌then◌else◌, List, [], ◌∷◌, ◌++◌, Option, Some}
use Rattle.std.specs.Prelude.{None, Result, Ok, Err}
use Rattle.mm_types.specs.{Text}
use Rattle.mm_script.specs.{without_return}
use Rattle.mm_observations.specs.Checking.{good_row}
use Rattle.mm_observations.specs.Packing.{row_data, after_row, none_before}
use Rattle.mm_observations.specs.declared.run_lines.RunLines.{RunLines}
use Rattle.mm_observations.specs.declared.packing.Before.{Before}
use Rattle.mm_observations.specs.declared.rows.Row.{Row}
use Rattle.mm_observations.specs.declared.tables.PackFault.{PackFault}
use Rattle.mm_observations.specs.declared.tables.PackFault.TheVariants as fault

-- ---- the rows of a file

-- what stands behind the last line feed: a row without one, which is never good, as the empty text
abbrev pub open_row : Text → List Text
open_row [] = []
open_row (c ∷ cs) = [] ∷ []

-- the rows, each without its line feed and one carriage return before it, where these bytes of the
-- first were read
abbrev pub file_rows_from : Text → Text → List Text
file_rows_from row [] = open_row row
file_rows_from row (c ∷ cs) =
    if c == 10 then without_return row ∷ file_rows_from [] cs else file_rows_from (row ++ c ∷ []) cs

abbrev pub file_rows : Text → List Text
file_rows bytes = file_rows_from [] bytes

-- ---- packed

-- a text, and what is packed behind it
abbrev pub packed_behind : Text → Result Text ℕ → Result Text ℕ
packed_behind text (Ok more) = Ok (text ++ more)
packed_behind text (Err n) = Err n

-- what follows from a good row; the number of one that is not good
abbrev pub if_row : ℕ → Option Row → (Row → Result Text ℕ) → Result Text ℕ
if_row n None next = Err n
if_row n (Some row) next = next row

-- these rows, the first of which has the number n, behind what was packed before
abbrev pub packed_from : RunLines → Before → ℕ → List Text → Result Text ℕ
packed_from run b n [] = Ok (10 ∷ [])
packed_from run b n (t ∷ ts) =
    if_row n (good_row run b.line t)
    (λ row. packed_behind (row_data b row) (packed_from run (after_row b row) (n + 1) ts))

-- the packed text, or the number of the first row that is not good
abbrev pub packed : RunLines → Text → Result Text ℕ
packed run bytes = packed_from run none_before 1 (file_rows bytes)

-- a file was refused: a row of it, by its number, or for want of memory
abbrev pub RefusesFile : Result Text ℕ → PackFault → Type 0
RefusesFile wanted (fault.Row n) = wanted ≡ Err n
RefusesFile wanted fault.NoMemory = Unit {0}
