-- A row that is packed behind others: a tool of proof.
use Rattle.std.specs.Prelude.{◌≡◌, ℕ, ◌+◌, List, ◌∷◌, Result, Ok, Err}
use Rattle.mm_types.specs.{Text}
use Rattle.mm_observations.specs.Packed.{packed_behind, packed_from, RefusesFile}
use Rattle.mm_observations.specs.declared.run_lines.RunLines.{RunLines}
use Rattle.mm_observations.specs.declared.tables.PackFault.{PackFault}
use Rattle.mm_observations.specs.declared.tables.Packing.{Packing}

-- what is packed in the end, where these rows are left
abbrev pub packs_on : RunLines → Packing → ℕ → List Text → Result Text ℕ
packs_on run p n rows = packed_behind p.text.items (packed_from run p.before n rows)

abbrev pub Packs : RunLines → Packing → ℕ → Text → Result (Unit {0}) PackFault → Packing → Type 0
Packs run old n row (Ok _) new =
    (rows : List Text) → packs_on run old n (row ∷ rows) ≡ packs_on run new (n + 1) rows
Packs run old n row (Err f) new =
    (rows : List Text) → RefusesFile (packs_on run old n (row ∷ rows)) f
