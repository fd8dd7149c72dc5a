-- How a row of observations is packed.
-- web/README.md, "Packed observations".
use Rattle.std.specs.Prelude.{ℕ, ◌+◌, ◌-◌, ◌*◌, ◌/◌, nat_le, ◌==◌, if◌then◌else◌, List, [], ◌∷◌}
use Rattle.std.specs.Prelude.{◌++◌}
use Rattle.mm_types.specs.{Text, QueryInfo, page_of}
use Rattle.mm_move_classes.specs.{number_text, numbers_text}
use Rattle.mm_observations.specs.declared.packing.Before.{Before}
use Rattle.mm_observations.specs.declared.rows.Row.{Row}
use Rattle.mm_observations.specs.declared.rows.Seen.{Seen}
use Rattle.mm_observations.specs.declared.rows.Seen.TheVariants as seen

-- ---- numbers

-- the step from one page to another: even forwards, odd backwards
abbrev pub step_number : ℕ → ℕ → ℕ
step_number end page = if nat_le end page then 2 * (page - end) else 2 * (end - page) - 1

-- the process, where the region begins behind the end of the one before, and its pages
abbrev pub place_numbers : ℕ → ℕ → QueryInfo → List ℕ
place_numbers pid end r = pid ∷ step_number end (page_of r.base) ∷ page_of r.size ∷ []

-- how far it was allocated before it begins, and as what
abbrev pub allocation_numbers : QueryInfo → List ℕ
allocation_numbers r =
    if r.state == 0x10000 then [] else (page_of r.base - page_of r.alloc_base) ∷ r.alloc_prot ∷ []

abbrev pub protection_numbers : QueryInfo → List ℕ
protection_numbers r = if r.state == 0x1000 then r.prot ∷ [] else []

abbrev pub region_numbers : ℕ → ℕ → QueryInfo → List ℕ
region_numbers pid end r =
    place_numbers pid end r ++ (allocation_numbers r ++ protection_numbers r)

-- ---- rows

-- `f` free, `r` reserved, `c` committed; a capital of one that is mapped
abbrev pub region_letter : QueryInfo → ℕ
region_letter r =
    if r.state == 0x10000 then 0x66
    else if r.state == 0x2000 then (if r.kind == 0x20000 then 0x72 else 0x52)
    else (if r.kind == 0x20000 then 0x63 else 0x43)

abbrev pub seen_data : ℕ → Seen → Text
seen_data end (seen.Charge charged limit) = 0x71 ∷ numbers_text (charged ∷ limit ∷ [])
seen_data end (seen.Region pid r) = region_letter r ∷ numbers_text (region_numbers pid end r)

-- a line begins where the row before is of another
abbrev pub line_data : ℕ → ℕ → Text
line_data before line = if before == line then [] else 10 ∷ number_text (line - before)

abbrev pub row_data : Before → Row → Text
row_data b row = line_data b.line row.line ++ seen_data b.end row.seen

-- ---- what a row leaves to the next

abbrev pub none_before : Before
none_before = record { line = 0; end = 0 }

-- the page behind the last region
abbrev pub end_of_seen : ℕ → Seen → ℕ
end_of_seen end (seen.Charge charged limit) = end
end_of_seen end (seen.Region pid r) = page_of r.base + page_of r.size

abbrev pub after_row : Before → Row → Before
after_row b row = record { line = row.line; end = end_of_seen b.end row.seen }
