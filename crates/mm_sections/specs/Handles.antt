-- The handles of one process.
-- Profile, "Regions, rows, sections".
use Rattle.std.specs.Prelude.{◌≡◌, ◌≤◌, ◌<◌, ◌^◌, ℕ, ◌*◌, ◌/◌, ◌%◌, ◌==◌, true, is_some, if◌then◌else◌, Option, None, option_map}
use Rattle.mm_types.specs.{SectionId}
use Rattle.mm_world.specs.{Numbered, numbered}

-- the section of the handle 4 * i, none where it was closed; 0 is none from the start
pub record HandlesOf : Type 0 where
  pub entries : Numbered ℕ
  pub spare : ℕ  -- how many more can be added without memory

abbrev pub section_number : SectionId → ℕ
section_number id = id.0

-- the section of a handle
abbrev pub held : Numbered ℕ → ℕ → Option ℕ
held entries handle = if handle % 4 == 0 then numbered entries (handle / 4) else None

abbrev pub handle_at : ℕ → ℕ
handle_at index = 4 * index

-- ---- how they are kept: what is found by an open handle is its section

abbrev pub section_by_handle : (ℕ → Option SectionId) → ℕ → Option ℕ
section_by_handle find index = option_map section_number (find (handle_at index))

-- `lowest` is a fourth of the lowest open handle, and of the next one where none is open
pub record AreOpen (find : ℕ → Option SectionId) (lowest next : ℕ) : Type 0 where
  pub numbers : (1 ≤ lowest) × (lowest ≤ next) × (next ≤ 2 ^ 28)
  pub among : (handle : ℕ) → is_some (find handle) ≡ true → (handle % 4 ≡ 0) ×
      (4 * lowest ≤ handle) × (handle < 4 * next)
  pub first : lowest < next → is_some (find (handle_at lowest)) ≡ true
