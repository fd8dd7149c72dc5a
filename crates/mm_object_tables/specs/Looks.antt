-- What the tables tell of a page, of a handle, and of an access.
use Rattle.std.specs.Prelude.{ℕ, Bool, ◌&&◌, not, is_some, Option, option_map, option_and_then}
use Rattle.mm_world.specs.{SectionOf, Found, process_of, Home, Own, InSection, Committed, committed_at, key_of, handle_section, Tables}
use Rattle.mm_object_tables.specs.declared.looks.CommittedRow.{CommittedRow}
use Rattle.mm_object_tables.specs.declared.looks.HandleSection.{HandleSection}
use Rattle.std.specs.Prelude.{true, false}

abbrev pub is_own : {B : Type 0} → Home B → Bool
is_own (Own own) = true
is_own (InSection area index) = false

-- what an access asks of a committed row
abbrev pub told_committed : ℕ → ℕ → Committed (Unit {0}) → CommittedRow
told_committed pid page c =
    record {
      prot = record { 0 = c.row.prot };
      guard = c.row.guard;
      key = key_of pid page c.home;
      copies = c.row.marked && not (is_own c.home);
      watched = is_some c.region.thing.watched && is_own c.home;
    }

abbrev pub committed_row : Tables → ℕ → ℕ → Option CommittedRow
committed_row t pid page =
    option_and_then (λ p. option_map (told_committed pid page) (committed_at t p.regions page))
    (process_of t pid)

-- the section of a handle
abbrev pub told_section : Found SectionOf → HandleSection
told_section s = record {
  id = record { 0 = s.place };
  prot = record { 0 = s.thing.prot };
  area = record { 0 = s.thing.area };
}

abbrev pub section_at : Tables → ℕ → ℕ → Option HandleSection
section_at t pid handle = option_and_then (λ p. option_map told_section (handle_section t p handle))
    (process_of t pid)
