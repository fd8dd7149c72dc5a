-- The sections and the files of a machine.
-- Profile, "Regions, rows, sections".
use Rattle.std.specs.Prelude.{◌≤◌, ◌<◌, ℕ, ◌+◌, ◌-◌, ◌^◌, nat_lt, if◌then◌else◌, List, map, Option, Some, None, option_map}
use Rattle.mm_sections.specs.declared.directories.Section.{Section}
use Rattle.mm_sections.specs.declared.entries.ReferenceChange.{ReferenceChange}
use Rattle.mm_sections.specs.declared.entries.ReferenceChange.TheVariants as change
use Rattle.mm_types.specs.{SectionId, Area, Text}
use Rattle.mm_world.specs.{Numbered, SectionOf, FileOf}

-- a section that lives, and how many handles and views refer to it
pub record CountedSection : Type 0 where
  pub section : SectionOf
  pub handles : ℕ
  pub views : ℕ

pub record DirectoryOf : Type 0 where
  pub entries : Numbered CountedSection
  pub files : List FileOf
  pub spare : ℕ  -- for how many sections and files there is room

abbrev pub section_in : CountedSection → SectionOf
section_in c = c.section

-- the sections as a world has them
abbrev pub sections_of : Numbered CountedSection → Numbered SectionOf
sections_of entries = map (option_map section_in) entries

-- what is told of a section
abbrev pub told_of_section : CountedSection → Section
told_of_section c = record {
  prot = record { 0 = c.section.prot };
  area = record
      { 0 = c.section.area };
}

-- a section lives while a handle or a view refers to it, its name while a handle does
abbrev pub section_settled : CountedSection → Option CountedSection
section_settled c =
    if nat_lt 0 c.handles then Some c
    else if nat_lt 0 c.views then Some (record c { section = record (c.section) { name = None } })
    else None

abbrev pub new_entry : ℕ → Option Text → ℕ → CountedSection
new_entry prot name area = record {
  section = record { prot = prot; name = name; area = area };
  handles = 0;
  views = 0;
}

abbrev pub one_handle_more : CountedSection → CountedSection
one_handle_more c = record c { handles = c.handles + 1 }

abbrev pub one_view_more : CountedSection → CountedSection
one_view_more c = record c { views = c.views + 1 }

abbrev pub one_handle_less : CountedSection → CountedSection
one_handle_less c = record c { handles = c.handles - 1 }

abbrev pub one_view_less : CountedSection → CountedSection
one_view_less c = record c { views = c.views - 1 }

-- a section with one reference more or less, and where the counts allow it
abbrev pub recounted : ReferenceChange → CountedSection → CountedSection
recounted change.HandleMore = one_handle_more
recounted change.ViewMore = one_view_more
recounted change.HandleLess = one_handle_less
recounted change.ViewLess = one_view_less

abbrev pub CanRecount : ReferenceChange → CountedSection → Type 0
CanRecount change.HandleMore c = c.handles < 2 ^ 60
CanRecount change.ViewMore c = c.views < 2 ^ 60
CanRecount change.HandleLess c = 1 ≤ c.handles
CanRecount change.ViewLess c = 1 ≤ c.views

abbrev pub id_of : ℕ → SectionId
id_of number = record { 0 = number }

abbrev pub area_of : FileOf → Area
area_of f = record { 0 = f.area }
