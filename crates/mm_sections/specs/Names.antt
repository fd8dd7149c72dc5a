-- How the names of sections and of files are kept beside the tables.
-- Profile, "Regions, rows, sections".
use Rattle.std.specs.Prelude.{◌≡◌, ◌≤◌, ℕ, true, Bool, if◌then◌else◌, nat_lt, Option, Some, None, option_map, bytes_eq}
use Rattle.std.specs.HashMap.{HashMap, get}
use Rattle.mm_types.specs.{SectionId, Area, Text}
use Rattle.mm_world.specs.{Numbered, numbered, SectionOf, FileOf, is_named}
use Rattle.mm_sections.specs.declared.entries.Entry.{Entry}
use Rattle.mm_sections.specs.declared.name_keys.NameKey.{NameKey}
use Rattle.mm_sections.specs.Directories.{CountedSection}
use Rattle.mm_sections.specs.Handles.{section_number}

abbrev pub counted_section : Entry → CountedSection
counted_section e =
    record {
      section = record { prot = e.prot.0; name = e.name; area = e.area.0 };
      handles = e.handles;
      views = e.views;
    }

abbrev pub name_key : Text → NameKey
name_key name = record { name = name }

abbrev pub same_name : NameKey → NameKey → Bool
same_name a b = bytes_eq a.name b.name

-- a file as it is kept: its name and its control area
abbrev pub file_of : NameKey × Area → FileOf
file_of f = record { name = f.0.name; area = f.1.0 }

-- the number of the section with a name
abbrev pub found_by : {S : Type 0} → HashMap NameKey SectionId S → Text → Option ℕ
found_by names name = option_map section_number (get same_name names (name_key name))

-- the name that a section loses where no handle refers to it
abbrev pub name_lost : CountedSection → Option Text
name_lost c = if nat_lt 0 c.handles then None else c.section.name

-- what is found by names without one of them, and with one more
abbrev pub without_name : Option Text → (Text → Option ℕ) → Text → Option ℕ
without_name None find t = find t
without_name (Some name) find t = if bytes_eq name t then None else find t

abbrev pub with_name : Option Text → ℕ → (Text → Option ℕ) → Text → Option ℕ
with_name None number find t = find t
with_name (Some name) number find t = if bytes_eq name t then Some number else find t

-- what is found by a name is the one section that has it
pub record IsNameIndex (find : Text → Option ℕ) (sections : Numbered SectionOf) : Type 0 where
  pub named : (name : Text) (number : ℕ) → find name ≡ Some number →
      is_named name (numbered sections number) ≡ true
  pub found : (name : Text) (number : ℕ) → is_named name (numbered sections number) ≡ true →
      find name ≡ Some number

-- so much room is in each of three collections
pub record IsRoom (room a b c : ℕ) : Type 0 where
  pub first : room ≤ a
  pub second : room ≤ b
  pub third : room ≤ c
