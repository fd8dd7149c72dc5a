-- A store in which the places of a new view are bound, and one in which pages of a section come to
-- be.
use Rattle.std.specs.Prelude.{◌≡◌, ◌≤◌, ◌<◌, ℕ, ◌+◌, ◌==◌, ◌&&◌, Bool, true, false, nat_le, nat_lt, is_some, List, length, slice_get, Option, Some, None, unwrap_or}
use Rattle.mm_types.specs.{Area, Key, Pid, View, Range}
use Rattle.mm_types.specs.declared.numbers.Key.TheVariants as key
use Rattle.mm_types.specs.declared.moves.LineKind.TheVariants as kind
use Rattle.mm_world.specs.{Page, AreaOf, ProcessOf, RegionOf, SectionOf, numbered, Found, no_area, view_region}
use Rattle.mm_store.specs.{StoreOf, changed_in}
use Rattle.mm_sections.specs.{uncommitted_in}
use Rattle.mm_object_tables.specs.declared.tables.Process.{Process}
use Rattle.mm_object_tables.specs.Ranges.{Come}
use Rattle.mm_object_tables.specs.Shown.{shown_processes}

-- ---- what is kept, by number

-- the process of a pid, and the pages of an area, among those that are kept
abbrev pub living : List (Option Process) → ℕ → Option (ProcessOf (Unit {0}))
living processes pid = numbered (shown_processes processes) pid

abbrev pub listed_area : List (AreaOf (Unit {0})) → ℕ → AreaOf (Unit {0})
listed_area areas area = unwrap_or (slice_get areas area) no_area

-- ---- a new view

-- the region of a view of these pages
abbrev pub section_of_view : View → Found SectionOf
section_of_view v = record {
  place = v.section.0;
  thing = record { prot = 0; name = None; area = v.area.0 };
}

abbrev pub region_of_view : View → Range → RegionOf (Unit {0})
region_of_view v range = view_region (section_of_view v) v.access v.first range

-- a store in which there may be more room, and nothing else is other
pub record MoreRoom (s z : StoreOf) : Type 0 where
  pub store : z ≡ record s { room = z.room }
  pub later : s.room ≤ z.room

-- one in which these places are bound besides, and name nothing
pub record NewPlaces (pid : Pid) (range : Range) (s z : StoreOf) : Type 0 where
  pub store : z ≡ record s {
    bound = changed_in pid range s.bound true;
    names = changed_in pid range s.names None;
    room = z.room;
  }
  pub later : s.room ≤ z.room

-- ---- pages of a section

-- a key of one of `count` pages of an area from the index `first` on
abbrev pub is_shared_in : Area → ℕ → ℕ → Key → Bool
is_shared_in area first count (key.Private pid v) = false
is_shared_in area first count (key.Shared a i) = (a.0 == area.0) &&
    (nat_le first i && nat_lt i (first + count))

-- keys of these pages of an open area can be added where they are not committed
pub record CanShare (area : Area) (first count : ℕ) (a : AreaOf (Unit {0})) (c : Key → Option Page)
    (s : StoreOf) : Type 0 where
  pub inside : first + count ≤ length a.pages
  pub opened : s.areas area.0 ≡ Some (length a.pages)
  pub live : (i : ℕ) → first ≤ i → i < first + count →
      is_some (c (key.Shared area i)) ≡ is_some (numbered a.pages i)
  pub paging : (i : ℕ) → first ≤ i → i < first + count →
      s.paging (key.Shared area i) ≡ is_some (numbered a.pages i)
  pub room : s.paging_keys + uncommitted_in a first count ≤ s.room
  pub called : s.kind ≡ kind.Call

-- what adding them comes to
abbrev pub Shares : Area → ℕ → ℕ → AreaOf (Unit {0}) → (Key → Option Page) → (Key → Option Page) →
    StoreOf → StoreOf → Type 0
Shares area first count a c d s z =
    Come (is_shared_in area first count) (uncommitted_in a first count) c d s z
