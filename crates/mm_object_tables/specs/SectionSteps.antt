-- The steps in which a section is made: room for a handle, and the keys of a new area.
use Rattle.std.specs.Prelude.{◌≡◌, ◌≤◌, ◌<◌, ℕ, ◌+◌, ◌^◌, Bool, false, ◌&&◌, ◌==◌, nat_lt, length, Option, Some, None}
use Rattle.mm_types.specs.{Area, Key}
use Rattle.mm_types.specs.declared.numbers.Key.TheVariants as key
use Rattle.mm_types.specs.declared.moves.LineKind.TheVariants as kind
use Rattle.mm_world.specs.{Page}
use Rattle.mm_store.specs.{StoreOf, rearranged}
use Rattle.mm_move_rules.specs.{changed}
use Rattle.mm_sections.specs.{DirectoryOf, HandlesOf}
use Rattle.mm_object_tables.specs.Ranges.{with_flags, with_live}

-- a handle can be given without memory, and there is a number for it
pub record CanGive (handles : HandlesOf) : Type 0 where
  pub room : 1 ≤ handles.spare
  pub few : length handles.entries < 2 ^ 28

-- a directory of the same sections and files
pub record IsListedAs (old new : DirectoryOf) : Type 0 where
  pub entries : new.entries ≡ old.entries
  pub files : new.files ≡ old.files

-- ---- keys

-- one of the first `n` pages of the area
abbrev pub is_page_of : Area → ℕ → Key → Bool
is_page_of area n (key.Private pid vpn) = false
is_page_of area n (key.Shared a i) = (a.0 == area.0) && nat_lt i n

-- the first `n` pages of an open area have no keys yet, and there is room for them
pub record CanFill (area : Area) (n : ℕ) (c : Key → Option Page) (s : StoreOf) : Type 0 where
  pub dead : (i : ℕ) → i < n → c (key.Shared area i) ≡ None
  pub pages : ℕ
  pub opened : s.areas area.0 ≡ Some pages
  pub within : n ≤ pages
  pub room : s.paging_keys + n ≤ s.room
  pub called : s.kind ≡ kind.Call

-- the next area can be opened with so many pages, of which the first `n` get keys
pub record IsNewArea (area : Area) (pages n : ℕ) (c : Key → Option Page) (s : StoreOf) : Type 0
  where
    pub new : s.areas area.0 ≡ None
    pub few : area.0 < 2 ^ 28
    pub some : 1 ≤ pages
    pub within : n ≤ pages
    pub dead : (i : ℕ) → c (key.Shared area i) ≡ None

-- an area was opened, and its first `n` pages have keys
pub record Opens (area : Area) (pages n : ℕ) (c d : Key → Option Page) (s z : StoreOf) :
    Type 0 where
  pub contents : d ≡ with_live (is_page_of area n) c
  pub store : z ≡ record s {
    paging = with_flags (is_page_of area n) s.paging;
    paging_keys = s.paging_keys + n;
    report = rearranged s.report z.report;
    areas = changed ◌==◌ s.areas area.0 (Some pages);
    room = z.room;
  }
