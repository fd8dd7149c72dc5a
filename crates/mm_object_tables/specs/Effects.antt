-- What a call does to the keys and places of a range of a process, and to the process's regions
-- with them.
use Rattle.std.specs.Prelude.{◌≡◌, ◌≤◌, ◌+◌, ◌==◌, if◌then◌else◌, ℕ, Bool, true, false, cond, is_some, List, Option, Some, None, option_map}
use Rattle.mm_types.specs.{Key, Pid, Place, Range, holds_page, limit_of, reserve_type}
use Rattle.mm_types.specs.declared.moves.LineKind.TheVariants as kind
use Rattle.mm_world.specs.{Page, RegionOf, region_with, own_page, key_of, committed_at, Tables}
use Rattle.mm_store.specs.{StoreOf, changed_in, own_key, AllBound, place_at}
use Rattle.mm_object_tables.specs.Fits.{store_beside, new_pages}
use Rattle.mm_object_tables.specs.Ranges.{with_range_keys, removed, flags_set_in, is_page_live}

-- each of the range comes to be, none of it is any more, or all are as they were
pub data Effect : Type 0 where
  Makes : Effect
  Ends : Effect
  Leaves : Effect

abbrev pub after : Effect → Bool → Bool → Bool
after Makes held before = cond held true before
after Ends held before = cond held false before
after Leaves held before = before

abbrev pub contents_by : Effect → Pid → Range → (Key → Option Page) → Key → Option Page
contents_by Makes pid range c = with_range_keys pid range c
contents_by Ends pid range c = removed pid range c
contents_by Leaves pid range c = c

abbrev pub paging_by : Effect → Pid → Range → (Key → Bool) → Key → Bool
paging_by Makes pid range f = flags_set_in pid range f true
paging_by Ends pid range f = flags_set_in pid range f false
paging_by Leaves pid range f = f

abbrev pub bound_by : Effect → Pid → Range → (Place → Bool) → Place → Bool
bound_by Makes pid range f = changed_in pid range f true
bound_by Ends pid range f = changed_in pid range f false
bound_by Leaves pid range f = f

-- the places of the range name nothing from now on, or what they named
abbrev pub names_by : Bool → Pid → Range → (Place → Option Key) → Place → Option Key
names_by true pid range names = changed_in pid range names None
names_by false pid range names = names

-- a store after a call on a range
pub record RangeStored (pid : Pid) (range : Range) (keys places : Effect) (clears : Bool)
    (c d : Key → Option Page) (s z : StoreOf) : Type 0 where
  pub contents : d ≡ contents_by keys pid range c
  pub paging : z.paging ≡ paging_by keys pid range s.paging
  pub bound : z.bound ≡ bound_by places pid range s.bound
  pub names : z.names ≡ names_by clears pid range s.names
  pub open_same : z.is_open ≡ s.is_open
  pub areas_same : z.areas ≡ s.areas
  pub same : z ≡ store_beside s z

-- the key of the committed row of a page
abbrev pub key_in : Tables → ℕ → List (RegionOf (Unit {0})) → ℕ → Option Key
key_in t pid rs page = option_map (λ c. key_of pid page c.home) (committed_at t rs page)

-- what the pages of the regions of a process have after it, in tables with the same areas; a name
-- that is not cleared stays
pub record Moves (t : Tables) (pid : Pid) (range : Range) (keys places : Effect) (clears : Bool)
    (rs ss : List (RegionOf (Unit {0}))) : Type 0 where
  pub owned : (v : ℕ) →
      is_some (own_page ss v) ≡ after keys (holds_page range v) (is_some (own_page rs v))
  pub reserved : (v : ℕ) →
      is_some (region_with ss v) ≡ after places (holds_page range v) (is_some (region_with rs v))
  pub named : (v : ℕ) (k : Key) → (clears ≡ true → holds_page range v ≡ false) →
      key_in t pid.0 rs v ≡ Some k → key_in t pid.0 ss v ≡ Some k

-- a store in which there may be more room, and nothing else is other
pub record Roomier (c d : Key → Option Page) (s z : StoreOf) : Type 0 where
  pub contents : d ≡ c
  pub store : z ≡ record s { room = z.room }
  pub later : s.room ≤ z.room

-- a new region's pages come to be where it is committed
abbrev pub keys_of : ℕ → Effect
keys_of type = if type == reserve_type then Leaves else Makes

-- a region can be made of these pages of a process, and `total` keys are room enough for them
pub record CanMake (pid : Pid) (range : Range) (type total : ℕ)
    (regions : List (RegionOf (Unit {0}))) (c : Key → Option Page) (s : StoreOf) : Type 0 where
  pub live : (page : ℕ) → holds_page range page ≡ true →
      is_page_live pid c page ≡ is_some (own_page regions page)
  pub dead : (page : ℕ) → holds_page range page ≡ true → is_some (own_page regions page) ≡ false
  pub opened : s.is_open pid.0 ≡ true
  pub unbound : AllBound s pid range false
  pub paging : (page : ℕ) → holds_page range page ≡ true →
      s.paging (own_key (place_at pid page)) ≡ is_page_live pid c page
  pub few : s.paging_keys + new_pages type range ≤ total
  pub within : total ≤ limit_of s.machine
  pub called : s.kind ≡ kind.Call
