-- Keys that are removed one after another, regions that are given up, and areas that end with their
-- sections.
use Rattle.std.specs.Prelude.{◌≡◌, ◌≤◌, ◌<◌, ℕ, zero, suc, ◌+◌, ◌-◌, Bool, true, false, ◌&&◌, ◌||◌, ◌==◌, if◌then◌else◌, is_some, Option, Some, None, List, length, count_by, remove}
use Rattle.mm_types.specs.declared.moves.LineKind.TheVariants as line_kind
use Rattle.mm_types.specs.{Area, Key, Pid, Place, Range, end_of, end_of_user_pages}
use Rattle.mm_types.specs.declared.numbers.Key.TheVariants as key
use Rattle.mm_world.specs.{Page, AreaOf, RegionOf, ProcessOf, SectionOf, numbered, no_area, area_at, process_of, section_of, set_process, own_page}
use Rattle.mm_world.specs.{settle, same_key, Tables}
use Rattle.mm_store.specs.{StoreOf, changed_in, own_key, rearranged, section_rank, AllBound, MayRemove, IsReleasing, place_at}
use Rattle.mm_move_rules.specs.{changed}
use Rattle.mm_object_tables.specs.Effects.{Effect, Ends, Leaves, bound_by}
use Rattle.mm_object_tables.specs.Fits.{FitsTables, store_beside}
use Rattle.mm_object_tables.specs.Ranges.{is_key_in}

-- ---- keys

-- one of those among the first `n` of these keys that are owned
abbrev pub is_owned_among : (ℕ → Key) → (ℕ → Bool) → ℕ → Key → Bool
is_owned_among at owned zero k = false
is_owned_among at owned (suc n) k = (owned n && same_key k (at n)) || is_owned_among at owned n k

-- how many of them there are
abbrev pub owned_among : (ℕ → Bool) → ℕ → ℕ
owned_among owned zero = 0
owned_among owned (suc n) = owned_among owned n + (if owned n then 1 else 0)

-- the keys that are held are live no more
abbrev pub without_keys : (Key → Bool) → (Key → Option Page) → Key → Option Page
without_keys held c k = if held k then None else c k

abbrev pub without_paging : (Key → Bool) → (Key → Bool) → Key → Bool
without_paging held f k = if held k then false else f k

-- their own places name nothing
abbrev pub without_names : (Key → Bool) → (Place → Option Key) → Place → Option Key
without_names held names place = if held (own_key place) then None else names place

-- a store after the keys that are held, `n` of them, were removed
pub record Gone (held : Key → Bool) (n : ℕ) (c d : Key → Option Page) (s z : StoreOf) : Type 0 where
  pub contents : d ≡ without_keys held c
  pub store : z ≡ record s {
    names = without_names held s.names;
    paging = without_paging held s.paging;
    paging_keys = s.paging_keys - n;
    report = rearranged s.report z.report;
  }

-- the key can be removed, if it is owned
pub record CanGo (k : Key) (owned : Bool) (s : StoreOf) : Type 0 where
  pub paging : owned ≡ true → s.paging k ≡ true
  pub may : owned ≡ true → MayRemove s k

-- the first `n` of these keys are others each, and can be removed where they are owned
pub record CanGoAll (at : ℕ → Key) (owned : ℕ → Bool) (n : ℕ) (s : StoreOf) : Type 0 where
  pub each : (i : ℕ) → i < n → CanGo (at i) (owned i) s
  pub apart : (i j : ℕ) → i < j → same_key (at j) (at i) ≡ false

abbrev pub own_at : Pid → ℕ → ℕ → Key
own_at pid first i = key.Private pid (record { 0 = first + i })

abbrev pub shared_at : Area → ℕ → Key
shared_at area i = key.Shared area i

abbrev pub is_owned_at : List (RegionOf (Unit {0})) → ℕ → ℕ → Bool
is_owned_at regions first i = is_some (own_page regions (first + i))

abbrev pub is_committed_in : AreaOf (Unit {0}) → ℕ → Bool
is_committed_in a i = is_some (numbered a.pages i)

-- ---- keys that are no more

-- keys that are live are as they were
abbrev pub Less : (Key → Option Page) → (Key → Option Page) → Type 0
Less c d = (k : Key) → is_some (d k) ≡ true → d k ≡ c k

-- a key of a page of the area
abbrev pub is_key_of_area : ℕ → Key → Bool
is_key_of_area area (key.Private pid page) = false
is_key_of_area area (key.Shared a i) = a.0 == area

-- ---- regions

-- what becomes of places that go, or stay
abbrev pub places_by : Bool → Effect
places_by goes = if goes then Ends else Leaves

-- pages of a process can be given up: their keys are those of the regions; and their places, or
-- these stay, and name nothing where there is no key
pub record CanRelease (goes : Bool) (pid : Pid) (range : Range)
    (regions : List (RegionOf (Unit {0}))) (c : Key → Option Page) (s : StoreOf) : Type 0 where
  pub live : (i : ℕ) → i < range.count →
      is_some (c (own_at pid range.first i)) ≡ is_owned_at regions range.first i
  pub paging : (i : ℕ) → i < range.count →
      s.paging (own_at pid range.first i) ≡ is_owned_at regions range.first i
  pub bound : goes ≡ true → AllBound s pid range true
  pub named : goes ≡ false → (i : ℕ) → i < range.count → is_owned_at regions range.first i ≡ false
      → s.names (place_at pid (range.first + i)) ≡ None
  pub unbinding : s.kind ≡ line_kind.Unbind pid

-- one page can be given up, with its key if it is owned
pub record CanGiveUp (goes : Bool) (pid : Pid) (page : ℕ) (owned : Bool) (c : Key → Option Page)
    (s : StoreOf) : Type 0 where
  pub live : is_some (c (own_key (place_at pid page))) ≡ owned
  pub paging : s.paging (own_key (place_at pid page)) ≡ owned
  pub bound : goes ≡ true → s.bound (place_at pid page) ≡ true
  pub named : goes ≡ false → owned ≡ false → s.names (place_at pid page) ≡ None
  pub unbinding : s.kind ≡ line_kind.Unbind pid

-- a store after pages of a process were given up: their keys, `n` of them, and what their places
-- name, which go too or stay bound
pub record GivenUp (goes : Bool) (pid : Pid) (range : Range) (n : ℕ) (c d : Key → Option Page)
    (s z : StoreOf) : Type 0 where
  pub contents : d ≡ without_keys (is_key_in pid range) c
  pub store : z ≡ record s {
    bound = bound_by (places_by goes) pid range s.bound;
    names = changed_in pid range s.names None;
    paging = without_paging (is_key_in pid range) s.paging;
    paging_keys = s.paging_keys - n;
    report = rearranged s.report z.report;
  }

-- these user pages of a process are bound no more
pub record AreUnbound (pid : Pid) (range : Range) (s : StoreOf) : Type 0 where
  pub each : AllBound s pid range false
  pub end : end_of range ≤ end_of_user_pages

-- ---- areas

-- an area whose section has ended: a file's stays
abbrev pub ended_area : {B : Type 0} → AreaOf B → AreaOf B
ended_area a = if is_some a.file_block then a else no_area

-- an area of which this is the number can end: no place names a page of it
pub record CanEnd (area : Area) (a : AreaOf (Unit {0})) (c : Key → Option Page) (s : StoreOf) :
    Type 0 where
  pub live : (i : ℕ) → is_some (c (shared_at area i)) ≡ is_committed_in a i
  pub paging : (i : ℕ) → s.paging (shared_at area i) ≡ is_committed_in a i
  pub unnamed : (place : Place) (i : ℕ) → s.names place ≡ Some (shared_at area i) → ⊥
  pub opened : is_some (s.areas area.0) ≡ true
  pub releasing : IsReleasing s.kind

-- a store after an area ended that is no file's
pub record Emptied (area : Area) (a : AreaOf (Unit {0})) (c d : Key → Option Page) (s z : StoreOf) :
    Type 0 where
  pub contents : d ≡ without_keys (is_key_of_area area.0) c
  pub store : z ≡ record s {
    paging = without_paging (is_key_of_area area.0) s.paging;
    paging_keys = s.paging_keys - count_by is_some a.pages;
    areas = changed ◌==◌ s.areas area.0 None;
    report = rearranged s.report z.report;
  }

-- what the end of an area is to the store: nothing where it is a file's
pub record EndsArea (area : Area) (a : AreaOf (Unit {0})) (c d : Key → Option Page)
    (s z : StoreOf) : Type 0 where
  pub file : (first : ℕ) → a.file_block ≡ Some first → (d ≡ c) × (z ≡ s)
  pub emptied : a.file_block ≡ None → Emptied area a c d s z

-- ---- the order in which areas end

-- the pages of page-file sections that a process can give up go where they have these ranks
abbrev pub IsRankFor : (ℕ → ℕ) → ℕ → Tables → Type 0
IsRankFor rank pid t = (n : ℕ) (s : SectionOf) → section_of t n ≡ Some s
    → (area_at t s.area).file_block ≡ None → 1 ≤ section_rank n (process_of t pid)
    → rank s.area ≡ section_rank n (process_of t pid)

-- ---- ends

-- one step towards the end of a process: what stays when it has ended is the same
pub record Toward (pid : ℕ) (t u : Tables) (c d : Key → Option Page) (s z : StoreOf) : Type 0 where
  pub same : settle (set_process u pid None) ≡ settle (set_process t pid None)
  pub fits : FitsTables u d z
  pub less : Less c d
  pub rest : z ≡ store_beside s z
  pub ranks : (rank : ℕ → ℕ) → IsRankFor rank pid t → IsRankFor rank pid u

-- no handle of the process is open
abbrev pub HasNoHandle : ProcessOf (Unit {0}) → Type 0
HasNoHandle p = (place : ℕ) → numbered p.handles place ≡ None

-- one region less, the lowest
pub record Fewer (p q : ProcessOf (Unit {0})) : Type 0 where
  pub left : q.regions ≡ remove p.regions 0
  pub count : length q.regions + 1 ≡ length p.regions
  pub same : q.handles ≡ p.handles
