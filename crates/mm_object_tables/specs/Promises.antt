-- What a family of calls asks and promises of tables, store and moves together.
use Rattle.std.specs.Prelude.{◌≡◌, ◌≤◌, ℕ, ◌+◌, ◌-◌, ◌%◌, Bool, true, false, is_some, List, Option, Some, None, Result, OnErr, slice_set, if◌then◌else◌}
use Rattle.mm_types.specs.{Area, Range, end_of_user_pages, is_free, NoMemory, LineKind, Pid, View, limit_of}
use Rattle.mm_types.specs.declared.moves.LineKind.TheVariants as line_kind
use Rattle.mm_types.specs.declared.views.Kind.TheVariants as kind
use Rattle.mm_world.specs.{AreaOf, RegionOf, ProcessOf, numbered, Found, process_of, region_around, ranges_of, area_at, is_private, Tables}
use Rattle.mm_world.specs.{is_protection_among, private_protections, all_protections, is_committed_at, every_page, accepts}
use Rattle.mm_sections.specs.{CountedSection, DirectoryOf, section_settled, uncommitted_in}
use Rattle.mm_address_spaces.specs.{owned_in}
use Rattle.mm_store.specs.{Ghosts as PageStoreGhosts, AllBound, AreAmong, Turn, Turns, Makes as Making, MakesFrom, leaving, page_rank, PassesIn}
use Rattle.mm_store.specs.Housekeeping.{Ends as Ending}
use Rattle.mm_store.specs.Leaving.{Leaving}
use Rattle.mm_object_tables.specs.Effects.{Effect, RangeStored}
use Rattle.mm_object_tables.specs.Endings.{Less, Toward, GivenUp, is_owned_at, owned_among}
use Rattle.mm_object_tables.specs.Fits.{FitsTables, Settled, before_process, is_uncommitted, new_marks}
use Rattle.mm_object_tables.specs.Ranges.{Adds, StandsFrom, passing, is_page_live}
use Rattle.mm_object_tables.specs.ViewChanges.{NewPlaces, Shares}

-- ---- what is asked

-- free pages from a granule's first on
pub record IsNewPlace (regions : List (RegionOf (Unit {0}))) (range : Range) : Type 0 where
  pub free : is_free (ranges_of regions) range ≡ true
  pub granule : range.first % 16 ≡ 0

-- at least one of them
pub record IsNewRange (regions : List (RegionOf (Unit {0}))) (range : Range) : Type 0 where
  pub free : is_free (ranges_of regions) range ≡ true
  pub granule : range.first % 16 ≡ 0
  pub some : 1 ≤ range.count

-- pages of one private region of a process, of which `n` are not committed, with a protection that
-- they can get
pub record CommitsPages (pid : Pid) (range : Range) (prot n : ℕ) (t : Tables) : Type 0 where
  pub inside : (p : ProcessOf (Unit {0})) → process_of t pid.0 ≡ Some p →
      is_some (region_around p.regions range) ≡ true
  pub private : (p : ProcessOf (Unit {0})) (r : Found (RegionOf (Unit {0}))) →
      process_of t pid.0 ≡ Some p → region_around p.regions range ≡ Some r →
      is_private r.thing.kind ≡ true
  pub allowed : is_protection_among private_protections prot ≡ true
  pub counted : (p : ProcessOf (Unit {0})) → process_of t pid.0 ≡ Some p →
      n + owned_in p.regions range ≡ range.count

-- pages of one view of a page-file section, under which `n` section pages are not committed, with a
-- protection that its rows accept
pub record CommitsInView (pid : Pid) (range : Range) (prot n : ℕ) (t : Tables) : Type 0 where
  pub inside : (p : ProcessOf (Unit {0})) → process_of t pid.0 ≡ Some p →
      is_some (region_around p.regions range) ≡ true
  pub view : (p : ProcessOf (Unit {0})) (r : Found (RegionOf (Unit {0}))) →
      process_of t pid.0 ≡ Some p → region_around p.regions range ≡ Some r →
      is_private r.thing.kind ≡ false
  pub paging : (p : ProcessOf (Unit {0})) (r : Found (RegionOf (Unit {0}))) (v : View) →
      process_of t pid.0 ≡ Some p → region_around p.regions range ≡ Some r →
      r.thing.kind ≡ kind.View v → (area_at t v.area.0).file_block ≡ None
  pub allowed : is_protection_among private_protections prot ≡ true
  pub accepted : (p : ProcessOf (Unit {0})) (r : Found (RegionOf (Unit {0}))) →
      process_of t pid.0 ≡ Some p → region_around p.regions range ≡ Some r →
      every_page (accepts r.thing prot) range ≡ true
  pub counted : (p : ProcessOf (Unit {0})) (r : Found (RegionOf (Unit {0}))) (v : View) →
      process_of t pid.0 ≡ Some p → region_around p.regions range ≡ Some r →
      r.thing.kind ≡ kind.View v →
      n ≡ uncommitted_in (area_at t v.area.0) (v.first + (range.first - r.thing.base)) range.count

-- committed pages of one region, which accept the protection and of which it marks `n`
pub record CanProtectAll (pid : Pid) (range : Range) (prot n : ℕ) (t : Tables) : Type 0 where
  pub inside : (p : ProcessOf (Unit {0})) → process_of t pid.0 ≡ Some p →
      is_some (region_around p.regions range) ≡ true
  pub allowed : is_protection_among all_protections prot ≡ true
  pub committed : (p : ProcessOf (Unit {0})) (r : Found (RegionOf (Unit {0}))) →
      process_of t pid.0 ≡ Some p → region_around p.regions range ≡ Some r →
      every_page (is_committed_at t r.thing) range ≡ true
  pub accepted : (p : ProcessOf (Unit {0})) (r : Found (RegionOf (Unit {0}))) →
      process_of t pid.0 ≡ Some p → region_around p.regions range ≡ Some r →
      every_page (accepts r.thing prot) range ≡ true
  pub counted : (p : ProcessOf (Unit {0})) → process_of t pid.0 ≡ Some p →
      n ≡ new_marks p.regions range prot

-- ---- references

-- one reference less, which `less` takes off what is counted: what is left of a section, and its
-- area where it ended
pub record LosesReference (less : CountedSection → CountedSection) (number : ℕ)
    (old new : DirectoryOf) (result : Option Area) : Type 0 where
  pub dropped : (c : CountedSection) → numbered old.entries number ≡ Some c →
      new ≡ record old { entries = slice_set old.entries number (section_settled (less c)) }
  pub ended : (c : CountedSection) → numbered old.entries number ≡ Some c →
      result ≡ (if is_some (section_settled (less c)) then None else
      Some (record { 0 = c.section.area }))

module _ {G : Type 0} (p : PageStoreGhosts G) where
  -- a line of this kind, in which the process lives and the store fits the tables
  pub record IsReadyFor (kind : LineKind) (pid : Pid) (t : Tables) (g : G) : Type 0 where
    pub fits : FitsTables t (p.contents g) (p.store g)
    pub kind_is : (p.store g).kind ≡ kind
    pub lives : is_some (process_of t pid.0) ≡ true

  -- the line of a process that is to be made, which the store counts already
  pub record StartsProcess (pid : Pid) (min max : ℕ) (t : Tables) (g : G) : Type 0 where
    pub kind_is : (p.store g).kind ≡ line_kind.Process pid min max
    pub fits : FitsTables t (p.contents g) (before_process t (p.store g))
    pub last_pid : (p.store g).last_pid ≡ pid.0

  -- places of an open process that are not bound can be, with room for `total` keys
  pub record CanBind (pid : Pid) (range : Range) (total : ℕ) (g : G) : Type 0 where
    pub within : total ≤ limit_of (p.store g).machine
    pub opened : (p.store g).is_open pid.0 ≡ true
    pub unbound : AllBound (p.store g) pid range false

  -- ---- moves

  -- the moves of a call are of this turn
  abbrev pub PassesAs : Turn → G → G → Type 0
  PassesAs turn g h =
      PassesIn p.unpaged (Turns turn) (p.store g) (p.store h) (p.behind g) (p.behind h)

  -- no page comes or goes: the call is of any turn
  pub record StaysIdle (g h : G) : Type 0 where
    pub passes : (turn : Turn) → PassesAs turn g h
    pub loans : p.loans h ≡ p.loans g

  -- and all bytes stay
  pub record IdlesOver (g h : G) : Type 0 where
    pub contents : p.contents h ≡ p.contents g
    pub passes : (turn : Turn) → PassesAs turn g h
    pub loans : p.loans h ≡ p.loans g

  -- pages of this range of a process are given up
  pub record GivesUpPages (goes : Bool) (pid : Pid) (range : Range) (g h : G) : Type 0 where
    pub given_up : GivenUp goes pid range
        (passing (is_page_live pid (p.contents g)) range.first range.count) (p.contents g)
        (p.contents h) (p.store g) (p.store h)
    pub passes : (held : Leaving) (from to : ℕ) → AreAmong held from to pid range →
        PassesAs (Ending held from to) g h
    pub loans : p.loans h ≡ p.loans g

  -- those of these pages that regions have with bytes of their own are given up
  pub record GivesUpOwn (regions : List (RegionOf (Unit {0}))) (goes : Bool) (pid : Pid)
      (range : Range) (g h : G) : Type 0 where
    pub given_up : GivenUp goes pid range
        (owned_among (is_owned_at regions range.first) range.count) (p.contents g) (p.contents h)
        (p.store g) (p.store h)
    pub passes : (held : Leaving) (from to : ℕ) → AreAmong held from to pid range →
        PassesAs (Ending held from to) g h
    pub loans : p.loans h ≡ p.loans g

  -- those of these pages that had no key have one
  pub record AddsOwn (pid : Pid) (range : Range) (g h : G) : Type 0 where
    pub adds : Adds pid range (p.contents g) (p.contents h) (p.store g) (p.store h)
    pub passes : (from to : ℕ) → StandsFrom from to range → PassesAs (MakesFrom from to) g h
    pub loans : p.loans h ≡ p.loans g

  -- these pages of a section have keys
  pub record SharesPages (area : Area) (first count : ℕ) (a : AreaOf (Unit {0})) (g h : G) :
      Type 0 where
    pub shares : Shares area first count a (p.contents g) (p.contents h) (p.store g) (p.store h)
    pub passes : PassesAs Making g h
    pub loans : p.loans h ≡ p.loans g

  -- pages come to be from the first bound to the second, or memory ran out
  pub record MakesWithin {T : Type 0} (Stand : ℕ → ℕ → Type 0) (result : Result T NoMemory)
      (g h : G) : Type 0 where
    pub later : (p.store g).room ≤ (p.store h).room
    pub passes : (from to : ℕ) → Stand from to → PassesAs (MakesFrom from to) g h
    pub idle : OnErr result ((turn : Turn) → PassesAs turn g h)
    pub loans : p.loans h ≡ p.loans g

  -- pages come to be, or memory ran out
  pub record MakesPages {T : Type 0} (result : Result T NoMemory) (g h : G) : Type 0 where
    pub passes : PassesAs Making g h
    pub idle : OnErr result ((turn : Turn) → PassesAs turn g h)
    pub loans : p.loans h ≡ p.loans g

  -- ---- keys and places of a range

  -- a store with `n` keys more, and room for `total`
  pub record AddsKeys (pid : Pid) (range : Range) (keys places : Effect) (clears : Bool)
      (n total : ℕ)
      (g h : G) : Type 0 where
    pub stored : RangeStored pid range keys places clears (p.contents g) (p.contents h) (p.store g)
        (p.store h)
    pub counted : (p.store h).paging_keys ≡ (p.store g).paging_keys + n
    pub room : total ≤ (p.store h).room

  -- one in which the places of the range are bound, with room for `total` keys
  pub record BindsPlaces (pid : Pid) (range : Range) (total : ℕ) (g h : G) : Type 0 where
    pub bound : NewPlaces pid range (p.store g) (p.store h)
    pub room : total ≤ (p.store h).room

  -- ---- tables and store

  -- both change together; where memory ran out, tables and bytes are as before
  pub record SettlesTables {T : Type 0} (result : Result T NoMemory) (old new : Tables) (g h : G) :
      Type 0 where
    pub err : OnErr result ((new ≡ old) × (p.contents h ≡ p.contents g))
    pub settled : Settled new (p.contents g) (p.contents h) (p.store g) (p.store h)

  -- pages of this range of a process go, those that are not committed any more among them
  pub record Frees (pid : Pid) (range : Range) (old new : Tables) (g h : G) : Type 0 where
    pub settled : Settled new (p.contents g) (p.contents h) (p.store g) (p.store h)
    pub among : AreAmong (leaving old pid.0 (is_uncommitted new)) 1 (page_rank end_of_user_pages)
        pid range
    pub passes : (held : Leaving) (from to : ℕ) → AreAmong held from to pid range →
        PassesAs (Ending held from to) g h
    pub loans : p.loans h ≡ p.loans g

  -- both change together, and keys that live on keep their bytes
  pub record Shrinks (new : Tables) (g h : G) : Type 0 where
    pub settled : Settled new (p.contents g) (p.contents h) (p.store g) (p.store h)
    pub less : Less (p.contents g) (p.contents h)
    pub loans : p.loans h ≡ p.loans g

  -- a step towards the end of a process, which still lives
  pub record Nears (pid : Pid) (old new : Tables) (g h : G) : Type 0 where
    pub toward : Toward pid.0 old new (p.contents g) (p.contents h) (p.store g) (p.store h)
    pub lives : is_some (process_of new pid.0) ≡ true
    pub loans : p.loans h ≡ p.loans g
