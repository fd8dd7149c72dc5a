-- What the calls ask and promise of tables and store together.
-- Profile, "Calls".
use Rattle.std.specs.Prelude.{◌≡◌, ◌≤◌, ◌<◌, ◌+◌, ◌^◌, ℕ, true, is_some, min, Option, Some, Result, IfOk, IsOk, OnErr}
use Rattle.mm_types.specs.{Answer, NoMemory, Key, Pid, Range}
use Rattle.mm_types.specs.declared.moves.LineKind.TheVariants as line_kind
use Rattle.mm_world.specs.{Page, ProcessOf, charge, limit, Tables, blank, process_of, OutcomeOf, is_success}
use Rattle.mm_world.specs.Alloc.{commit_pages}
use Rattle.mm_store.specs.{Ghosts as PageStoreGhosts, Turn, MakesFrom, MakesStack, leaving, StoreOf, Goes}
use Rattle.mm_object_tables.specs.{FitsTables, Called, Settled, is_uncommitted, store_beside, PassesAs, MakesPages, StandsFrom}

-- a stack of these pages has room for its top pages, its guard page and one page more
pub record IsTallEnough (top : ℕ) (range : Range) : Type 0 where
  pub some : 1 ≤ top
  pub inside : top + 2 ≤ range.count

-- whatever store fits the tables fits these
abbrev pub StaysFit : Tables → Tables → Type 0
StaysFit t after =
    (c : Key → Option Page) (s : StoreOf) → FitsTables t c s → FitsTables after c s

-- the same, of a call that no store sees
abbrev pub StaysSettled : Tables → Tables → Type 0
StaysSettled t after =
    (c : Key → Option Page) (s : StoreOf) → FitsTables t c s → Settled after c c s s

module _ {G : Type 0} (p : PageStoreGhosts G) where
  -- ---- what is asked

  -- the line of a call, over a store that fits the tables
  pub record BeginsCall (t : Tables) (g : G) : Type 0 where
    pub fits : FitsTables t (p.contents g) (p.store g)
    pub kind_is : (p.store g).kind ≡ line_kind.Call

  -- the line of a call that may end pages of the process, if it lives
  pub record BeginsRelease (pid : Pid) (t : Tables) (g : G) : Type 0 where
    pub fits : FitsTables t (p.contents g) (p.store g)
    pub kind_is : is_some (process_of t pid.0) ≡ true → (p.store g).kind ≡ line_kind.Unbind pid

  -- the line of a call that has not called the device of files
  pub record BeginsWrites (t : Tables) (g : G) : Type 0 where
    pub fits : FitsTables t (p.contents g) (p.store g)
    pub kind_is : (p.store g).kind ≡ line_kind.Call
    pub begun : (p.store g).report.file_writes.failed ≡ 0

  -- the limit allows `n` keys more, and the store has room for them
  pub record HasRoomFor (n : ℕ) (t : Tables) (g : G) : Type 0 where
    pub allowed : charge t + n ≤ limit t
    pub room : charge t + n ≤ (p.store g).room

  -- ---- what came of it

  -- the call was decided as its definition says, over a store that fits the tables
  pub record AnswersCall (q : OutcomeOf (Unit {0})) (t : Tables) (g : G) (a : Answer)
      (after : Tables) (h : G) : Type 0 where
    pub called : Called q t (p.contents g) a after (p.contents h)
    pub fits : FitsTables after (p.contents h) (p.store h)
    pub beside : p.store h ≡ store_beside (p.store g) (p.store h)

  -- what a call comes to in a living process was decided as its definition says
  pub record DecidesIn (pid : Pid) (q : ProcessOf (Unit {0}) → OutcomeOf (Unit {0})) (t : Tables)
      (g : G) (a : Answer) (after : Tables) (h : G) : Type 0 where
    pub outcome : (x : ProcessOf (Unit {0})) → process_of t pid.0 ≡ Some x →
        q x ≡ record { answer = a; world = after }
    pub settled : Settled after (p.contents g) (p.contents h) (p.store g) (p.store h)

  -- memory ran out: tables and bytes are as before
  pub record LacksMemory (t : Tables) (g : G) (after : Tables) (h : G) : Type 0 where
    pub tables : after ≡ t
    pub contents : p.contents h ≡ p.contents g
    pub settled : Settled after (p.contents g) (p.contents h) (p.store g) (p.store h)

  -- something comes to be in a living process as the definition says, or memory ran out, which it
  -- does only where that succeeds
  pub record MakesIn (pid : Pid) (q : ProcessOf (Unit {0}) → OutcomeOf (Unit {0}))
      (result : Result Answer NoMemory) (t : Tables) (g : G) (after : Tables) (h : G) :
      Type 0 where
    pub done : IfOk result (λ a. DecidesIn pid q t g a after h)
    pub broke : OnErr result (LacksMemory t g after h)
    pub succeeds : OnErr result ((x : ProcessOf (Unit {0})) → process_of t pid.0 ≡ Some x →
        is_success (q x).answer ≡ true)

  -- memory ran out: nothing has changed
  pub record ChangesNothing (t : Tables) (g : G) (after : Tables) (h : G) : Type 0 where
    pub tables : after ≡ t
    pub contents : p.contents h ≡ p.contents g
    pub store : p.store h ≡ p.store g

  -- ---- moves

  -- pages of the process's places that are then uncommitted go, in rising order
  pub record LosesPages (pid : Pid) (old new : Tables) (g h : G) : Type 0 where
    pub passes : PassesAs p (Goes (leaving old pid.0 (is_uncommitted new))) g h
    pub loans : p.loans h ≡ p.loans g

  -- pages of a range come to be between any bounds that it stands in, as it does in these
  pub record MakesInRange (range : Range) (g h : G) : Type 0 where
    pub later : (p.store g).room ≤ (p.store h).room
    pub among : StandsFrom 0 (2 ^ 32) range
    pub passes : (from to : ℕ) → StandsFrom from to range → PassesAs p (MakesFrom from to) g h
    pub loans : p.loans h ≡ p.loans g

  -- pages of a stack with this guard page come to be, or memory ran out
  pub record MakesStackPages {T : Type 0} (guard : ℕ) (result : Result T NoMemory) (g h : G) :
      Type 0 where
    pub passes : PassesAs p (MakesStack guard) g h
    pub idle : OnErr result ((turn : Turn) → PassesAs p turn g h)
    pub loans : p.loans h ≡ p.loans g

  -- ---- pages that are committed

  -- pages of a living process are committed as the definition says, or memory ran out, which it
  -- does only where some of them were not committed and the store has no room for them
  pub record CommitsRange (pid : Pid) (range : Range) (prot : ℕ) (result : Result Answer NoMemory)
      (t : Tables) (g : G) (after : Tables) (h : G) : Type 0 where
    pub done : IfOk result
        (λ a. DecidesIn pid (λ x. commit_pages blank t pid.0 x range prot) t g a after h)
    pub broke : OnErr result (LacksMemory t g after h)
    pub enough : min (charge t + range.count) (limit t) ≤ (p.store g).room → IsOk result
    pub charges : OnErr result
        ((x : ProcessOf (Unit {0})) → process_of t pid.0 ≡ Some x →
        charge t < charge (commit_pages blank t pid.0 x range prot).world)
    pub makes : MakesPages p result g h
