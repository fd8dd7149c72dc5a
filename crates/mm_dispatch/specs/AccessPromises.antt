-- What the functions of an access ask and promise of tables, store and moves together.
use Rattle.std.specs.Prelude.{◌≡◌, ◌≤◌, ℕ, ◌+◌, ◌%◌, Bool, true, false, List, Some, None, is_some, Result, IsOk, OnErr, if◌then◌else◌}
use Rattle.mm_types.specs.{Answer, Why, Event, PageFault, Move, Key, Pid, Place, Tid, Access, page_of}
use Rattle.mm_types.specs.declared.answers.Wait.TheVariants as wait
use Rattle.mm_types.specs.declared.events.Event.TheVariants as event
use Rattle.mm_types.specs.declared.moves.LineKind.TheVariants as line_kind
use Rattle.mm_types.specs.declared.protections.Access.TheVariants as access_kind
use Rattle.mm_move_rules.specs.{is_thread}
use Rattle.mm_world.specs.{Attempt, ReadOf, WriteOf, Execute, Tables, Need, process_of, private_key, keep, kept_by, Spaces}
use Rattle.mm_store.specs.{Aim, Touches, Copies, Starts, Forgets, place_at, touch, copying, IsReady, MayAccess, waits_at_once, IsBegun, Served}
use Rattle.mm_store.specs.{SomeFailed, started, Ghosts as PageStoreGhosts}
use Rattle.mm_store.specs.Behind.{Behind}
use Rattle.mm_store.specs.declared.outcomes.Start.TheVariants as start
use Rattle.mm_object_tables.specs.{CommittedRow, key_at}
use Rattle.mm_dispatch.specs.declared.threads.Threaded.{Threaded}
use Rattle.mm_dispatch.specs.declared.threads.Threaded.TheVariants as threaded
use Rattle.mm_dispatch.specs.Accessing.{Admits, Accessed, IsHad}
use Rattle.mm_dispatch.specs.Answering.{Answered, TurnedBy}
use Rattle.mm_dispatch.specs.Forgetting.{waited}
use Rattle.mm_dispatch.specs.LinePromises.{StartsLine, StartsOn}
use Rattle.mm_dispatch.specs.Over.{FitsOver, KeepsOver, PassesOver, aim_over, world_over}
use Rattle.mm_dispatch.specs.Pending.{ThreadWent}

-- at most 64 bytes from an address on, in one page
pub record LieInPage (addr len : ℕ) : Type 0 where
  pub few : len ≤ 64
  pub inside : addr % 4096 + len ≤ 4096

-- the line of a plain access
abbrev pub access_line : Pid → ℕ → Attempt → Event
access_line pid addr (ReadOf len) = event.Read pid addr len
access_line pid addr (WriteOf bytes) = event.Write pid addr bytes
access_line pid addr Execute = event.Exec pid addr

-- what an access of this kind needs of the page of a row
abbrev pub row_need : Access → CommittedRow → Place → Need
row_need access_kind.Write row place =
    if row.copies then copying row.key place else touch row.key
row_need access_kind.Read row place = touch row.key
row_need access_kind.Execute row place = touch row.key

module _ {G : Type 0} (p : PageStoreGhosts G) where
  -- ---- at a place

  -- the place has this key, and may be accessed for this need, over a store that fits the tables
  pub record CanReach (t : Tables) (place : Place) (key : Key) (need : Need) (g : G) : Type 0 where
    pub fits : FitsOver p t g
    pub at : key_at t place ≡ Some key
    pub may : MayAccess (p.store g) place need

  -- the row of the address permits a write, which copies, in a line that has called no device
  pub record MayCopyOnWrite (t : Tables) (pid : Pid) (addr : ℕ) (row : CommittedRow) (g : G) :
      Type 0 where
    pub fits : FitsOver p t g
    pub spaces : Spaces t
    pub admitted : Admits t pid.0 addr access_kind.Write row
    pub copies : row.copies ≡ true
    pub may : MayAccess (p.store g) (place_at pid (page_of addr))
        (copying row.key (place_at pid (page_of addr)))
    pub begun : IsBegun (p.store g).report

  -- the page of the address has a key of its own, and is ready for it
  pub record HasOwn (t : Tables) (pid : Pid) (addr : ℕ) (g : G) : Type 0 where
    pub at : key_at t (place_at pid (page_of addr)) ≡ Some (private_key pid.0 (page_of addr))
    pub ready : IsReady (p.store g) (place_at pid (page_of addr))
        (touch (private_key pid.0 (page_of addr)))

  -- An access of a place ended, with moves of which this holds: it fails only where a device
  -- failed, and neither where the place was ready nor over a store that pages nothing.
  pub record AccessEnded (Moved : Behind → List Move → Behind → Type 0) {T : Type 0}
      (place : Place) (need : Need) (result : Result T PageFault) (after : Tables) (g h : G) :
      Type 0 where
    pub fits : FitsOver p after h
    pub line : (p.store h).line ≡ (p.store g).line
    pub served : Served (p.store g) (p.store h)
    pub blamed : OnErr result (SomeFailed (p.store g) (p.store h))
    pub was_ready : IsReady (p.store g) place need → IsOk result
    pub unpaged : p.unpaged ≡ true → IsOk result
    pub passes : PassesOver p Moved g h
    pub loans : p.loans h ≡ p.loans g

  -- the aim of an access of this place for this need
  abbrev pub aim_for : Place → Need → Bool → G → Aim
  aim_for place need writes g = record {
    place = place;
    need = need;
    writes = writes;
    start = (p.behind g).life;
  }

  -- bytes of a key were accessed at the page of an address
  abbrev pub Touched : {T : Type 0} → Pid → ℕ → Key → Bool → Result T PageFault → Tables → G → G →
      Type 0
  Touched pid addr key writes result t g h =
      let place = place_at pid (page_of addr) in
      AccessEnded (Touches (aim_for place (touch key) writes g)
      (IsReady (p.store g) place (touch key)) result) place (touch key) result t g h

  -- the page of an address, which had this key, got a copy of its own
  abbrev pub Copied : {T : Type 0} → Pid → ℕ → Key → Result T PageFault → Tables → G → G → Type 0
  Copied pid addr key result after g h =
      let place = place_at pid (page_of addr) in
      AccessEnded (Copies (aim_for place (copying key place) true g)
      (IsReady (p.store g) place (copying key place)) result) place (copying key place) result
      after g h

  -- ---- of a row

  -- the row of the address permits this access, in a line that has called no device
  pub record CanAccess (kind : Access) (t : Tables) (pid : Pid) (addr : ℕ) (row : CommittedRow)
      (need : Need) (g : G) : Type 0 where
    pub keeps : KeepsOver p t g
    pub spaces : Spaces t
    pub admitted : Admits t pid.0 addr kind row
    pub at : key_at t (place_at pid (page_of addr)) ≡ Some row.key
    pub may : MayAccess (p.store g) (place_at pid (page_of addr)) need
    pub begun : IsBegun (p.store g).report

  -- it was made, or failed
  pub record AccessDone (what : Attempt) (pid : Pid) (addr : ℕ) (need : Need) (t : Tables) (g : G)
      (a : Answer) (after : Tables) (h : G) : Type 0 where
    pub accessed : Accessed p.unpaged (world_over p t g) pid.0 addr what (p.store g) (p.store h) a
        (world_over p after h)
    pub keeps : KeepsOver p after h
    pub had : IsReady (p.store g) (place_at pid (page_of addr)) need → IsHad need (p.store h).report
    pub line : (p.store h).line ≡ (p.store g).line
    pub passes : PassesOver p (Answered (aim_over p t g pid addr what)
        (IsReady (p.store g) (place_at pid (page_of addr)) need) a (p.store h).report) g h

  -- the line of an access of this kind has begun, and the row of its address permits it
  pub record EntersLine (kind : Access) (n : ℕ) (pid : Pid) (addr : ℕ) (row : CommittedRow)
      (t : Tables) (g : G) (after : Tables) (h : G) : Type 0 where
    pub can : (need : Need) → CanAccess kind after pid addr row need h
    pub same : after ≡ t
    pub on : StartsOn p n t pid (line_kind.Access pid) true g h

  -- ---- of a thread

  -- the line of a thread's access to the process has begun
  pub record CanTurn (t : Tables) (pid : Pid) (g : G) : Type 0 where
    pub keeps : KeepsOver p t g
    pub form : (p.store g).kind ≡ line_kind.Thread pid
    pub begun : IsBegun (p.store g).report

  -- what is told beside how it turned out
  pub record TurnKeeps (result : Threaded) (g h : G) : Type 0 where
    pub line : (p.store h).line ≡ (p.store g).line
    pub unpaged : p.unpaged ≡ true → (why : Why) → result ≡ threaded.Waiting why → ⊥
    pub loans : p.loans h ≡ p.loans g

  -- how it went, whose wait failed or not
  pub record TurnsAccess (what : Attempt) (tid : ℕ) (pid : Pid) (addr : ℕ) (failed : Bool)
      (t : Tables) (g : G) (result : Threaded) (after : Tables) (h : G) : Type 0 where
    pub turned : ThreadWent result failed t.machine.depth (world_over p t g) pid.0 addr what
        (p.store g) (p.store h) (world_over p after h)
    pub keeps : KeepsOver p after h
    pub rest : TurnKeeps result g h
    pub passes : PassesOver p
        (TurnedBy (aim_over p t g pid addr what) tid result (p.store h).report) g h

  -- the row of the address permits an access of this kind, and the store has what it needs
  pub record ReadyFor (kind : Access) (tid : ℕ) (pid : Pid) (addr : ℕ) (row : CommittedRow)
      (failed : Bool) (t : Tables) (g : G) (after : Tables) (h : G) : Type 0 where
    pub can : CanAccess kind after pid addr row (row_need kind row (place_at pid (page_of addr))) h
    pub admitted : Admits t pid.0 addr kind row
    pub same : after ≡ t
    pub fine : failed ≡ false
    pub contents : p.contents h ≡ p.contents g
    pub store : p.store h ≡ started (p.store g) (p.store h)
    pub ready : IsReady (p.store h) (place_at pid (page_of addr))
        (row_need kind row (place_at pid (page_of addr)))
    pub at_once : waits_at_once t.machine.depth row.key (p.store g).report ≡ None
    pub thread : p.unpaged ≡ false → is_thread (p.behind g).life.kind ≡ true
    pub passes : (writes : Bool) → PassesOver p (Starts (aim_for (place_at pid (page_of addr))
        (row_need kind row (place_at pid (page_of addr))) writes g) tid start.Ready) g h
    pub loans : p.loans h ≡ p.loans g

  -- the line of a thread's access to a process has begun; one that is busy accesses nothing
  pub record BeginsThread (n : ℕ) (tid : Tid) (pid : Pid) (busy lived : Bool) (t : Tables)
      (g h : G) : Type 0 where
    pub busy_is : busy ≡ is_some (kept_by t tid.0)
    pub lives : lived ≡ is_some (process_of t pid.0)
    pub keeps : KeepsOver p t h
    pub starts : StartsLine p n (if busy then line_kind.Call
        else if lived then line_kind.Thread pid else line_kind.Call) g h

  -- a thread's access has ended: it keeps none, and waits for nothing
  pub record EndsAccess (tid : ℕ) (t : Tables) (g : G) (after : Tables) (h : G) : Type 0 where
    pub keeps : KeepsOver p after h
    pub ended : after ≡ keep t tid None
    pub idle : (p.store h).report.wait tid ≡ wait.None
    pub rest : p.store h ≡ waited (p.store g) (p.store h)
    pub contents : p.contents h ≡ p.contents g
    pub passes : PassesOver p (Forgets tid) g h
    pub loans : p.loans h ≡ p.loans g
