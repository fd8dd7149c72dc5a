-- How an access of one line stands in the tables.
-- Profile, "Accesses".
use Rattle.std.specs.Prelude.{◌≡◌, ℕ, Bool, true, false, Some, None}
use Rattle.mm_types.specs.{Answer, Access, Pid, page_of, permits, readwrite}
use Rattle.mm_types.specs.declared.answers.Answer.TheVariants as answer
use Rattle.mm_types.specs.declared.codes.Raise.TheVariants as raise
use Rattle.mm_world.specs.{ProcessOf, process_of, set_region, set_row, mark_written, one_page, Committed, committed_at, Attempt, access, Need}
use Rattle.mm_world.specs.{access_fails, still_needs_frame, need_at, Tables}
use Rattle.mm_world.specs.World.{World}
use Rattle.mm_world.specs.Report.{Report}
use Rattle.mm_store.specs.{StoreOf, Served, SomeFailed}
use Rattle.mm_object_tables.specs.{CommittedRow, told_committed}

-- an access that is refused, or that met a guard: it needs no page
pub record Refuses (w : World) (pid addr : ℕ) (what : Attempt) (a : Answer) (v : World) :
    Type 0 where
  pub needless : need_at w pid addr what ≡ None
  pub outcome : access w pid addr what ≡ record { answer = a; world = v }

-- the page of the address has a committed row, whose guard is off and whose protection permits this
pub record Admits (t : Tables) (pid addr : ℕ) (kind : Access) (told : CommittedRow) : Type 0 where
  pub process : ProcessOf (Unit {0})
  pub row : Committed (Unit {0})
  pub lives : process_of t pid ≡ Some process
  pub committed : committed_at t process.regions (page_of addr) ≡ Some row
  pub unguarded : row.row.guard ≡ false
  pub permitted : permits row.row.prot kind ≡ true
  pub is_told : told_committed pid (page_of addr) row ≡ told

-- after a write to bytes of the page's own it is written, where its region is watched
pub record Marks (t : Tables) (pid page : ℕ) (told : CommittedRow) (after : Tables) : Type 0 where
  pub watched : told.watched ≡ true → (p : ProcessOf (Unit {0})) (c : Committed (Unit {0})) →
      process_of t pid ≡ Some p → committed_at t p.regions page ≡ Some c →
      after ≡ set_region t pid p c.region.place (mark_written true (one_page page) c.region.thing)
  pub plain : told.watched ≡ false → after ≡ t

-- after a write that copies, the page has bytes of its own and is READWRITE
abbrev pub OwnsPage : Tables → Pid → ℕ → Tables → Type 0
OwnsPage t pid addr after =
    (p : ProcessOf (Unit {0})) (c : Committed (Unit {0})) → process_of t pid.0 ≡ Some p →
    committed_at t p.regions (page_of addr) ≡ Some c →
    after ≡ set_row t pid.0 p c.region (page_of addr) (record c.row {
      own = Some tt;
      prot = readwrite;
    })

-- a permitted access failed: a device did, and the world is as before
pub record AccessFailed (never_fails : Bool) (w : World) (m z : StoreOf) (a : Answer) (v : World) :
    Type 0 where
  pub raised : a ≡ answer.Raised raise.InPageError
  pub same : v ≡ w
  pub blamed : SomeFailed m z
  pub paged : never_fails ≡ true → ⊥

-- a permitted access ended, and its line's report tells whether what it needs was had
pub record Accessed (never_fails : Bool) (w : World) (pid addr : ℕ) (what : Attempt) (m z : StoreOf)
    (a : Answer) (v : World) : Type 0 where
  pub need : Need
  pub needs : need_at w pid addr what ≡ Some need
  pub had : access_fails need z.report ≡ false → access w pid addr what ≡ record {
    answer = a;
    world = v;
  }
  pub lost : access_fails need z.report ≡ true → AccessFailed never_fails w m z a v
  pub served : Served m z

-- what an access needs was had: it does not fail, and needs no frame any more
pub record IsHad (need : Need) (after : Report) : Type 0 where
  pub fine : access_fails need after ≡ false
  pub framed : still_needs_frame need after ≡ false
