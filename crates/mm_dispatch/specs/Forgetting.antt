-- Threads whose access is of a process that ends wait for nothing any more.
-- Profile, "Accesses".
use Rattle.std.specs.Prelude.{◌≡◌, ℕ, Bool, false, ◌==◌, ◌&&◌, nat_lt, if◌then◌else◌, Option, Some, None}
use Rattle.mm_types.specs.{Answer, Wait, Event}
use Rattle.mm_types.specs.declared.answers.Wait.TheVariants as wait
use Rattle.mm_types.specs.declared.events.Event.TheVariants as event
use Rattle.mm_world.specs.{WorldOf, KeptOf, kept_by, ends_none, Tables}
use Rattle.mm_world.specs.Report.{Report}
use Rattle.mm_store.specs.{StoreOf}
use Rattle.mm_move_rules.specs.{changed}

-- the access is of this process
abbrev pub is_of_process : ℕ → Option KeptOf → Bool
is_of_process pid None = false
is_of_process pid (Some k) = k.pid == pid

-- what the threads wait for, where those below a number whose access is of the process wait for
-- nothing
abbrev pub wait_left : Tables → ℕ → ℕ → (ℕ → Wait) → ℕ → Wait
wait_left t pid end waits tid = if nat_lt tid end &&
    is_of_process pid (kept_by t tid) then wait.None else
    waits tid

-- one thread's wait is forgotten, if its access is of the process
abbrev pub waits_but : Tables → ℕ → ℕ → (ℕ → Wait) → ℕ → Wait
waits_but t pid tid waits = if is_of_process pid (kept_by t tid) then changed ◌==◌ waits tid
    wait.None else
    waits

-- a store in which threads wait otherwise, and all else is as before
abbrev pub waited : StoreOf → StoreOf → StoreOf
waited s z = record s { report = record (s.report) { wait = z.report.wait } }

pub record Forgot (t : Tables) (pid end : ℕ) (s z : StoreOf) : Type 0 where
  pub waits : (tid : ℕ) → z.report.wait tid ≡ wait_left t pid end s.report.wait tid
  pub rest : z ≡ waited s z

-- after a `resume` that ended its access its thread waits no more, and after an `exit` no thread
-- whose access was of the process
abbrev pub EndsWaits : {B : Type 0} → WorldOf B → Event → Answer → Report → Type 0
EndsWaits w (event.Exit pid) a after = (tid : ℕ) (k : KeptOf) → kept_by w tid ≡ Some k →
    k.pid ≡ pid.0 → after.wait tid ≡ wait.None
EndsWaits w (event.Resume tid) a after = ends_none a ≡ false → after.wait tid.0 ≡ wait.None
EndsWaits w _ a after = Unit {0}
