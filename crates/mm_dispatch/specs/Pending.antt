-- Accesses of threads, which may have to wait.
-- Profile, "Accesses".
use Rattle.std.specs.Prelude.{◌≡◌, ℕ, Bool, true, false, Some, None}
use Rattle.mm_types.specs.{Answer, Why}
use Rattle.mm_world.specs.World.{World}
use Rattle.mm_world.specs.{Attempt, access, Need, pending, need_at}
use Rattle.mm_store.specs.{StoreOf, Served}
use Rattle.mm_dispatch.specs.declared.threads.Threaded.{Threaded}
use Rattle.mm_dispatch.specs.declared.threads.Threaded.TheVariants as threaded
use Rattle.mm_dispatch.specs.Accessing.{Refuses}

-- a permitted access of a thread has to wait, by the reports before and after
pub record Waits (depth : ℕ) (w : World) (pid addr : ℕ) (what : Attempt) (m z : StoreOf)
    (why : Why) : Type 0 where
  pub need : Need
  pub needs : need_at w pid addr what ≡ Some need
  pub pends : pending depth need m.report z.report ≡ Some why
  pub served : Served m z

-- it had what it needs, and was made
pub record AccessMade (depth : ℕ) (w : World) (pid addr : ℕ) (what : Attempt) (m z : StoreOf)
    (a : Answer)
    (v : World) : Type 0 where
  pub need : Need
  pub needs : need_at w pid addr what ≡ Some need
  pub ready : pending depth need m.report z.report ≡ None
  pub outcome : access w pid addr what ≡ record { answer = a; world = v }
  pub served : Served m z

-- the access is permitted
pub record Permitted (w : World) (pid addr : ℕ) (what : Attempt) : Type 0 where
  pub need : Need
  pub needs : need_at w pid addr what ≡ Some need

-- how an access of a thread went, whose wait failed or not
abbrev pub ThreadWent : Threaded → Bool → ℕ → World → ℕ → ℕ → Attempt → StoreOf → StoreOf → World →
    Type 0
ThreadWent (threaded.Refused a) failed depth w pid addr what m z v = Refuses w pid addr what a v ×
    (z ≡ m)
ThreadWent threaded.Failed failed depth w pid addr what m z v = (failed ≡ true) ×
    Permitted w pid addr what × (z ≡ m) × (v ≡ w)
ThreadWent (threaded.Made a) failed depth w pid addr what m z v = (failed ≡ false) ×
    AccessMade depth w pid addr what m z a v
ThreadWent (threaded.Waiting why) failed depth w pid addr what m z v = (failed ≡ false) ×
    Waits depth w pid addr what m z why × (v ≡ w)
