-- What the lines ask and promise of tables and store together.
use Rattle.std.specs.Prelude.{◌≡◌, ◌≤◌, ℕ, ◌+◌, Bool, true, false, is_some, if◌then◌else◌, Result, IfOk, OnErr, IsOk}
use Rattle.mm_types.specs.{Answer, Event, LineKind, NoMemory, Pid}
use Rattle.mm_types.specs.declared.answers.Wait.TheVariants as wait
use Rattle.mm_types.specs.declared.moves.LineKind.TheVariants as line_kind
use Rattle.mm_types.specs.declared.moves.Move.TheVariants as move
use Rattle.mm_script.specs.{IsWellFormed}
use Rattle.mm_world.specs.{Tables, blank, process_of}
use Rattle.mm_world.specs.WellFormed.{WellFormed}
use Rattle.mm_store.specs.{OneMove, Ghosts as PageStoreGhosts}
use Rattle.mm_object_tables.specs.{IsTidy}
use Rattle.mm_dispatch.specs.Built.{takes_memory}
use Rattle.mm_script.specs.{is_machine}
use Rattle.mm_dispatch.specs.Deciding.{LineBegins}
use Rattle.mm_dispatch.specs.Forgetting.{EndsWaits}
use Rattle.mm_dispatch.specs.Over.{AskedBesideOver, DecidedOver, HaltedOver, IdleOver, KeepsOver, MarkedOver}
use Rattle.mm_dispatch.specs.Over.{PassesOver}

module _ {G : Type 0} (p : PageStoreGhosts G) where
  -- the line has the next number, over a store that fits the tables
  pub record IsNext (line : ℕ) (t : Tables) (g : G) : Type 0 where
    pub keeps : KeepsOver p t g
    pub line_is : line ≡ (p.store g).line + 1

  -- it is one that a world decides, among those that a script may have
  pub record CanDecide (e : Event) (line : ℕ) (t : Tables) (g : G) : Type 0 where
    pub well_formed : IsWellFormed e
    pub later : is_machine e ≡ false
    pub next : IsNext line t g
    pub few : line ≤ 1000000
    pub idle : p.unpaged ≡ true → (tid : ℕ) → (p.store g).report.wait tid ≡ wait.None

  -- it has begun with an `at` of this kind: bytes and loans stay, and what fitted the store
  pub record StartsLine (line : ℕ) (form : LineKind) (g h : G) : Type 0 where
    pub begins : LineBegins line (p.store g) (p.store h)
    pub contents : p.contents h ≡ p.contents g
    pub keeps : (t : Tables) → KeepsOver p t g → KeepsOver p t h
    pub passes : PassesOver p (OneMove (move.At line form)) g h
    pub loans : p.loans h ≡ p.loans g

  -- the line of a call has begun
  pub record StartsCall (line : ℕ) (t : Tables) (g h : G) : Type 0 where
    pub sound : WellFormed t
    pub tidy : IsTidy t
    pub starts : StartsLine line line_kind.Call g h
    pub keeps : KeepsOver p t h
    pub form : (p.store h).kind ≡ line_kind.Call

  -- a line that goes by a process has begun, as a call where that does not live
  pub record StartsOn (line : ℕ) (t : Tables) (pid : Pid) (of : LineKind) (lived : Bool)
      (g h : G) : Type 0 where
    pub lives : lived ≡ is_some (process_of t pid.0)
    pub starts : StartsLine line (if lived then of else line_kind.Call) g h
    pub form : lived ≡ true → (p.store h).kind ≡ of

  -- one that may unbind pages of it
  pub record StartsRelease (line : ℕ) (t : Tables) (pid : Pid) (g h : G) : Type 0 where
    pub sound : WellFormed t
    pub starts : StartsLine line (if is_some (process_of t pid.0) then line_kind.Unbind pid
        else line_kind.Call) g h
    pub keeps : KeepsOver p t h
    pub form : is_some (process_of t pid.0) ≡ true → (p.store h).kind ≡ line_kind.Unbind pid

  -- it was decided, and noted
  pub record AnswersLine (e : Event) (line : ℕ) (t : Tables) (g : G) (a : Answer) (after : Tables)
      (h : G) : Type 0 where
    pub decided : DecidedOver p e line t g a after h
    pub marked : MarkedOver p e line t g a after h

  -- it ran out of memory
  pub record HaltsLine (e : Event) (line : ℕ) (t : Tables) (g : G) (after : Tables) (h : G) :
      Type 0 where
    pub idle : IdleOver p t g after h
    pub halted : HaltedOver p e line t g h

  -- it was decided, which gave this answer, or it ran out of memory, as only lines do that take it
  pub record MakesLine (e : Event) (line : ℕ) (t : Tables) (g : G) (result : Result Answer NoMemory)
      (after : Tables) (h : G) : Type 0 where
    pub done : IfOk result (λ a. AnswersLine e line t g a after h)
    pub broke : OnErr result (HaltsLine e line t g after h)
    pub no_memory : takes_memory blank t e ≡ false → IsOk result
    pub loans : p.loans h ≡ p.loans g

  -- the same with all else that is told of a line
  pub record TakesLine {T : Type 0} (e : Event) (line : ℕ) (t : Tables) (g : G) (given : T → Answer)
      (result : Result T NoMemory) (after : Tables) (h : G) : Type 0 where
    pub done : IfOk result (λ v. AnswersLine e line t g (given v) after h)
    pub broke : OnErr result (HaltsLine e line t g after h)
    pub no_memory : takes_memory blank t e ≡ false → IsOk result
    pub waits : IfOk result (λ v. EndsWaits t e (given v) (p.store h).report)
    pub beside : p.unpaged ≡ false → IfOk result (λ v. AskedBesideOver p t e (given v) g h)
    pub loans : p.loans h ≡ p.loans g
