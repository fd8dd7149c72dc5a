-- The moves of an access, over a store that pages, as the definitions of a line ask for them.
-- Profile, "Logs of moves".
use Rattle.std.specs.Prelude.{◌≡◌, ◌&&◌, ◌||◌, ℕ, true, false, List, Option, Some, None, count_by, ◌==◌}
use Rattle.mm_types.specs.{Answer, Why, Move, Key, Pid}
use Rattle.mm_types.specs.declared.answers.Why.TheVariants as why_of
use Rattle.mm_world.specs.{Page, Attempt, Tables, world_with, BeingRead, read_failed}
use Rattle.mm_world.specs.Report.{Report}
use Rattle.mm_move_rules.specs.{Starved, Idle, waits_through, ages_through, walked_all, is_read_move}
use Rattle.mm_store.specs.{Aim, AccessMoves, IsServed, ReadFails, Starts, is_shortage, walk_from, NoMove}
use Rattle.mm_move_rules.specs.{changed}
use Rattle.mm_store.specs.Behind.{Behind}
use Rattle.mm_store.specs.declared.outcomes.Start.TheVariants as start
use Rattle.mm_line_moves.specs.{aim_at, is_access_served, is_failed, is_pending_read, place_had}
use Rattle.mm_object_tables.specs.{key_bytes}
use Rattle.mm_dispatch.specs.declared.threads.Threaded.{Threaded}
use Rattle.mm_dispatch.specs.declared.threads.Threaded.TheVariants as threaded

-- what an access is about, where it is permitted
abbrev pub aim_in : Tables → (Key → Option Page) → Behind → Pid → ℕ → Attempt → Option Aim
aim_in t contents b pid addr what = aim_at (world_with t (key_bytes contents)) b.life pid addr what

-- ---- a plain access

-- an access of this aim was answered at once: where it was served, its place is valid and new, and
-- after a write soiled; where it failed because no frame was found, one was wanted and none was to be
-- found, else its last move is a read that failed
pub record AnswersAccess (a : Aim) (r : Answer) (after : Report) (b : Behind) (moves : List Move)
    (c : Behind) : Type 0 where
  pub made : AccessMoves a b moves
  pub read : ReadFails (is_failed r && read_failed a.need after) moves
  pub answers : (is_access_served r || is_failed r) ≡ true
  pub served : is_access_served r ≡ true → IsServed a c.life
  pub short : is_failed r ≡ true → read_failed a.need after ≡ false →
      is_shortage a.need a.place c.life ≡ true
  pub starved : is_failed r ≡ true → read_failed a.need after ≡ false →
      Starved (c.life.valid a.place) (walked_all (walk_from b) moves)
  pub ages : c.ages ≡ place_had (Some a) r (ages_through moves b.ages)
  pub waits : c.waits ≡ waits_through moves b.waits
  pub settled : is_pending_read r ≡ false

-- it was permitted; where its place was ready it read no page
pub record Answered (aim : Option Aim) (IsReady : Type 0) (r : Answer) (after : Report) (b : Behind)
    (moves : List Move) (c : Behind) : Type 0 where
  pub aimed : Aim
  pub is : aim ≡ Some aimed
  pub answers : AnswersAccess aimed r after b moves c
  pub calm : IsReady → count_by is_read_move moves ≡ 0

-- ---- an access of a thread

-- it was made, which answers no failure, and the thread waits for nothing
pub record MadeBy (aim : Option Aim) (tid : ℕ) (r : Answer) (b : Behind) (moves : List Move)
    (c : Behind) : Type 0 where
  pub aimed : Aim
  pub is : aim ≡ Some aimed
  pub made : AccessMoves aimed b moves
  pub read : ReadFails false moves
  pub fine : is_failed r ≡ false
  pub answers : (is_access_served r || is_failed r) ≡ true
  pub served : is_access_served r ≡ true → IsServed aimed c.life
  pub ages : c.ages ≡ place_had (Some aimed) r (ages_through moves b.ages)
  pub waits : c.waits ≡ changed ◌==◌ (waits_through moves b.waits) tid Idle
  pub settled : is_pending_read r ≡ false

-- it has to wait; where for a read, its page is being read after it
pub record WaitsBy (aim : Option Aim) (tid : ℕ) (why : Why) (after : Report) (b : Behind)
    (moves : List Move) (c : Behind) : Type 0 where
  pub aimed : Aim
  pub is : aim ≡ Some aimed
  pub starts : Starts aimed tid (start.Pending why) b moves c
  pub awaited : why ≡ why_of.Read → after.whereabouts aimed.need.key ≡ Some BeingRead

-- it is not permitted
pub record RefusedBy (aim : Option Aim) (b : Behind) (moves : List Move) (c : Behind) : Type 0 where
  pub none : aim ≡ None
  pub still : NoMove b moves c

-- it is permitted, and the read that its thread waited for has failed
pub record FailedBy (aim : Option Aim) (b : Behind) (moves : List Move) (c : Behind) : Type 0 where
  pub aimed : Aim
  pub is : aim ≡ Some aimed
  pub still : NoMove b moves c

abbrev pub TurnedBy : Option Aim → ℕ → Threaded → Report → Behind → List Move → Behind → Type 0
TurnedBy aim tid (threaded.Refused a) after b moves c = RefusedBy aim b moves c
TurnedBy aim tid threaded.Failed after b moves c = FailedBy aim b moves c
TurnedBy aim tid (threaded.Made a) after b moves c = MadeBy aim tid a b moves c
TurnedBy aim tid (threaded.Waiting why) after b moves c = WaitsBy aim tid why after b moves c
