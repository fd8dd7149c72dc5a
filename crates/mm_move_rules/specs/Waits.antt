-- What moves do to ages, and to what threads wait for.
-- Profile, "Paging, as far as answers show it".
use Rattle.std.specs.Prelude.{ℕ, Bool, true, false, ◌==◌, if◌then◌else◌}
use Rattle.mm_types.specs.{Wait, Move, Place}
use Rattle.mm_types.specs.declared.answers.Wait.TheVariants as wait
use Rattle.mm_types.specs.declared.moves.Move.TheVariants as move
use Rattle.mm_move_rules.specs.Life.{changed, same_place}

-- what a thread waits for: the read request of a frame, or how that request ended
pub data Waiting : Type 0 where
  Idle : Waiting
  ForFrame : ℕ → Waiting
  Ended : Bool → Waiting

abbrev pub wait_of : Waiting → Wait
wait_of Idle = wait.None
wait_of (ForFrame f) = wait.InFlight
wait_of (Ended true) = wait.Done
wait_of (Ended false) = wait.Failed

-- ---- what moves do to these

abbrev pub ended_by : ℕ → Bool → Waiting → Waiting
ended_by f ok Idle = Idle
ended_by f ok (ForFrame g) = if g == f then Ended ok else ForFrame g
ended_by f ok (Ended was) = Ended was

-- a thread waits for a read until it ends
abbrev pub waits_after : Move → (ℕ → Waiting) → ℕ → Waiting
waits_after (move.Got f) waits tid = ended_by f.0 true (waits tid)
waits_after (move.Bad f) waits tid = ended_by f.0 false (waits tid)
waits_after _ waits tid = waits tid

-- a mapped page is new; a page that is not valid has no age
abbrev pub ages_after : Move → (Place → ℕ) → Place → ℕ
ages_after (move.Map f p) ages place = changed same_place ages p 0 place
ages_after (move.Unmap p) ages place = changed same_place ages p 0 place
ages_after _ ages place = ages place
