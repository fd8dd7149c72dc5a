-- How a run is closed that has come to something, with the answers that are kept then: what is
-- written, and what both sinks give on.
-- Profile, "A run".
use Rattle.std.specs.Prelude.{◌≡◌, ◌⊎◌, ◌≤◌, ℕ, ◌++◌, Bool, true, false, Option}
use Rattle.mm_types.specs.{Appended, Rose, Text}
use Rattle.mm_move_rules.specs.{IsFrontOf}
use Rattle.mm_run.specs.declared.endings.Ending.{Ending}
use Rattle.mm_run.specs.declared.endings.Ending.TheVariants as ending
use Rattle.mm_run.specs.Texts.{TornText, status_of, last_text}
use Rattle.mm_io.specs.{SinkSeen}

-- a sink has failed, or the source
abbrev pub is_over : Ending → Bool
is_over ending.ReadFault = true
is_over ending.OutFault = true
is_over ending.MovesFault = true
is_over _ = false

-- Of the sinks of answers and of moves, before and after, none was called.
pub record StopsAtOnce (o o' m m' : SinkSeen) (e : Ending) (status : ℕ) : Type 0 where
  pub over : is_over e ≡ true
  pub status_is : status ≡ status_of e
  pub out_same : o' ≡ o
  pub moves_same : m' ≡ m

-- The moves could not be given on, and nothing was written.
pub record Drops (o o' m m' : SinkSeen) (e : Ending) (status : ℕ) : Type 0 where
  pub goes : is_over e ≡ false
  pub status_is : status ≡ 6
  pub out_same : o' ≡ o
  pub moves_kept : m'.took ≡ m.took
  pub moves_gave : IsFrontOf m.gave m'.gave
  pub moves_later : m.faults ≤ m'.faults
  pub rose : Rose m.faults m'.faults

-- The moves were given on: nothing else happened to their sink.
pub record GaveMoves (m m' : SinkSeen) : Type 0 where
  pub took_is : m'.took ≡ m.took
  pub gave_all : m'.gave ≡ m'.took
  pub grows : IsFrontOf m.gave m'.gave
  pub faults_are : m'.faults ≡ m.faults

-- Then all was written and given on.
pub record WritesAll (o o' m m' : SinkSeen) (e : Ending) (kept : Text) (status : ℕ) : Type 0 where
  pub goes : is_over e ≡ false
  pub status_is : status ≡ status_of e
  pub moves : GaveMoves m m'
  pub wrote : Appended o.took o'.took (kept ++ last_text e)
  pub gave_all : o'.gave ≡ o'.took
  pub faults_are : o'.faults ≡ o.faults

-- Then the sink of answers failed.
pub record Tears (o o' m m' : SinkSeen) (e : Ending) (kept : Text) (status : ℕ) : Type 0 where
  pub goes : is_over e ≡ false
  pub status_is : status ≡ 5
  pub moves : GaveMoves m m'
  pub wrote : TornText o.took o'.took (kept ++ last_text e)
  pub rose : Rose o.faults o'.faults

abbrev pub Closed : SinkSeen → SinkSeen → SinkSeen → SinkSeen → Ending → Text → ℕ → Type 0
Closed o o' m m' e kept status =
    StopsAtOnce o o' m m' e status
    ⊎ (Drops o o' m m' e status ⊎
    (WritesAll o o' m m' e kept status ⊎ Tears o o' m m' e kept status))
