-- A line was decided as the definition of worlds says.
-- Profile, "A run".
use Rattle.std.specs.Prelude.{◌≡◌, ◌≢◌, Bool, true, false}
use Rattle.mm_types.specs.{Answer, Event}
use Rattle.mm_types.specs.declared.answers.Answer.TheVariants as answer
use Rattle.mm_types.specs.declared.events.Event.TheVariants as line
use Rattle.mm_world.specs.World.{World}
use Rattle.mm_world.specs.Report.{Report}
use Rattle.mm_world.specs.{step, unpaged}

-- lines that ask for requests and for counts of frames, of which unpaged memory has none
abbrev pub asks_frames : Event → Bool
asks_frames (line.Io i) = true
asks_frames line.Counts = true
asks_frames _ = false

-- the answer and the new world are those of the step, and over a store whose accesses never fail
-- those of unpaged memory, but for a file device that failed
pub record Stepped (never_fails : Bool) (w : World) (e : Event) (before after : Report) (a : Answer)
    (v : World) : Type 0 where
  pub decided : step w e before after ≡ record { answer = a; world = v }
  pub told : never_fails ≡ true → asks_frames e ≡ false → a ≢ answer.Fault → unpaged w e ≡ record {
    answer = a;
    world = v;
  }
