-- What is written of a log that was told.
-- Profile, "What a log shows".
use Rattle.std.specs.Prelude.{◌≡◌, ◌⊎◌, ℕ, Bool, true, false, List, [], ◌∷◌, ◌++◌, codes, Option}
use Rattle.std.specs.Prelude.{Some, None}
use Rattle.mm_types.specs.{Text, Appended, Move}
use Rattle.mm_move_rules.specs.{numbered, FrameLife, unstarted, Replays}
use Rattle.mm_io.specs.{Wrote}
use Rattle.mm_log_check.specs.declared.endings.Ending.TheVariants as ending
use Rattle.mm_log_walk.specs.Fitting.{Beside, AreFit}
use Rattle.mm_log_walk.specs.Telling.{ClosesAt, HasBegun, Said, is_broken}
use Rattle.mm_log_walk.specs.Seeking.{sought_status, sought_words}
use Rattle.mm_log_walk.specs.declared.seeking.Sought.{Sought}
use Rattle.mm_log_walk.specs.declared.closings.Closing.{Closing}
use Rattle.mm_log_walk.specs.declared.closings.Closing.TheVariants as closing

-- the log replays
abbrev pub ends_well : Closing → Bool
ends_well (closing.Ended ending.Yes) = true
ends_well _ = false

-- what is said behind the number of a line that spells a move which is not legal in this state
abbrev pub Why : Type 0
Why = FrameLife → Move → Text

-- nothing
abbrev pub no_why : Why
no_why l m = []

abbrev pub refused_words : Why → FrameLife → Option Move → Text
refused_words why l None = []
refused_words why l (Some m) = why l m

-- what the log, which led to this state, lacks, or where it or what stands beside it is bad
abbrev pub close_words : Sought → Why → FrameLife → Closing → Text
close_words sought why l (closing.Ended ending.Yes) = sought_words sought l
close_words sought why l (closing.Ended (ending.No n refused)) =
    numbered (codes "no line ") n (refused_words why l refused ++ 10 ∷ [])
close_words sought why l (closing.Ended ending.TooLong) = codes "too long" ++ 10 ∷ []
close_words sought why l (closing.Misfit n) = numbered (codes "script line ") n (10 ∷ [])
close_words sought why l (closing.Answer n) = numbered (codes "answer line ") n (10 ∷ [])
close_words sought why l (closing.Surplus n) = numbered (codes "answer line ") n (10 ∷ [])
close_words sought why l _ = []

-- what is written where these moves were told from the first on
abbrev pub closing_text : Sought → Said → Why → FrameLife → List Move → Closing → Text
closing_text sought said why l moves c = said (ends_well c) moves ++ close_words sought why l c

abbrev pub closing_status : Sought → FrameLife → Closing → ℕ
closing_status sought l (closing.Ended ending.Yes) = sought_status sought l
closing_status sought l (closing.Ended (ending.No n refused)) = 3
closing_status sought l (closing.Ended ending.TooLong) = 8
closing_status sought l (closing.Ended ending.ReadFault) = 4
closing_status sought l (closing.Ended ending.NoMemory) = 1
closing_status sought l (closing.Misfit n) = 6
closing_status sought l (closing.Answer n) = 6
closing_status sought l (closing.Surplus n) = 6
closing_status sought l closing.OutFault = 5

-- memory was refused, or a write failed
abbrev pub IsBroken : ℕ → Type 0
IsBroken status = (status ≡ 1) ⊎ (status ≡ 5)

-- this status and this text; or memory was refused or a write failed, and a front of the text was
-- written
abbrev pub EndsSaying : Option Text → Option Text → ℕ → ℕ → Text → Type 0
EndsSaying took took' result status text =
    ((result ≡ status) × Appended took took' text)
    ⊎ (IsBroken result × Wrote took took' text true)

-- the log was told to its end, or to where it or what stands beside it is bad
pub record HasTold (left left' took took' : Option Text) (b : Beside) (sought : Sought)
    (said : Said) (why : Why) (status : ℕ) : Type 0 where
  pub closing : Closing
  pub fine : is_broken closing ≡ false
  pub moves : List Move
  pub life : FrameLife
  pub replays : Replays moves unstarted life
  pub fit : AreFit b moves
  pub at : ClosesAt closing left left' b moves life
  pub says : EndsSaying took took' status (closing_status sought life closing)
      (closing_text sought said why life moves closing)

-- or it was broken off before
abbrev pub Answers : Option Text → Option Text → Option Text → Option Text → Beside → Sought
    → Said → Why → ℕ → Type 0
Answers left left' took took' b sought said why status =
    HasTold left left' took took' b sought said why status
    ⊎ (IsBroken status × HasBegun left left' took took' b said)
