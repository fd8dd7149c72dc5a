-- The statuses of a run, and its text.
-- Profile, "A run".
use Rattle.std.specs.Prelude.{◌≡◌, ◌≤◌, ℕ, [], ◌∷◌, ◌++◌, length, codes, Option, Result, MatchResult}
use Rattle.mm_types.specs.{Appended, Text, decimal}
use Rattle.mm_run.specs.declared.endings.Ending.{Ending}
use Rattle.mm_run.specs.declared.endings.Ending.TheVariants as ending

-- the exit status
abbrev pub status_of : Ending → ℕ
status_of ending.Done = 0
status_of ending.NoMemory = 1
status_of ending.Usage = 2
status_of (ending.Script line column) = 3
status_of ending.ReadFault = 4
status_of ending.OutFault = 5
status_of ending.MovesFault = 6
status_of ending.SetupFault = 7
status_of (ending.TooLong line) = 8

-- the text after the answers
abbrev pub last_text : Ending → Text
last_text ending.Done = []
last_text ending.NoMemory = []
last_text ending.Usage = codes "usage: mmsim run | mmsim bulk SEED COUNT\n"
last_text (ending.Script line column) =
    codes "bad line " ++ (decimal line ++ (codes " column " ++ (decimal column ++ 10 ∷ [])))
last_text ending.ReadFault = []
last_text ending.OutFault = []
last_text ending.MovesFault = []
last_text ending.SetupFault = []
last_text (ending.TooLong line) = codes "too long line " ++ (decimal line ++ 10 ∷ [])

-- these bytes are a front of a text
pub record IsFront (front text : Text) : Type 0 where
  pub back : Text
  pub whole : text ≡ front ++ back

-- the most bytes of answers that are kept
abbrev pub most_kept : ℕ
most_kept = 65536

-- These bytes are a front of a text, of which no more than so many are missing.
pub record IsFrontWithin (most : ℕ) (front text : Text) : Type 0 where
  pub back : Text
  pub whole : text ≡ front ++ back
  pub few : length back ≤ most

-- Of a text a front was written.
pub record TornText (took took' : Option Text) (text : Text) : Type 0 where
  pub front : Text
  pub back : Text
  pub whole : text ≡ front ++ back
  pub wrote : Appended took took' front

-- How the writing of a text went: whole, or torn where the sink failed.
abbrev pub WroteText : {T E : Type 0} → Result T E → Option Text → Option Text → Text → Type 0
WroteText r took took' text =
    MatchResult r (λ _. Appended took took' text) (λ _. TornText took took' text)

-- The same, and whole it was given on with all that was taken.
abbrev pub ToldText : {T E : Type 0} →
    Result T E → Option Text → Option Text → Option Text → Text → Type 0
ToldText r took took' given' text =
    MatchResult r (λ _. Appended took took' text × (given' ≡ took')) (λ _. TornText took took' text)
