-- What is asked of a log, and the text of the answer.
-- Profile, "Logs of moves".
use Rattle.std.specs.Prelude.{◌≡◌, ℕ, List, [], ◌∷◌, ◌++◌, codes}
use Rattle.mm_types.specs.{Text, Held}
use Rattle.mm_types.specs.declared.frames.Held.TheVariants as held
use Rattle.mm_move_rules.specs.{numbered, key_onto, IsKey, FrameLife, held_at, CountsOfLog}
use Rattle.mm_log_check.specs.declared.endings.Asked.{Asked}
use Rattle.mm_log_check.specs.declared.endings.Asked.TheVariants as asked
use Rattle.mm_log_check.specs.declared.endings.Ending.{Ending}
use Rattle.mm_log_check.specs.declared.endings.Ending.TheVariants as ending

-- `check`, or `where` and a key
abbrev pub Asks : List Text → Asked → Type 0
Asks words asked.Check = words ≡ codes "check" ∷ []
Asks words (asked.Where k) = IsKey k × (words ≡ codes "where" ∷ key_onto k [] ∷ [])

-- the words are one of the forms
abbrev pub IsForm : List Text → Type 0
IsForm words = (a : Asked) × Asks words a

abbrev pub check_text : CountsOfLog → Text
check_text c =
    codes "yes" ++
    (10 ∷ numbered (codes "moves ") c.moves
    (10 ∷ numbered (codes "zero ") c.zero_fills (10 ∷ numbered (codes "soft ") c.soft_faults
    (10 ∷ numbered (codes "hard ") c.hard_faults
    (10 ∷ numbered (codes "steals ") c.steals
    (10 ∷ numbered (codes "writes ") c.write_outs (10 ∷ [])))))))

abbrev pub held_text : Held → Text
held_text (held.Frame f) = numbered (codes "frame ") f.0 (10 ∷ [])
held_text (held.Slot s) = numbered (codes "slot ") s.0 (10 ∷ [])
held_text (held.Block b) = numbered (codes "block ") b.0 (10 ∷ [])
held_text held.Zero = codes "zero" ++ (10 ∷ [])
held_text held.Dead = codes "dead" ++ (10 ∷ [])

abbrev pub yes_text : Asked → CountsOfLog → FrameLife → Text
yes_text asked.Check c l = check_text c
yes_text (asked.Where k) c l = held_text (held_at l k)

abbrev pub verdict_text : Asked → Ending → CountsOfLog → FrameLife → Text
verdict_text a ending.Yes c l = yes_text a c l
verdict_text a (ending.No line refused) c l = numbered (codes "no line ") line (10 ∷ [])
verdict_text a ending.TooLong c l = codes "too long" ++ (10 ∷ [])
verdict_text a ending.ReadFault c l = []
verdict_text a ending.NoMemory c l = []

abbrev pub usage_text : Text
usage_text = codes "usage: mmlog check | mmlog where KEY" ++ (10 ∷ [])

abbrev pub log_status_of : Ending → ℕ
log_status_of ending.Yes = 0
log_status_of (ending.No line refused) = 3
log_status_of ending.TooLong = 8
log_status_of ending.ReadFault = 4
log_status_of ending.NoMemory = 1
