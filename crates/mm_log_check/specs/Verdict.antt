-- What a check of a log says.
-- Profile, "Logs of moves".
use Rattle.std.specs.Prelude.{◌≡◌, ◌⊎◌, ℕ, ◌+◌, ◌<◌, ◌≤◌, false, List, [], ◌∷◌, ◌++◌, length, Option, Some, None}
use Rattle.mm_types.specs.{Took, IsEnd, Appended, Text, Move}
use Rattle.mm_move_rules.specs.{move_onto, spelled_moves, IsMove, AreMoves, FrameLife, unstarted, is_legal, Replays, CountsOfLog, counts_of_log}
use Rattle.mm_log_check.specs.LogText.{verdict_text, log_status_of}
use Rattle.mm_log_check.specs.declared.endings.Asked.{Asked}
use Rattle.mm_log_check.specs.declared.endings.Ending.{Ending}
use Rattle.mm_log_check.specs.declared.endings.Ending.TheVariants as ending

-- the most bytes that a log may have
abbrev pub most_log_bytes : ℕ
most_log_bytes = 1000000000000

-- There are bytes, and in front of them stands no whole line of a move that is legal in this state.
pub record IsStuck (l : FrameLife) (bytes : Text) : Type 0 where
  pub some : 0 < length bytes
  pub illegal : (m : Move) (behind : Text) → IsMove m → bytes ≡ move_onto m (10 ∷ behind) →
      is_legal l m ≡ false

-- the same of the bytes that were taken and those that are left, where these are told
abbrev pub StuckBefore : Option Text → FrameLife → Text → Type 0
StuckBefore None l bytes = Unit {0}
StuckBefore (Some more) l bytes = IsStuck l (bytes ++ more)

-- in front stands the line of this move, or that of none
abbrev pub SpellsMove : Option Move → Text → Type 0
SpellsMove (Some m) bytes = IsMove m × ((behind : Text) × (bytes ≡ move_onto m (10 ∷ behind)))
SpellsMove None bytes =
    (m : Move) (behind : Text) → IsMove m → bytes ≡ move_onto m (10 ∷ behind) → ⊥

abbrev pub SpellsBefore : Option Text → Option Move → Text → Type 0
SpellsBefore None refused bytes = Unit {0}
SpellsBefore (Some more) refused bytes = SpellsMove refused (bytes ++ more)

-- After the moves of whole lines, which lead to this state, stand these bytes; so many were taken
-- in all.
abbrev pub EndsAt : Ending → Option Text → List Move → FrameLife → Text → ℕ → Type 0
EndsAt ending.Yes left moves l held total = (held ≡ []) × IsEnd left × (total ≤ most_log_bytes)
EndsAt (ending.No line refused) left moves l held total =
    (line ≡ length moves + 1) × StuckBefore left l held × (total ≤ most_log_bytes) ×
    SpellsBefore left refused held
EndsAt ending.TooLong left moves l held total = most_log_bytes < total
EndsAt ending.ReadFault left moves l held total = Unit {0}
EndsAt ending.NoMemory left moves l held total = Unit {0}

-- Bytes were taken: the lines of moves that replay, and those after them that are held.
pub record Replayed (left left' : Option Text) (held : Text) (moves : List Move) (l : FrameLife)
    (total : ℕ) : Type 0 where
  pub taken : Text
  pub took : Took left left' taken
  pub whole : taken ≡ spelled_moves moves ++ held
  pub in_range : AreMoves moves
  pub replays : Replays moves unstarted l
  pub total_is : total ≡ length taken

-- The check came to an end.
pub record Came (left left' : Option Text) (e : Ending) (l : FrameLife) (c : CountsOfLog) :
    Type 0 where
  pub moves : List Move
  pub held : Text
  pub total : ℕ
  pub replayed : Replayed left left' held moves l total
  pub counts : e ≡ ending.Yes → c ≡ counts_of_log moves
  pub ends : EndsAt e left' moves l held total

-- A text was written whole, or where a write failed a front of it.
pub record Tore (took took' : Option Text) (text : Text) : Type 0 where
  pub some : 0 < length text
  pub front : Text
  pub behind : Text
  pub whole : text ≡ front ++ behind
  pub written : Appended took took' front

abbrev pub Shows : Option Text → Option Text → Text → ℕ → ℕ → Type 0
Shows took took' text status result = ((result ≡ status) × Appended took took' text) ⊎
    ((result ≡ 5) × Tore took took' text)

-- Memory was refused as the words were read, and nothing was written.
abbrev pub IsRefusedLog : Option Text → Option Text → ℕ → Type 0
IsRefusedLog took took' result = (result ≡ 1) × (took' ≡ took)

-- The whole run, over words that are a form.
pub record LogCheckRan (asked : Asked) (left left' took took' : Option Text) (result : ℕ)
    : Type 0 where
  pub ending : Ending
  pub life : FrameLife
  pub counts : CountsOfLog
  pub came : Came left left' ending life counts
  pub shows : Shows took took' (verdict_text asked ending counts life) (log_status_of ending) result
