-- Which lines of a script can be what the lines of a log say, and which answers can be theirs.
-- Profile, "What a log shows".
use Rattle.std.specs.Prelude.{◌≡◌, ℕ, ◌+◌, ◌-◌, Bool, true, false, ◌&&◌, ◌||◌, bytes_eq, codes}
use Rattle.std.specs.Prelude.{if◌then◌else◌, List, [], ◌∷◌, ◌++◌, Option, Some, None, slice_get}
use Rattle.std.specs.Prelude.{is_some, length, take}
use Rattle.mm_types.specs.{Text, decimal, LineKind, Move}
use Rattle.mm_types.specs.declared.moves.LineKind.TheVariants as kind
use Rattle.mm_types.specs.declared.moves.Move.TheVariants as move
use Rattle.mm_log_check.specs.{Ending}
use Rattle.mm_log_check.specs.declared.endings.Ending.TheVariants as ending
use Rattle.mm_log_walk.specs.AnswerForms.{can_answer}
use Rattle.mm_log_walk.specs.Words.{first_word, is_access_word, is_thread_word}
use Rattle.mm_log_walk.specs.declared.closings.Closing.{Closing}
use Rattle.mm_log_walk.specs.declared.closings.Closing.TheVariants as closing

-- the lines that may end a process's pages
abbrev pub is_ending_word : Text → Bool
is_ending_word w =
    bytes_eq w (codes "exit") || bytes_eq w (codes "free") || bytes_eq w (codes "unmap")

-- the lines that no frame knows of
abbrev pub is_section_word : Text → Bool
is_section_word w =
    bytes_eq w (codes "create") || bytes_eq w (codes "createfile") || bytes_eq w (codes "open")
    || bytes_eq w (codes "close") || bytes_eq w (codes "map") || bytes_eq w (codes "flush")
    || bytes_eq w (codes "file")

abbrev pub is_memory_word : Text → Bool
is_memory_word w =
    bytes_eq w (codes "alloc") || bytes_eq w (codes "protect") || bytes_eq w (codes "query")
    || bytes_eq w (codes "watch") || bytes_eq w (codes "resetwatch")
    || bytes_eq w (codes "stack") || bytes_eq w (codes "probe")

abbrev pub is_system_word : Text → Bool
is_system_word w =
    bytes_eq w (codes "age") || bytes_eq w (codes "fail") || bytes_eq w (codes "charge")
    || bytes_eq w (codes "counts")

-- the lines that some process or the system asks for, and that are no move where they are refused
abbrev pub is_refusable_word : Text → Bool
is_refusable_word w =
    bytes_eq w (codes "process") || bytes_eq w (codes "grow") || bytes_eq w (codes "trim")
    || is_ending_word w || is_access_word w || is_thread_word w

abbrev pub is_call_word : Text → Bool
is_call_word w = is_refusable_word w || is_section_word w || is_memory_word w || is_system_word w

-- a line with this first word can be of this kind
abbrev pub fits_word : Text → LineKind → Bool
fits_word w (kind.Machine frames slots depth blocks) = bytes_eq w (codes "machine")
fits_word w (kind.Process pid min max) = bytes_eq w (codes "process")
fits_word w (kind.Grow count) = bytes_eq w (codes "grow")
fits_word w (kind.Unbind pid) = is_ending_word w
fits_word w (kind.Access pid) = is_access_word w
fits_word w (kind.Thread pid) = is_thread_word w
fits_word w (kind.Trim pid) = bytes_eq w (codes "trim")
fits_word w kind.Writer = bytes_eq w (codes "writer")
fits_word w kind.Zeroer = bytes_eq w (codes "zeroer")
fits_word w kind.Io = bytes_eq w (codes "io")
fits_word w kind.Call = is_call_word w

-- the script and its answers, where they are named
pub record Beside : Type 0 where
  pub script : Option (List Text)
  pub answers : Option (List Text)

abbrev pub beside : Option (List Text) → Option (List Text) → Beside
beside script answers = record { script = script; answers = answers }

-- the line of this number, counted from 1
abbrev pub line_numbered : Option (List Text) → ℕ → Option Text
line_numbered None n = None
line_numbered (Some lines) n = slice_get lines (n - 1)

-- ---- the script

-- the line, if the script has it, can be of this kind
abbrev pub fits_line : Option Text → LineKind → Bool
fits_line None k = false
fits_line (Some line) k = fits_word (first_word line) k

-- the line of this number is one of the script's lines, of a form that it can have
abbrev pub fits_script : Option (List Text) → ℕ → LineKind → Bool
fits_script None n k = true
fits_script (Some lines) n k = fits_line (slice_get lines (n - 1)) k

-- ---- the answers

-- the answer is there, and the line can have it
abbrev pub fits_answer : Option Text → Option Text → Bool
fits_answer line None = false
fits_answer None (Some answer) = true
fits_answer (Some line) (Some answer) = can_answer (first_word line) answer

abbrev pub answered_among : Option (List Text) → Option Text → ℕ → Bool
answered_among None line n = true
answered_among (Some answers) line n = fits_answer line (slice_get answers (n - 1))

-- the line of this number has an answer that it can have, where answers are named
abbrev pub is_answered : Beside → ℕ → Bool
is_answered b n = answered_among b.answers (line_numbered b.script n) n

abbrev pub begins_with : Text → Text → Bool
begins_with text front = bytes_eq (take (length front) text) front

-- what a run writes behind the answers where this line is none, or is too long
abbrev pub is_bad_text : ℕ → Text → Bool
is_bad_text n text = begins_with text (codes "bad line " ++ (decimal n ++ codes " column "))

abbrev pub is_long_text : ℕ → Text → Bool
is_long_text n text = bytes_eq text (codes "too long line " ++ decimal n)

-- the number of the first answer that is one too many, of the two behind those of n lines
abbrev pub surplus_among : ℕ → Option Text → Option Text → Option ℕ
surplus_among n None second = None
surplus_among n (Some first) second =
    if is_bad_text (n + 1) first || is_long_text (n + 1) first then
    (if is_some second then Some (n + 2) else None) else Some (n + 1)

abbrev pub surplus : Option (List Text) → ℕ → Option ℕ
surplus None n = None
surplus (Some answers) n = surplus_among n (slice_get answers n) (slice_get answers (n + 1))

-- ---- both

-- the line that begins with this move fits, and has its answer
abbrev pub fits : Beside → Move → Bool
fits b (move.At n k) = fits_script b.script n k && is_answered b n
fits b _ = true

abbrev pub AreFit : Beside → List Move → Type 0
AreFit b [] = Unit {0}
AreFit b (m ∷ ms) = (fits b m ≡ true) × AreFit b ms

-- how the log closes where this line does not fit: the script's line is told before the answer
abbrev pub misfit_closing : Beside → ℕ → LineKind → Closing
misfit_closing b n k = if fits_script b.script n k then closing.Answer n else closing.Misfit n

-- the move begins this line, and does not fit
pub record IsMisfit (b : Beside) (m : Move) (c : Closing) : Type 0 where
  pub line : ℕ
  pub kind : LineKind
  pub move : m ≡ move.At line kind
  pub misfit : fits b m ≡ false
  pub close : c ≡ misfit_closing b line kind

-- how a log closes that is whole
abbrev pub whole_closing : Option ℕ → Closing
whole_closing None = closing.Ended ending.Yes
whole_closing (Some n) = closing.Surplus n

-- how the log closes where it ends after so many lines
abbrev pub end_closing : Option (List Text) → ℕ → Ending → Closing
end_closing answers n ending.Yes = whole_closing (surplus answers n)
end_closing answers n e = closing.Ended e
