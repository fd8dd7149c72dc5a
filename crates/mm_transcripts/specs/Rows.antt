-- The rows of a transcript: one for each line of a log, and below it one for each of its moves.
-- Profile, "What a log shows".
use Rattle.std.specs.Prelude.{ℕ, ◌-◌, Bool, true, false, ◌&&◌, ◌==◌, if◌then◌else◌, is_some, List}
use Rattle.std.specs.Prelude.{[], ◌∷◌, ◌++◌, length, map, nat_le, replicate, codes, Option, Some}
use Rattle.std.specs.Prelude.{None}
use Rattle.mm_types.specs.{Text, decimal, LineKind, Move}
use Rattle.mm_types.specs.declared.moves.Move.TheVariants as move
use Rattle.mm_move_rules.specs.{FrameLife}
use Rattle.mm_move_classes.specs.{Class}
use Rattle.mm_sentences.specs.declared.facts.Facts.{Facts}
use Rattle.mm_sentences.specs.{kind_text, sentence_text}
use Rattle.mm_log_walk.specs.{Beside, line_numbered}
use Rattle.mm_transcripts.specs.Folds.{fold_row, folds_with_next}
use Rattle.mm_transcripts.specs.Remarks.{remark_text}
use Rattle.mm_transcripts.specs.Reasons.{words_if}
use Rattle.mm_transcripts.specs.declared.reasons.Reason.{Reason}

-- ---- the row of a line

abbrev pub is_none_left : Text → Bool
is_none_left [] = true
is_none_left (c ∷ cs) = false

-- without the spaces at its end
abbrev pub trimmed : Text → Text
trimmed [] = []
trimmed (c ∷ cs) =
    let behind = trimmed cs in
    if (c == 0x20) && is_none_left behind then [] else c ∷ behind

-- a byte of a file as a terminal shows it: a control byte, or one that is no ASCII, as `?`
abbrev pub printed_byte : ℕ → ℕ
printed_byte c = if nat_le 32 c && nat_le c 126 then c else 63

abbrev pub printable : Text → Text
printable text = map printed_byte text

-- with spaces up to a width of 46
abbrev pub padded_column : Text → Text
padded_column text = printable text ++ replicate (46 - length text) 0x20

-- a line, and its answer if it has one
abbrev pub answered_row : Text → Text → Text
answered_row asked [] = printable (trimmed asked)
answered_row asked (c ∷ cs) = padded_column asked ++ (codes "  " ++ printable (c ∷ cs))

abbrev pub said_text : Option Text → Text
said_text None = []
said_text (Some said) = trimmed said

-- the script's line with its answer; where no script is named, what the line is to the frames
abbrev pub asked_row : Option Text → Option Text → LineKind → Text
asked_row None said k = kind_text k
asked_row (Some line) said k = answered_row line (said_text said)

-- Windows' names of what stands there
abbrev pub names_text : Option Text → Option Text → Text
names_text None said = []
names_text (Some line) said = remark_text line said

abbrev pub line_row : ℕ → LineKind → Option Text → Option Text → Text
line_row n k line said =
    decimal n ++ (codes "  " ++ (asked_row line said k ++ (names_text line said ++ 10 ∷ [])))

-- ---- the row of a move

-- places have addresses where a script is named; `after` is the state after the move
abbrev pub class_sentence_row : Bool → Option Class → Facts → Option Reason → FrameLife → Text
class_sentence_row addressed None x r after = []
class_sentence_row addressed (Some c) x r after =
    codes "     " ++ (sentence_text addressed c x after ++ (words_if c r ++ 10 ∷ []))

abbrev pub move_row_text : Beside → Move → Option Class → Facts → Option Reason → FrameLife → Text
move_row_text b (move.At n k) c x r after = line_row n k (line_numbered b.script n) (line_numbered b.answers n)
move_row_text b _ c x r after = class_sentence_row (is_some b.script) c x r after

-- with those before it that are told in one with it, from this one on
abbrev pub folded_row : Beside → Option Move → Move → Option Class → Facts → Option Reason
    → FrameLife → Text
folded_row b None m c x r after = move_row_text b m c x r after
folded_row b (Some first) m c x r after = fold_row first m

-- nothing yet where the next move goes on with it
abbrev pub row_unless_folded : Beside → Option Move → Option Move → Move → Option Class → Facts
    → Option Reason → FrameLife → Text
row_unless_folded b first next m c x r after =
    if folds_with_next c m next then [] else folded_row b first m c x r after
