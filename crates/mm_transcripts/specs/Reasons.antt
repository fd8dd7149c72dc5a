-- Why a page left its working set.
-- Profile, "Paging, as far as answers show it".
use Rattle.std.specs.Prelude.{ℕ, Bool, ◌==◌, if◌then◌else◌, [], ◌++◌, Option, Some}
use Rattle.std.specs.Prelude.{None, unwrap_or, codes}
use Rattle.mm_types.specs.{Text, decimal, Move}
use Rattle.mm_types.specs.declared.moves.Move.TheVariants as move
use Rattle.mm_move_rules.specs.{FrameLife, set_of, is_above_min}
use Rattle.mm_move_classes.specs.{Class}
use Rattle.mm_move_classes.specs.declared.classes.Class.TheVariants as class
use Rattle.mm_transcripts.specs.Ages.{AgesOf}
use Rattle.mm_transcripts.specs.declared.reasons.Reason.{Reason}

-- how a page that leaves its working set stood in this state
abbrev pub reason_at : AgesOf → FrameLife → Move → Option Reason
reason_at v l (move.Unmap p) =
    Some (record {
      pid = p.pid;
      is_above_min = is_above_min (set_of l p.pid.0);
      age = unwrap_or (v.age p) 0;
    })
reason_at v l _ = None

abbrev pub age_words : ℕ → Text
age_words age =
    if age == 0 then codes "lowest page of age 0" else codes "oldest: age " ++ decimal age

abbrev pub process_words : Reason → Text
process_words r =
    if r.is_above_min
    then codes "process " ++ (decimal r.pid.0 ++ codes " is the first above its minimum; ")
    else []

-- the reason behind a page that was replaced, or trimmed for want of frames
abbrev pub reason_words : Class → Reason → Text
reason_words class.Replaced r = codes " [" ++ (age_words r.age ++ codes "]")
reason_words class.TrimmedForWantOfFrames r =
    codes " [" ++ (process_words r ++ (age_words r.age ++ codes "]"))
reason_words _ r = []

abbrev pub words_if : Class → Option Reason → Text
words_if c None = []
words_if c (Some r) = reason_words c r

-- the reason behind a move of this class, in this state, with these ages
abbrev pub reason_text : AgesOf → FrameLife → Class → Move → Text
reason_text v l c m = words_if c (reason_at v l m)
