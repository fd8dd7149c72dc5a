-- The place of a line's first fault.
-- Profile, "Script".
use Rattle.std.specs.Prelude.{ℕ, ◌+◌, ◌-◌, ◌==◌, if◌then◌else◌, List, [], ◌∷◌, length, Option, Some, None, is_some, bytes_eq, codes}
use Rattle.mm_types.specs.{Text}
use Rattle.mm_text.specs.{words_of}
use Rattle.mm_text.specs.Word.{Word}
use Rattle.mm_script.specs.declared.faults.LineFault.{LineFault}
use Rattle.mm_script.specs.declared.keywords.Keyword.{Keyword}
use Rattle.mm_script.specs.declared.keywords.Keyword.TheVariants as keyword
use Rattle.mm_script.specs.Keywords.{keyword_of}
use Rattle.mm_script.specs.Shape.{read, Shape, End, Then, ReadOrWrite, shape_of}

-- one carriage return at the end is taken off
unfoldable pub without_return : Text → Text
without_return [] = []
without_return (c ∷ []) = if c == 0x0D then [] else c ∷ []
without_return (c ∷ d ∷ cs) = c ∷ without_return (d ∷ cs)

-- the fault of the word with this number, which begins at this place of the line; places are
-- counted from 0, columns from 1
abbrev pub fault_at : ℕ → ℕ → LineFault
fault_at from number = record { column = from + 1; word = number }

-- The place of a joint condition: the frames of a machine, right after `machine `, and else the
-- last word, which begins at this place, one word before this number.
abbrev pub joint_fault : Keyword → ℕ → ℕ → LineFault
joint_fault keyword.Machine last number = fault_at 8 2
joint_fault _ last number = fault_at last (number - 1)

-- The words that are left are tested from left to right, each by its form and range; the first of
-- them has this number, the word before it began at `last`, and the line ends at `end`. A missing
-- word stands after the line's end, a word too many at its own place, and where all words are good
-- the joint condition fails.
abbrev pub first_fault : Keyword → Shape → List Word → (end number last : ℕ) → LineFault
first_fault k End [] end number last = joint_fault k last number
first_fault k End (w ∷ ws) end number last = fault_at w.from number
first_fault k (Then kind later) [] end number last = fault_at end number
first_fault k (Then kind later) (w ∷ ws) end number last =
    if is_some (read kind w.text) then first_fault k later ws end (number + 1) w.from else
    fault_at w.from number
first_fault k (ReadOrWrite if_read if_write) [] end number last = fault_at end number
first_fault k (ReadOrWrite if_read if_write) (w ∷ ws) end number last =
    if bytes_eq w.text (codes "read") then first_fault k if_read ws end (number + 1) w.from
    else if bytes_eq w.text (codes "write") then first_fault k if_write ws end (number + 1) w.from
    else fault_at w.from number

abbrev pub fault_behind : Option Keyword → Word → List Word → (end : ℕ) → LineFault
fault_behind None w ws end = fault_at w.from 1
fault_behind (Some k) w ws end = first_fault k (shape_of k) ws end 2 w.from

-- the first word has to be a keyword
abbrev pub fault_among : List Word → (end : ℕ) → LineFault
fault_among [] end = fault_at end 1
fault_among (w ∷ ws) end = fault_behind (keyword_of w.text) w ws end

-- the place of the first fault of a text that is no line
abbrev pub fault_place : Text → LineFault
fault_place text = fault_among (words_of (without_return text)) (length (without_return text))
