-- The event of a line, by where the line stands.
-- Profile, "Script".
use Rattle.std.specs.Prelude.{ℕ, zero, suc, Bool, if◌then◌else◌, Result, Ok, Err, codes, bytes_eq, ◌==◌, ◌&&◌, ◌||◌, take, length, slice_index}
use Rattle.mm_types.specs.{Text, Event}
use Rattle.mm_script.specs.{LineFault, without_return, parse}
use Rattle.mm_script.specs.{is_machine}

-- the first word is `machine`
abbrev pub is_machine_word : Text → Bool
is_machine_word text =
    bytes_eq (take 7 text) (codes "machine")
    && ((length text == 7) || (slice_index text 7 == 0x20))

-- The first line of a script is a `machine` line.
abbrev pub read_first : Bool → Result Event LineFault → Result Event ℕ
read_first says_machine (Ok event) = if is_machine event then Ok event else Err 1
read_first says_machine (Err fault) = Err (if says_machine then fault.column else 1)

-- No later line is one.
abbrev pub read_later : Bool → Result Event LineFault → Result Event ℕ
read_later says_machine (Ok event) = if is_machine event then Err 1 else Ok event
read_later says_machine (Err fault) = Err (if says_machine then 1 else fault.column)

-- What a line says after n others: its event, or the column of its fault. Where a first line's
-- first word is not `machine`, or a later line's is, that is column 1.
abbrev pub reading_of : ℕ → Text → Result Event ℕ
reading_of zero text = read_first (is_machine_word (without_return text)) (parse text)
reading_of (suc n) text = read_later (is_machine_word (without_return text)) (parse text)
