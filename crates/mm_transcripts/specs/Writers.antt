-- A `writer` line that could not go on, because no slot of the paging file was free.
-- Profile, "What a log shows".
use Rattle.std.specs.Prelude.{ℕ, ◌-◌, Bool, true, false, ◌&&◌, ◌==◌, nat_lt, nat_le, if◌then◌else◌}
use Rattle.std.specs.Prelude.{List, [], ◌∷◌, ◌++◌, length, count_by, Option, Some, None, Result, Ok, Err, codes}
use Rattle.mm_types.specs.{Text, decimal, Event, Move}
use Rattle.mm_types.specs.declared.events.Event.TheVariants as line
use Rattle.mm_types.specs.declared.moves.LineKind.TheVariants as kind
use Rattle.mm_types.specs.declared.moves.Move.TheVariants as move
use Rattle.mm_script.specs.{LineFault, parse}
use Rattle.mm_move_rules.specs.{FrameLife}
use Rattle.mm_log_walk.specs.{line_numbered}

-- ---- how many write-outs a line may begin yet

abbrev pub write_outs_asked : Event → ℕ
write_outs_asked (line.Writer n) = n
write_outs_asked _ = 0

abbrev pub writes_by : Result Event LineFault → ℕ
writes_by (Ok e) = write_outs_asked e
writes_by (Err f) = 0

-- A line of a script has at most 256 bytes; one that spells no `writer` asks for none.
unfoldable pub writes_read : Text → ℕ
writes_read line = if nat_le (length line) 256 then writes_by (parse line) else 0

abbrev pub writes_asked : Option Text → ℕ
writes_asked None = 0
writes_asked (Some line) = writes_read line

-- after this move; none where no script is named
abbrev pub writes_left : Option (List Text) → ℕ → Move → ℕ
writes_left script w (move.At n kind.Writer) = writes_asked (line_numbered script n)
writes_left script w (move.At n k) = 0
writes_left script w (move.Write f s) = w - 1
writes_left script w m = w

-- ---- what is said of pages that are left

-- how many wait to be written
abbrev pub modified_pages : FrameLife → ℕ
modified_pages l = length l.frames.modified

-- the line may begin more, and a request can begin, but what is left has no slot
abbrev pub lacks_slots : ℕ → FrameLife → Bool
lacks_slots w l =
    nat_lt 0 w && (nat_lt 0 (modified_pages l)
    && (nat_lt (length l.flight) l.machine.depth && (count_by (λ b. b) l.free_slots == 0)))

abbrev pub unwritten_pages : ℕ → Text
unwritten_pages n =
    decimal n ++ (if n == 1 then codes " modified page is" else codes " modified pages are")

abbrev pub unwritten_row : ℕ → Text
unwritten_row n =
    codes "     no slot of the paging file is free: "
    ++ (unwritten_pages n ++ (codes " not written" ++ 10 ∷ []))

-- at the end of a line, in this state
abbrev pub unwritten_text : ℕ → FrameLife → Text
unwritten_text w l = if lacks_slots w l then unwritten_row (modified_pages l) else []

-- a line ends where the next begins
abbrev pub unwritten_before : ℕ → FrameLife → Move → Text
unwritten_before w l (move.At n k) = unwritten_text w l
unwritten_before w l m = []

-- or with a log that is whole
abbrev pub unwritten_end : Bool → ℕ → FrameLife → Text
unwritten_end true w l = unwritten_text w l
unwritten_end false w l = []
