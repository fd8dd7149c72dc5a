-- What a line of a script and its answer say of ages.
-- Profile, "Paging, as far as answers show it".
use Rattle.std.specs.Prelude.{ℕ, ◌-◌, ◌/◌, Bool, nat_le, if◌then◌else◌, List, [], ◌∷◌, length, take}
use Rattle.std.specs.Prelude.{bytes_eq, Option, Some, None, Result, Ok, Err, slice_get, codes}
use Rattle.mm_types.specs.{Text, page_size, Pid, Tid, Place, AccessSpec, Event, Move}
use Rattle.mm_types.specs.declared.events.AccessSpec.TheVariants as spec
use Rattle.mm_types.specs.declared.events.Event.TheVariants as line
use Rattle.mm_types.specs.declared.moves.Move.TheVariants as move
use Rattle.mm_script.specs.{LineFault, parse}
use Rattle.mm_transcripts.specs.Ages.{AgesOf, no_ages_known, touched, process_aged, keeping, ages_after_move}

-- ---- answers

abbrev pub begins_with_ok : Text → Bool
begins_with_ok answer = bytes_eq (take 2 answer) (codes "ok")

abbrev pub is_pending : Text → Bool
is_pending answer = bytes_eq (take 7 answer) (codes "pending")

-- ---- lines

abbrev pub page_at_address : Pid → ℕ → Place
page_at_address pid addr = record { pid = pid; vpn = record { 0 = addr / page_size } }

abbrev pub address_of_access : AccessSpec → ℕ
address_of_access (spec.Read addr len) = addr
address_of_access (spec.Write addr bytes) = addr

-- a plain access
abbrev pub after_access : Place → Text → AgesOf → AgesOf
after_access p answer v = if begins_with_ok answer then touched p v else v

-- an access of a thread begins: it is answered at once, or the thread keeps it
abbrev pub after_begin : Tid → Place → Text → AgesOf → AgesOf
after_begin t p answer v =
    if begins_with_ok answer then touched p v else if is_pending answer then keeping t p v else v

abbrev pub touched_if : Option Place → AgesOf → AgesOf
touched_if None v = v
touched_if (Some p) v = touched p v

-- and goes on
abbrev pub after_resume : Tid → Text → AgesOf → AgesOf
after_resume t answer v = if begins_with_ok answer then touched_if (v.kept t) v else v

abbrev pub after_age : Pid → Text → AgesOf → AgesOf
after_age pid answer v = if begins_with_ok answer then process_aged pid v else v

abbrev pub after_event : Event → Text → AgesOf → AgesOf
after_event (line.Read pid addr len) answer v = after_access (page_at_address pid addr) answer v
after_event (line.Write pid addr bytes) answer v = after_access (page_at_address pid addr) answer v
after_event (line.Exec pid addr) answer v = after_access (page_at_address pid addr) answer v
after_event (line.Begin tid pid access) answer v =
    after_begin tid (page_at_address pid (address_of_access access)) answer v
after_event (line.Resume tid) answer v = after_resume tid answer v
after_event (line.Age pid) answer v = after_age pid answer v
after_event _ answer v = v

abbrev pub after_parsed : Result Event LineFault → Text → AgesOf → AgesOf
after_parsed (Ok e) answer v = after_event e answer v
after_parsed (Err f) answer v = v

-- A line of a script has at most 256 bytes; one that spells no event says nothing.
unfoldable pub after_script_line : Text → Text → AgesOf → AgesOf
after_script_line line answer v =
    if nat_le (length line) 256 then after_parsed (parse line) answer v else v

-- a line and its answer, where both are there
abbrev pub after_line : Option Text → Option Text → AgesOf → AgesOf
after_line None answer v = v
after_line (Some line) None v = v
after_line (Some line) (Some answer) v = after_script_line line answer v

-- ---- a log, with a script and its answers beside it

-- at the line of this number
abbrev pub line_beside : List Text → ℕ → Option Text
line_beside lines n = slice_get lines (n - 1)

abbrev pub ages_then : List Text → List Text → AgesOf → Move → AgesOf
ages_then script answers v (move.At n k) =
    after_line (line_beside script n) (line_beside answers n) v
ages_then script answers v m = ages_after_move m v

abbrev pub ages_after_moves : List Text → List Text → AgesOf → List Move → AgesOf
ages_after_moves script answers v [] = v
ages_after_moves script answers v (m ∷ ms) =
    ages_after_moves script answers (ages_then script answers v m) ms

-- the ages after some moves of a log
abbrev pub ages : List Text → List Text → List Move → AgesOf
ages script answers moves = ages_after_moves script answers no_ages_known moves
