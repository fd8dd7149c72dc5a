-- Which answers a line can have, by its first word.
-- Profile, "Answers".
use Rattle.std.specs.Prelude.{ℕ, Bool, true, false, ◌&&◌, ◌||◌, not, nat_le, ◌==◌, bytes_eq, codes}
use Rattle.std.specs.Prelude.{if◌then◌else◌, [], ◌∷◌, Option, Some, None}
use Rattle.mm_types.specs.{Text}
use Rattle.mm_log_walk.specs.Words.{is_access_word, is_thread_word}
use Rattle.mm_replay.specs.{is_digit}

-- ---- a text of a form

abbrev pub is_hex_digit : ℕ → Bool
is_hex_digit c = is_digit c || (nat_le 0x41 c && nat_le c 0x46)

-- of addresses, with a space between two
abbrev pub is_list_byte : ℕ → Bool
is_list_byte c = is_hex_digit c || (c == 0x20) || (c == 0x78)

-- In a form `H` and `*` stand for a hexadecimal digit, `#` for a decimal one, `~` for a byte of a
-- list, any other byte for itself.
abbrev pub stands_for : ℕ → ℕ → Bool
stands_for p c =
    if p == 0x23 then is_digit c else
    if (p == 0x48) || (p == 0x2A) then is_hex_digit c else
    if p == 0x7E then is_list_byte c else p == c

-- `#`, `*` and `~` stand for as many such as there are
abbrev pub is_run : ℕ → Bool
is_run p = (p == 0x23) || (p == 0x2A) || (p == 0x7E)

-- behind the bytes in front that this one stands for
abbrev pub behind_run : ℕ → Text → Text
behind_run p [] = []
behind_run p (c ∷ cs) = if stands_for p c then behind_run p cs else c ∷ cs

abbrev pub behind_byte : ℕ → Text → Option Text
behind_byte p [] = None
behind_byte p (c ∷ cs) =
    if stands_for p c then Some (if is_run p then behind_run p cs else cs) else None

-- behind what stands in front of the text, where that is of the form
abbrev pub behind_form : Text → Option Text → Option Text
behind_form [] text = text
behind_form (p ∷ ps) None = None
behind_form (p ∷ ps) (Some text) = behind_form ps (behind_byte p text)

abbrev pub is_nothing_left : Option Text → Bool
is_nothing_left (Some []) = true
is_nothing_left _ = false

abbrev pub fits_form : Text → Text → Bool
fits_form form text = is_nothing_left (behind_form form (Some text))

-- ---- what a line answers that is done

-- one number, an address or a protection, two numbers
abbrev pub has_number : Text → Bool
has_number w =
    bytes_eq w (codes "machine") || bytes_eq w (codes "process") || bytes_eq w (codes "grow")
    || bytes_eq w (codes "open")

abbrev pub has_address : Text → Bool
has_address w =
    bytes_eq w (codes "alloc") || bytes_eq w (codes "map") || bytes_eq w (codes "probe")
    || bytes_eq w (codes "protect")

abbrev pub has_two_numbers : Text → Bool
has_two_numbers w =
    bytes_eq w (codes "create") || bytes_eq w (codes "createfile") || bytes_eq w (codes "charge")

abbrev pub long_form : Text → Text
long_form w =
    if bytes_eq w (codes "query") then
    codes "ok 0xHHHHHHHH 0xHHHHHHHH 0xHHHHHHHH 0xHHHHHHHH 0xHHHHHHHH 0xHHHHHHHH 0xHHHHHHHH" else
    if bytes_eq w (codes "counts") then codes "ok # # # # # # # #" else
    if bytes_eq w (codes "stack") then codes "ok 0xHHHHHHHH 0xHHHHHHHH 0xHHHHHHHH" else
    if bytes_eq w (codes "read") then codes "ok *" else
    if bytes_eq w (codes "watch") then codes "ok # ~" else codes "ok"

abbrev pub ok_form : Text → Text
ok_form w =
    if has_number w then codes "ok #" else
    if has_address w then codes "ok 0xHHHHHHHH" else
    if has_two_numbers w then codes "ok # #" else long_form w

-- a thread may have read bytes, and a `watch` may find no page
abbrev pub is_done : Text → Text → Bool
is_done w a =
    fits_form (ok_form w) a || (is_thread_word w && fits_form (codes "ok *") a)
    || (bytes_eq w (codes "watch") && fits_form (codes "ok #") a)

-- ---- what a line answers that is not

abbrev pub is_error : Text → Bool
is_error a =
    bytes_eq a (codes "error 2") || bytes_eq a (codes "error 5") || bytes_eq a (codes "error 6")
    || bytes_eq a (codes "error 87") || bytes_eq a (codes "error 183")
    || bytes_eq a (codes "error 487") || bytes_eq a (codes "error 1132")
    || bytes_eq a (codes "error 1455")

-- the lines of no process
abbrev pub is_own_word : Text → Bool
is_own_word w =
    bytes_eq w (codes "machine") || bytes_eq w (codes "process") || bytes_eq w (codes "grow")
    || bytes_eq w (codes "resume") || bytes_eq w (codes "io") || bytes_eq w (codes "writer")
    || bytes_eq w (codes "zeroer") || bytes_eq w (codes "fail") || bytes_eq w (codes "charge")
    || bytes_eq w (codes "counts") || bytes_eq w (codes "probe")

abbrev pub is_raise : Text → Bool
is_raise a =
    bytes_eq a (codes "raise 0x80000001") || bytes_eq a (codes "raise 0xC0000005")
    || bytes_eq a (codes "raise 0xC0000006") || bytes_eq a (codes "raise 0xC00000FD")

abbrev pub may_raise : Text → Bool
may_raise w = is_access_word w || is_thread_word w || bytes_eq w (codes "probe")

abbrev pub is_wait : Text → Bool
is_wait a =
    bytes_eq a (codes "pending read") || bytes_eq a (codes "pending frame")
    || bytes_eq a (codes "pending full")

abbrev pub may_find_nothing : Text → Bool
may_find_nothing w =
    bytes_eq w (codes "resume") || bytes_eq w (codes "io") || bytes_eq w (codes "probe")

abbrev pub may_be_busy : Text → Bool
may_be_busy w = bytes_eq w (codes "begin") || bytes_eq w (codes "stack")

abbrev pub may_be_full : Text → Bool
may_be_full w =
    bytes_eq w (codes "process") || bytes_eq w (codes "file") || bytes_eq w (codes "fail")
    || bytes_eq w (codes "grow")

abbrev pub may_fault : Text → Bool
may_fault w =
    bytes_eq w (codes "file") || bytes_eq w (codes "flush") || bytes_eq w (codes "io")
    || bytes_eq w (codes "grow")

abbrev pub is_refused : Text → Text → Bool
is_refused w a =
    (not (is_own_word w) && is_error a)
    || (may_raise w && is_raise a)
    || (is_thread_word w && is_wait a)

abbrev pub is_left : Text → Text → Bool
is_left w a =
    (may_find_nothing w && bytes_eq a (codes "none")) || (may_be_busy w && bytes_eq a (codes "busy"))
    || (may_be_full w && bytes_eq a (codes "full")) || (may_fault w && bytes_eq a (codes "fault"))

-- ---- both

-- a line with this first word can have this answer
abbrev pub can_answer : Text → Text → Bool
can_answer w a = is_done w a || is_refused w a || is_left w a
