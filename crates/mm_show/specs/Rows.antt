-- The rows of a script and of its answers in a page, with digits packed.
-- Profile, "What a log shows".
use Rattle.std.specs.Prelude.{ℕ, Bool, true, false, ◌&&◌, ◌+◌, ◌-◌, ◌*◌, ◌/◌, ◌%◌, nat_lt, nat_le}
use Rattle.std.specs.Prelude.{◌==◌, bytes_eq, if◌then◌else◌, List, [], ◌∷◌, ◌++◌, length, codes}
use Rattle.std.specs.Prelude.{flat_map, Option, Some, None}
use Rattle.std.specs.List.{list_all}
use Rattle.mm_types.specs.{Text}
use Rattle.mm_log_walk.specs.{is_hex_digit, is_plain_byte, shown_line}
use Rattle.mm_replay.specs.{is_digit}
use Rattle.mm_reports.specs.{before, after_byte}

-- ---- hexadecimal digits

-- the value of a digit 0 to 9 or A to F, and 0 of any other byte
abbrev pub digit_value : ℕ → ℕ
digit_value c =
    if nat_lt c 48 then 0 else if nat_lt c 58 then c - 48
    else if nat_lt c 65 then 0 else if nat_lt c 71 then c - 55 else 0

-- a number below 4356 to the base 66, in bytes from 61 on
abbrev pub pair_text : ℕ → Text
pair_text n = (61 + n / 66) ∷ (61 + n % 66) ∷ []

-- Three digits are a number below 4096. Behind the last three stand two, a number from 4096 on; or
-- one, a byte from 39 to 54; or none, which is `!`.
abbrev pub digits_text : Text → Text
digits_text [] = 33 ∷ []
digits_text (a ∷ []) = (39 + digit_value a) ∷ []
digits_text (a ∷ b ∷ []) = pair_text (4096 + 16 * digit_value a + digit_value b)
digits_text (a ∷ b ∷ c ∷ cs) =
    pair_text (256 * digit_value a + 16 * digit_value b + digit_value c) ++ digits_text cs

-- at most 256 digits, so many as a line of a script has room for
abbrev pub are_digits : Text → Bool
are_digits cs = nat_le (length cs) 256 && list_all is_hex_digit cs

-- ---- a script

-- digits, a space, digits
abbrev pub are_divided : Text → Bool
are_divided cs =
    nat_lt (length (before 32 cs)) (length cs) && are_digits (before 32 cs)
    && are_digits (after_byte 32 cs)

-- what stands behind `read ` or `write `: `P 0xDIGITS DIGITS`, where P is a digit
abbrev pub is_access : Text → Bool
is_access (p ∷ a ∷ b ∷ c ∷ cs) =
    is_digit p && (a == 32) && (b == 48) && (c == 120) && are_divided cs
is_access _ = false

-- A to J for a read of the processes 0 to 9, K to T for a write
abbrev pub letter_of : Bool → ℕ → ℕ
letter_of is_write p = (if is_write then 75 else 65) + digit_value p

abbrev pub access_row : Bool → Text → Text
access_row is_write (p ∷ a ∷ b ∷ c ∷ cs) =
    letter_of is_write p ∷ (digits_text (before 32 cs) ++ digits_text (after_byte 32 cs))
access_row is_write _ = []

abbrev pub is_capital : Text → Bool
is_capital [] = false
is_capital (c ∷ cs) = nat_le 65 c && nat_le c 84

-- as it is shown; behind a tab where it begins as an access does
abbrev pub plain_row : Text → Text
plain_row line = if is_capital line then 9 ∷ shown_line line else shown_line line

abbrev pub script_row : Text → Text
script_row line =
    if bytes_eq (before 32 line) (codes "read") && is_access (after_byte 32 line)
    then access_row false (after_byte 32 line)
    else if bytes_eq (before 32 line) (codes "write") && is_access (after_byte 32 line)
    then access_row true (after_byte 32 line)
    else plain_row line

abbrev pub script_rows : List Text → Text
script_rows lines = flat_map script_row lines

abbrev pub script_file : Option (List Text) → Text
script_file None = []
script_file (Some lines) = script_rows lines

-- ---- its answers

-- what stands behind `ok `
abbrev pub told_row : Text → Text
told_row cs = if are_digits cs then digits_text cs else 32 ∷ shown_line cs

-- nothing for `ok`; any answer that does not begin with `ok ` stands behind a tab
abbrev pub answer_row : Text → Text
answer_row (o ∷ k ∷ []) =
    if (o == 111) && (k == 107) then 10 ∷ [] else 9 ∷ shown_line (o ∷ k ∷ [])
answer_row (o ∷ k ∷ s ∷ cs) =
    if (o == 111) && (k == 107) && (s == 32) then told_row cs else 9 ∷ shown_line (o ∷ k ∷ s ∷ cs)
answer_row cs = 9 ∷ shown_line cs

abbrev pub answer_rows : List Text → Text
answer_rows answers = flat_map answer_row answers

abbrev pub answers_file : Option (List Text) → Text
answers_file None = []
answers_file (Some answers) = answer_rows answers

-- ---- lines that a row tells whole

-- all that is shown of it is as it stands
abbrev pub is_shown : Text → Bool
is_shown line = nat_le (length line) 256 && list_all is_plain_byte line
