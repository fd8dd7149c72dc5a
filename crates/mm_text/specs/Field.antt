-- What a word can be: a number, bytes, a name.
-- Profile, "Script".
use Rattle.std.specs.Prelude.{ℕ, ◌+◌, ◌-◌, ◌*◌, ◌^◌, Bool, false, ◌&&◌, ◌||◌, nat_le, nat_lt, ◌==◌, if◌then◌else◌, List, [], ◌∷◌, length, Option, Some, None, option_map, option_and_then}
use Rattle.std.specs.List.{list_all}
use Rattle.mm_types.specs.{Text}

-- the value of a hexadecimal digit of either case, or 16 for another byte
abbrev pub digit_value : ℕ → ℕ
digit_value c =
    if nat_le 0x30 c && nat_le c 0x39 then c - 0x30
    else if nat_le 0x41 c && nat_le c 0x46 then c - 0x37
    else if nat_le 0x61 c && nat_le c 0x66 then c - 0x57
    else 16

-- the value of digits in a base, after digits of the value n
abbrev pub value_in : ℕ → ℕ → Text → ℕ
value_in base n [] = n
value_in base n (c ∷ cs) = value_in base (n * base + digit_value c) cs

abbrev pub are_digits : ℕ → Text → Bool
are_digits base cs = list_all (λ c. nat_lt (digit_value c) base) cs

-- the value of 1 to `most` digits of a base
abbrev pub digits_in : ℕ → ℕ → Text → Option ℕ
digits_in base most cs =
    if nat_le 1 (length cs) && nat_le (length cs) most && are_digits base cs then
    Some (value_in base 0 cs) else None

-- what stands after `0x`
abbrev pub hex_digits : Text → Option Text
hex_digits [] = None
hex_digits (a ∷ []) = None
hex_digits (a ∷ b ∷ cs) = if a == 0x30 && b == 0x78 then Some cs else None

abbrev pub below_limit : ℕ → Option ℕ
below_limit n = if nat_lt n (2 ^ 32) then Some n else None

abbrev pub limited : Option ℕ → Option ℕ
limited n = option_and_then below_limit n

-- up to 8 hexadecimal digits after `0x`, or else up to 10 decimal digits
abbrev pub number_of_form : Text → Option Text → Option ℕ
number_of_form cs (Some digits) = digits_in 16 8 digits
number_of_form cs None = digits_in 10 10 cs

-- a number below 2 ^ 32
abbrev pub number_of : Text → Option ℕ
number_of cs = limited (number_of_form cs (hex_digits cs))

-- the byte of two hexadecimal digits
abbrev pub pair_of : ℕ → ℕ → Option ℕ
pair_of c d = if nat_lt (digit_value c) 16 && nat_lt (digit_value d) 16 then
    Some (16 * digit_value c + digit_value d) else None

abbrev pub byte_before : Option ℕ → Option (List ℕ) → Option (List ℕ)
byte_before None bs = None
byte_before (Some b) bs = option_map (λ xs. b ∷ xs) bs

-- the bytes of pairs of hexadecimal digits
abbrev pub pairs_of : Text → Option (List ℕ)
pairs_of [] = Some []
pairs_of (c ∷ []) = None
pairs_of (c ∷ d ∷ cs) = byte_before (pair_of c d) (pairs_of cs)

abbrev pub few_bytes : List ℕ → Option (List ℕ)
few_bytes bs = if nat_le 1 (length bs) && nat_le (length bs) 64 then Some bs else None

-- 1 to 64 pairs of hexadecimal digits
abbrev pub bytes_of_pairs : Text → Option (List ℕ)
bytes_of_pairs cs = option_and_then few_bytes (pairs_of cs)

abbrev pub is_letter : ℕ → Bool
is_letter c = (nat_le 0x41 c && nat_le c 0x5A) || (nat_le 0x61 c && nat_le c 0x7A)

-- a letter, a digit, `_`, `.` or `-`
abbrev pub is_name_byte : ℕ → Bool
is_name_byte c = is_letter c || (nat_le 0x30 c && nat_le c 0x39) || (c == 0x5F) || (c == 0x2E) ||
    (c == 0x2D)

-- a letter, and bytes of a name after it
abbrev pub is_name : Text → Bool
is_name [] = false
is_name (c ∷ cs) = is_letter c && list_all is_name_byte cs

-- such a word of at most 32 bytes
abbrev pub name_of : Text → Option Text
name_of cs = if is_name cs && nat_le (length cs) 32 then Some cs else None
