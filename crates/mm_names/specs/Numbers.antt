-- The numbers that words stand for.
-- docs/WRITTEN.md
use Rattle.std.specs.Prelude.{ℕ, ◌+◌, ◌-◌, ◌*◌, ◌^◌, ◌==◌, ◌||◌, ◌&&◌, Bool, true, nat_le, nat_lt, bit_or, bytes_eq, if◌then◌else◌, List, [], ◌∷◌, ◌++◌, length, take, slice_index, Option, Some, None, option_and_then, codes}
use Rattle.std.specs.List.{list_any}
use Rattle.mm_types.specs.{Text}
use Rattle.mm_text.specs.{number_of, below_limit}
use Rattle.mm_names.specs.Keys.{NamesOf, given_value}
use Rattle.mm_names.specs.declared.numbers.Operator.{Operator}
use Rattle.mm_names.specs.declared.numbers.Operator.TheVariants as operator
use Rattle.mm_names.specs.declared.numbers.Join.{Join}
use Rattle.mm_names.specs.declared.numbers.Join.TheVariants as join

-- the value beside the first name that is the word
abbrev pub value_among : List (Text × ℕ) → Text → Option ℕ
value_among [] word = None
value_among (x ∷ xs) word = if bytes_eq word x.0 then Some x.1 else value_among xs word

abbrev pub memory_names : List (Text × ℕ)
memory_names =
    (codes "MEM_COMMIT", 0x1000) ∷ (codes "MEM_RESERVE", 0x2000) ∷ (codes "MEM_DECOMMIT", 0x4000)
    ∷ (codes "MEM_RELEASE", 0x8000) ∷ (codes "MEM_WRITE_WATCH", 0x200000) ∷ []

abbrev pub page_names : List (Text × ℕ)
page_names =
    (codes "PAGE_NOACCESS", 0x01) ∷ (codes "PAGE_READONLY", 0x02) ∷ (codes "PAGE_READWRITE", 0x04)
    ∷ (codes "PAGE_WRITECOPY", 0x08) ∷ (codes "PAGE_EXECUTE", 0x10)
    ∷ (codes "PAGE_EXECUTE_READ", 0x20)
    ∷ (codes "PAGE_EXECUTE_READWRITE", 0x40) ∷ (codes "PAGE_EXECUTE_WRITECOPY", 0x80)
    ∷ (codes "PAGE_GUARD", 0x100) ∷ []

abbrev pub section_names : List (Text × ℕ)
section_names =
    (codes "SEC_RESERVE", 0x4000000) ∷ (codes "SEC_COMMIT", 0x8000000) ∷ (codes "FILE_MAP_COPY", 1)
    ∷ (codes "FILE_MAP_WRITE", 2) ∷ (codes "FILE_MAP_READ", 4)
    ∷ (codes "FILE_MAP_ALL_ACCESS", 0xF001F) ∷ []

abbrev pub flag_names : List (Text × ℕ)
flag_names = (codes "WRITE_WATCH_FLAG_RESET", 1) ∷ []

abbrev pub first_some : Option ℕ → Option ℕ → Option ℕ
first_some None o = o
first_some (Some n) o = Some n

-- what a name of Windows stands for
abbrev pub windows_value : Text → Option ℕ
windows_value word =
    first_some (value_among memory_names word)
    (first_some (value_among page_names word)
    (first_some (value_among section_names word) (value_among flag_names word)))

-- K, M and G, in either case
abbrev pub scale_of : ℕ → ℕ
scale_of c =
    if c == 0x4B || c == 0x6B then 2 ^ 10
    else if c == 0x4D || c == 0x6D then 2 ^ 20
    else if c == 0x47 || c == 0x67 then 2 ^ 30
    else 1

-- the last byte but so many, 0 where there is none
abbrev pub byte_before_end : ℕ → Text → ℕ
byte_before_end n word = if nat_lt n (length word) then slice_index word (length word - 1 - n) else 0

abbrev pub is_b : ℕ → Bool
is_b c = c == 0x42 || c == 0x62

-- how many bytes at the end say the unit: K, M or G, with B behind it or without
abbrev pub unit_len : Text → ℕ
unit_len word =
    if scale_of (byte_before_end 0 word) == 1
    then (if is_b (byte_before_end 0 word)
    then (if scale_of (byte_before_end 1 word) == 1 then 0 else 2) else 0)
    else 1

-- a number as a plain script has it, or such a one before a unit
abbrev pub scaled : Text → Option ℕ
scaled word =
    option_and_then (λ n. below_limit (n * scale_of (byte_before_end (unit_len word - 1) word)))
    (number_of (take (length word - unit_len word) word))

abbrev pub factor_value : NamesOf → Text → Option ℕ
factor_value names word =
    first_some (windows_value word) (first_some (given_value names word) (scaled word))

-- how a factor goes with those before it
abbrev pub joined_factor : Join → ℕ → ℕ → Option ℕ
joined_factor join.Times a b = below_limit (a * b)
joined_factor join.HalfShift a b = None
joined_factor join.Shift a b = if nat_lt b 32 then below_limit (a * 2 ^ b) else None

-- how a term goes with those before it
abbrev pub joined_term : Operator → ℕ → ℕ → Option ℕ
joined_term operator.Sum a b = below_limit (a + b)
joined_term operator.Difference a b = if nat_le b a then Some (a - b) else None
joined_term operator.Union a b = Some (bit_or a b)

-- A number as far as it was read: the value of the terms before the last operator, and of the
-- factors of the term that has begun, none where one of them has none or they pass 32 bits; how
-- the next ones go with them; and the bytes of the factor that has begun.
pub record SumOf : Type 0 where
  pub total : Option ℕ
  pub operator : Operator
  pub product : Option ℕ
  pub join : Join
  pub factor : Text

abbrev pub nothing_yet : SumOf
nothing_yet = record {
  total = Some 0;
  operator = operator.Sum;
  product = Some 1;
  join = join.Times;
  factor = [];
}

-- the term's value with the last factor
abbrev pub product_of : NamesOf → SumOf → Option ℕ
product_of names s =
    option_and_then
    (λ a. option_and_then (λ b. joined_factor s.join a b) (factor_value names s.factor))
    s.product

-- the value with the last term
abbrev pub total_of : NamesOf → SumOf → Option ℕ
total_of names s =
    option_and_then
    (λ a. option_and_then (λ b. joined_term s.operator a b) (product_of names s))
    s.total

-- a term ends, and the next goes so with it
abbrev pub with_term : NamesOf → SumOf → Operator → SumOf
with_term names s next = record {
  total = total_of names s;
  operator = next;
  product = Some 1;
  join = join.Times;
  factor = [];
}

-- a factor ends, and the next goes so with it
abbrev pub with_factor : NamesOf → SumOf → Join → SumOf
with_factor names s next = record s { product = product_of names s; join = next; factor = [] }

-- this has no value, whatever follows
abbrev pub with_nothing : SumOf → SumOf
with_nothing s = record s { product = None }

-- `-` at the head of a term takes it away: `64K - 4K` is read as `64K+-4K`
abbrev pub at_head : Operator → SumOf → SumOf
at_head operator.Sum s = record s { operator = operator.Difference }
at_head _ s = with_nothing s

abbrev pub with_minus : SumOf → SumOf
with_minus s =
    if length s.factor == 0 then at_head s.operator s else record s { factor = s.factor ++ 0x2D ∷ [] }

-- the second `<` of a shift
abbrev pub behind_less : Join → SumOf → SumOf
behind_less join.HalfShift s = record s { join = join.Shift }
behind_less _ s = with_nothing s

abbrev pub with_less : NamesOf → SumOf → SumOf
with_less names s =
    if length s.factor == 0 then behind_less s.join s else with_factor names s join.HalfShift

-- `0X` is `0x`
abbrev pub letter_behind : Text → ℕ → ℕ
letter_behind begun c = if (c == 0x58) && bytes_eq begun (codes "0") then 0x78 else c

abbrev pub with_letter : SumOf → ℕ → SumOf
with_letter s c = record s { factor = s.factor ++ letter_behind s.factor c ∷ [] }

abbrev pub sum_with : NamesOf → SumOf → ℕ → SumOf
sum_with names s c =
    if c == 0x2B then with_term names s operator.Sum
    else if c == 0x7C then with_term names s operator.Union
    else if c == 0x2A then with_factor names s join.Times
    else if c == 0x3C then with_less names s
    else if c == 0x2D then with_minus s
    else with_letter s c

abbrev pub sum_with_all : NamesOf → SumOf → Text → SumOf
sum_with_all names s [] = s
sum_with_all names s (c ∷ cs) = sum_with_all names (sum_with names s c) cs

-- A shift beside a sum or a product would mean another number in C than from left to right, so it
-- has none.
abbrev pub is_shift : ℕ → Bool
is_shift c = c == 0x3C

abbrev pub is_arithmetic : ℕ → Bool
is_arithmetic c = c == 0x2B || c == 0x2A

abbrev pub mixes_shift : Text → Bool
mixes_shift word = list_any is_shift word && list_any is_arithmetic word

-- the number of a word: its terms, joined from left to right
abbrev pub value_of : NamesOf → Text → Option ℕ
value_of names word =
    if mixes_shift word then None else total_of names (sum_with_all names nothing_yet word)
