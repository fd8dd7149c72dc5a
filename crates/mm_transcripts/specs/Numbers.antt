-- Windows' names of a number, by the place where it stands.
-- Profile, "Calls" and "What a log shows"; docs/WRITTEN.md
use Rattle.std.specs.Prelude.{ℕ, Bool, false, not, ◌&&◌, ◌||◌, ◌==◌, bit_and, bit_or}
use Rattle.std.specs.Prelude.{if◌then◌else◌, List, [], ◌∷◌, ◌++◌, take, drop, codes}
use Rattle.mm_types.specs.{Text}
use Rattle.mm_names.specs.{memory_names, page_names, section_names}
use Rattle.mm_transcripts.specs.declared.numbers.NumberPlace.{NumberPlace}
use Rattle.mm_transcripts.specs.declared.numbers.NumberPlace.TheVariants as place
use Rattle.mm_transcripts.specs.declared.numbers.Number.{Number}

-- the names of single bits at a place, in rising order of the bits
abbrev pub names_at : NumberPlace → List (Text × ℕ)
names_at place.Allocation = memory_names
names_at place.Protection = page_names
names_at place.Section = page_names ++ take 2 section_names
names_at place.Access = take 3 (drop 2 section_names)
names_at place.State =
    (codes "MEM_COMMIT", 0x1000) ∷ (codes "MEM_RESERVE", 0x2000) ∷ (codes "MEM_FREE", 0x10000) ∷ []
names_at place.Type = (codes "MEM_PRIVATE", 0x20000) ∷ (codes "MEM_MAPPED", 0x40000) ∷ []

abbrev pub bits_of : List (Text × ℕ) → ℕ
bits_of [] = 0
bits_of (x ∷ xs) = bit_or x.1 (bits_of xs)

-- each bit of the one is a bit of the other
abbrev pub lies_in : ℕ → ℕ → Bool
lies_in a n = bit_and a n == a

-- the one number of several bits that has a name of its own
abbrev pub is_all_access : NumberPlace → ℕ → Bool
is_all_access place.Access n = n == 0xF001F
is_all_access _ n = false

-- the number is not 0 and each of its bits has a name, or the whole has one
abbrev pub has_name : Number → Bool
has_name x =
    is_all_access x.place x.value
    || (lies_in x.value (bits_of (names_at x.place)) && not (x.value == 0))

-- a name, behind a mark where another stands before it
abbrev pub name_behind : Text → Bool → Text → Text
name_behind mark after text = if after then mark ++ text else text

-- the name of one bit, where the number has it
abbrev pub bit_text : Bool → Text × ℕ → ℕ → Text
bit_text after x n = if lies_in x.1 n then name_behind (codes "|") after x.0 else []

-- the names of the bits of a number, between them `|`; one stands before them or none
abbrev pub union_text : Bool → List (Text × ℕ) → ℕ → Text
union_text after [] n = []
union_text after (x ∷ xs) n = bit_text after x n ++ union_text (after || lies_in x.1 n) xs n

-- the name of a number that has one
abbrev pub number_name_text : Number → Text
number_name_text x =
    if is_all_access x.place x.value then codes "FILE_MAP_ALL_ACCESS"
    else union_text false (names_at x.place) x.value
