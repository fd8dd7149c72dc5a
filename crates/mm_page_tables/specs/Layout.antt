-- The table of entry words. A word has a tag of 4 bits, a first number of 28 bits and a second of
-- 32.
use Rattle.std.specs.Prelude.{ℕ, ◌+◌, ◌*◌, ◌/◌, ◌%◌, ◌^◌, ◌<◌, Bool, not, ◌&&◌, ◌||◌, ◌==◌, nat_le, nat_lt}
use Rattle.mm_page_tables.specs.declared.layout.Entry.{Entry}
use Rattle.mm_page_tables.specs.declared.layout.Entry.TheVariants.{Empty, Zero, Paged, InFile, Transition, Valid, Proto}

abbrev pub tag_of : Entry → ℕ
tag_of Empty = 0
tag_of Zero = 1
tag_of (Paged slot) = 2
tag_of (InFile block) = 3
tag_of (Transition frame) = 4
tag_of (Valid frame place) = 5
tag_of (Proto area index) = 6

abbrev pub first_number : Entry → ℕ
first_number Empty = 0
first_number Zero = 0
first_number (Paged slot) = slot.0
first_number (InFile block) = block.0
first_number (Transition frame) = frame.0
first_number (Valid frame place) = frame.0
first_number (Proto area index) = area.0

abbrev pub second_number : Entry → ℕ
second_number Empty = 0
second_number Zero = 0
second_number (Paged slot) = 0
second_number (InFile block) = 0
second_number (Transition frame) = 0
second_number (Valid frame place) = place
second_number (Proto area index) = index

abbrev pub entry_word : Entry → ℕ
entry_word e = tag_of e + 16 * first_number e + 2 ^ 32 * second_number e

-- both numbers have room in a word
pub record IsEntry (e : Entry) : Type 0 where
  pub first : first_number e < 2 ^ 28
  pub second : second_number e < 2 ^ 32

-- a word's three numbers
abbrev pub tag_in : ℕ → ℕ
tag_in word = word % 16

abbrev pub first_in : ℕ → ℕ
first_in word = word / 16 % 2 ^ 28

abbrev pub second_in : ℕ → ℕ
second_in word = word / 2 ^ 32

-- the tag is above 6, or a number is not 0 that the table has as 0
abbrev pub is_no_entry : ℕ → Bool
is_no_entry word =
    nat_lt 6 (tag_in word)
    || (nat_le (tag_in word) 1 && not (first_in word == 0))
    || (nat_le (tag_in word) 4 && not (second_in word == 0))
