-- The words of one leaf, and what it is that words from one place up to another are changed.
use Rattle.std.specs.Prelude.{◌≡◌, ℕ, ◌+◌, ◌/◌, ◌<◌, ◌≤◌, Bool, true, false, List, [], ◌∷◌, length, Option, Some, None, if◌then◌else◌, map, slice_index, slice_index_or}
use Rattle.std.specs.List.{range_with_len}
use Rattle.mm_bits.specs.{have_bit}
use Rattle.mm_page_tables.specs.Pages.{reserved_word}

-- how many pages a leaf has words for
abbrev pub leaf_pages : ℕ
leaf_pages = 4096

-- how many numbers it takes to have a bit for each of them
abbrev pub bit_numbers : ℕ
bit_numbers = leaf_pages / 64

-- the bits and the words
abbrev pub leaf_numbers : ℕ
leaf_numbers = bit_numbers + leaf_pages

abbrev pub leaf_word : List (Option ℕ) → ℕ → Option ℕ
leaf_word words i = slice_index_or words i None

-- for how many pages there is a place beside these numbers
abbrev pub place_count : List ℕ → ℕ
place_count [] = 0
place_count (n ∷ numbers) = leaf_pages

-- the first numbers have the bits of all pages; behind them stand the words
abbrev pub stored_word : List ℕ → ℕ → Option ℕ
stored_word numbers i =
    if have_bit numbers i then Some (slice_index numbers (bit_numbers + i)) else None

-- the words that these numbers are
unfoldable pub shown_leaf : List ℕ → List (Option ℕ)
shown_leaf numbers = map (stored_word numbers) (range_with_len 0 (place_count numbers))

-- where there are numbers, the bits are there and there is room for all words; a page that is not
-- reserved has no word but 0
pub record IsLeaf (capacity : ℕ) (numbers : List ℕ) : Type 0 where
  pub bits : 0 < length numbers → bit_numbers ≤ length numbers
  pub room : 0 < length numbers → leaf_numbers ≤ capacity
  pub within : length numbers ≤ leaf_numbers
  pub blank : (i : ℕ) → i < leaf_pages → have_bit numbers i ≡ false →
      slice_index numbers (bit_numbers + i) ≡ 0

-- the words from `first` on and below `end` are changed by f, and all others stay
pub record Changed {A : Type 0} (f : A → A) (old new : ℕ → A) (first end : ℕ) : Type 0 where
  pub within : (i : ℕ) → first ≤ i → i < end → new i ≡ f (old i)
  pub below : (i : ℕ) → i < first → new i ≡ old i
  pub above : (i : ℕ) → end ≤ i → new i ≡ old i

-- the word of a page that is reserved, or is so no more
abbrev pub word_when : Bool → Option ℕ → Option ℕ
word_when true word = reserved_word word
word_when false word = None

-- the number in which that word stands
abbrev pub number_when : Bool → ℕ → ℕ
number_when true number = number
number_when false number = 0
