-- A set of numbers as a row of bits, with a row above it and one above that.
use Rattle.std.specs.Prelude.{◌≡◌, ℕ, ◌+◌, ◌*◌, ◌/◌, ◌^◌, ◌≤◌, List, length}
use Rattle.mm_bits.specs.Bits.{have_bit, is_filled}

pub record BitSetOf : Type 0 where
  pub words : List ℕ  -- the words whose bits are the numbers
  pub room : ℕ  -- the numbers below it may be put in

-- the bits of the upper row say which words of the lower one are not 0
abbrev pub Sums : List ℕ → List ℕ → Type 0
Sums lower upper = (w : ℕ) → have_bit upper w ≡ is_filled lower w

-- each row but the last says so of the one below it, all of whose words it reaches
pub record AreSummed (bits words tops : List ℕ) : Type 0 where
  pub bits_fit : length bits ≤ 64 * length words
  pub words_fit : length words ≤ 64 * length tops
  pub small : length tops ≤ 2 ^ 14
  pub words_are : Sums bits words
  pub tops_are : Sums words tops

-- the room that is made for the numbers below `end`: 4,096 for each word of the second row
abbrev pub whole_room : ℕ → ℕ
whole_room end = 4096 * ((end + 4095) / 4096)

-- the first row is written as far as a number was ever put in, and has room for all
pub record IsBitSet (capacity : ℕ) (bits words tops : List ℕ) : Type 0 where
  pub summed : AreSummed bits words tops
  pub room : 64 * length words ≤ capacity
