-- Words of 64 bits, one after another, as a row of bits.
use Rattle.std.specs.Prelude.{◌≡◌, ℕ, ◌+◌, ◌*◌, ◌/◌, ◌%◌, ◌<◌, ◌≤◌, Bool, true, false, not, List, ◌==◌, if◌then◌else◌, slice_index}
use Rattle.std.specs.Int.{bit_at}

-- whether the words, one after another, have the bit
unfoldable pub have_bit : List ℕ → ℕ → Bool
have_bit words i = bit_at (slice_index words (i / 64)) (i % 64) == 1

-- the bits from `first` on and below `end` are all like this, the others are as they were
pub record Becomes (b : Bool) (old new : ℕ → Bool) (first end : ℕ) : Type 0 where
  pub inside : (i : ℕ) → first ≤ i → i < end → new i ≡ b
  pub below : (i : ℕ) → i < first → new i ≡ old i
  pub above : (i : ℕ) → end ≤ i → new i ≡ old i

-- the same of one word
pub record WordBecomes (b : Bool) (old new low high : ℕ) : Type 0 where
  pub inside : (i : ℕ) → low ≤ i → i < high → (bit_at new i == 1) ≡ b
  pub below : (i : ℕ) → i < low → bit_at new i ≡ bit_at old i
  pub above : (i : ℕ) → high ≤ i → i < 64 → bit_at new i ≡ bit_at old i

-- the words behind those of the bits below `end` are as they were
abbrev pub SameWordsFrom : ℕ → List ℕ → List ℕ → Type 0
SameWordsFrom end old new = (w : ℕ) → end ≤ 64 * w → slice_index new w ≡ slice_index old w

-- whether the word has a bit that is set
unfoldable pub is_filled : List ℕ → ℕ → Bool
is_filled words w = not (slice_index words w == 0)

-- one number is in or not from now on, the others stay
abbrev pub put_at : Bool → ℕ → (ℕ → Bool) → ℕ → Bool
put_at b i has k = if k == i then b else has k

abbrev pub PutsBits : Bool → List ℕ → List ℕ → ℕ → Type 0
PutsBits b old new i = (k : ℕ) → have_bit new k ≡ put_at b i (have_bit old) k

-- a row of bits became another by one bit; `passes` says that its word was 0 before it was set, or
-- is 0 after it was cleared
pub record PutsBit (b : Bool) (old new : List ℕ) (i : ℕ) (passes : Bool) : Type 0 where
  pub bits : PutsBits b old new i
  pub passed : passes ≡ true → (w : ℕ) → is_filled new w ≡ put_at b (i / 64) (is_filled old) w
  pub stayed : passes ≡ false → (w : ℕ) → is_filled new w ≡ is_filled old w

-- none is in from one number on and below another
pub record NoneWithin (has : ℕ → Bool) (first end : ℕ) : Type 0 where
  pub inside : (i : ℕ) → first ≤ i → i < end → has i ≡ false

-- none is in from one number on
abbrev pub NoneFrom : (ℕ → Bool) → ℕ → Type 0
NoneFrom has from = (i : ℕ) → from ≤ i → has i ≡ false

-- v is in, and is the lowest at `from` or above
pub record IsLowestFrom (has : ℕ → Bool) (from v : ℕ) : Type 0 where
  pub held : has v ≡ true
  pub low : from ≤ v
  pub least : (w : ℕ) → has w ≡ true → from ≤ w → v ≤ w

-- where the word of a number ends
abbrev pub word_end : ℕ → ℕ
word_end from = 64 * (from / 64) + 64
