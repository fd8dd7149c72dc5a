-- Words of 64 bits as a list of flags.
use Rattle.std.specs.Prelude.{ℕ, Bool, false, List, map, slice_index_or}
use Rattle.std.specs.List.{range_with_len}
use Rattle.mm_bits.specs.{have_bit}

-- the first bits of the words
unfoldable pub word_flags : List ℕ → ℕ → List Bool
word_flags words n = map (have_bit words) (range_with_len 0 n)

abbrev pub bit_flag : List Bool → ℕ → Bool
bit_flag bits i = slice_index_or bits i false
