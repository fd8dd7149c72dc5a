pub mod Bits
pub mod Sets
pub use Bits.{Becomes, IsLowestFrom, NoneFrom, NoneWithin, PutsBit, PutsBits, SameWordsFrom}
pub use Bits.{WordBecomes, put_at, word_end}
unfoldable pub use Bits.{have_bit, is_filled}
pub use Sets.{AreSummed, BitSetOf, IsBitSet, Sums, whole_room}
