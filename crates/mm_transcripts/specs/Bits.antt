-- A bit by its name, as the definitions have it.
use Rattle.std.specs.Prelude.{ℕ}
use Rattle.mm_types.specs.{Text}
use Rattle.mm_transcripts.specs.declared.numbers.NamedBit.{NamedBit}

abbrev pub bit_row : NamedBit → Text × ℕ
bit_row b = (b.0.now, b.1)
