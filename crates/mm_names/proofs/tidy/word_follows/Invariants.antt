use Rattle.std.proofs.Common.{◌≡◌, drop}
use Rattle.mm_names.specs.{word_follows}
use Rattle.mm_names.proofs.tidy.word_follows.Given as goal

abbrev pub invariant-loop-byte : goal.invariant-loop-byte
invariant-loop-byte l = word_follows l.rest ≡ word_follows (drop l.byte-index l.rest)
