use Rattle.std.proofs.Common.{◌≡◌, ◌≤◌, length}
use Rattle.mm_names.specs.{plain_from, plain_of}
use Rattle.mm_names.proofs.plains.plain_of.Given as goal

abbrev pub invariant-loop-span : goal.invariant-loop-span
invariant-loop-span l = record {
  plain : plain_of l.names l.keyword l.fn.words.left ≡ plain_from l.names l.verb l.number l.line.items l.words.left;
  line : l.words.line ≡ l.text;
}

abbrev pub decreases-loop-span : goal.decreases-loop-span
decreases-loop-span l = length l.words.left
