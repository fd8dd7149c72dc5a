use Rattle.std.proofs.Common.{◌-◌, ◌≡◌, ◌≤◌, length, vec_capacity}
use Rattle.mm_bits.specs.{have_bit, Becomes, SameWordsFrom}
use Rattle.mm_bits.proofs.bits.put_bits.Given as goal

abbrev pub invariant-loop-at : goal.invariant-loop-at
invariant-loop-at l = record {
  from : l.first ≤ l.at;
  to : l.at ≤ l.end;
  kept : length l.words.items ≡ length l.fn.words.items;
  capacity : vec_capacity l.words ≡ vec_capacity l.fn.words;
  put : Becomes l.on (have_bit l.fn.words.items) (have_bit l.words.items) l.first l.at;
  rest : SameWordsFrom l.end l.fn.words.items l.words.items;
}

abbrev pub decreases-loop-at : goal.decreases-loop-at
decreases-loop-at l = l.end - l.at
