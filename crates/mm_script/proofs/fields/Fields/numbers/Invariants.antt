use Rattle.std.proofs.Common.{◌≡◌, ◌+◌, length, drop}
use Rattle.mm_script.specs.{numbers_as, numbers_for}
use Rattle.mm_script.proofs.fields.Fields.numbers.Given as goal

-- what was read so far, and what is left
abbrev pub invariant-loop-range : goal.invariant-loop-range
invariant-loop-range l = record {
  taken : numbers_for l.ranges l.fn.self ≡ numbers_as (drop l.range-index l.ranges) l.range-index l.numbers l.self;
  places : length l.numbers ≡ 6;
  count : l.count ≡ l.range-index;
  number : l.self.number ≡ l.fn.self.number + l.range-index;
}
