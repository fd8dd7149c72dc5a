use Rattle.std.proofs.Common.{◌≡◌, ◌-◌, ◌≤◌, ◌++◌, length, take}
use Rattle.std.specs.Prelude.{map}
use Rattle.mm_types.specs.{address_of}
use Rattle.mm_address_spaces.proofs.{written_between}
use Rattle.mm_address_spaces.proofs.watched.list.Given as goal

abbrev pub invariant-loop-told : goal.invariant-loop-told
invariant-loop-told l = record {
  few : length l.pages ≤ l._told;
  told : l.pages ++ map address_of (take (l.count - l._told) (written_between l.flags l.base l.at l.end)) ≡ map address_of (take l.count (written_between l.flags l.base l.initial.at l.end));
}
