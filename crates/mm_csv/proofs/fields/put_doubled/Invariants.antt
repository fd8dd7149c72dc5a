use Rattle.std.proofs.Common.{◌≡◌, ◌++◌, drop}
use Rattle.mm_csv.specs.{doubled}
use Rattle.mm_csv.proofs.fields.put_doubled.Given as goal

abbrev pub invariant-loop-byte : goal.invariant-loop-byte
invariant-loop-byte l = l.text.items ++ doubled (drop l.byte-index l.field) ≡ l.fn.text.items ++ doubled l.field
