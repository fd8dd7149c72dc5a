use Rattle.std.proofs.Common.{◌≡◌, drop}
use Rattle.mm_csv.specs.{is_quoted}
use Rattle.mm_csv.proofs.fields.is_quoted.Given as goal

abbrev pub invariant-loop-i : goal.invariant-loop-i
invariant-loop-i l = is_quoted l.field ≡ is_quoted (drop l.i l.field)
