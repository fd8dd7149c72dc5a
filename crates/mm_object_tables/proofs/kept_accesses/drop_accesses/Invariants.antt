use Rattle.std.proofs.Common.{◌≡◌, ◌++◌, map, take, drop}
use Rattle.mm_object_tables.specs.{unless_of}
use Rattle.mm_object_tables.proofs.kept_accesses.drop_accesses.Given as goal

abbrev pub invariant-loop-tid : goal.invariant-loop-tid
invariant-loop-tid l = l.kept ≡ map (unless_of l.pid.0) (take l.tid l.fn.kept) ++ drop l.tid l.fn.kept
