use Rattle.std.proofs.Common.{◌≡◌, replicate, None}
use Rattle.mm_unpaged.proofs.areas.new_segment.Given as goal

abbrev pub invariant-loop : goal.invariant-loop
invariant-loop l = l.pages.items ≡ replicate l.counter None
