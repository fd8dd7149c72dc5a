use Rattle.mm_unpaged.specs.{IsMade}
use Rattle.mm_unpaged.proofs.files.made_pages.Given as goal

abbrev pub invariant-loop-i : goal.invariant-loop-i
invariant-loop-i l = IsMade l.pages.items l.i l.byte
