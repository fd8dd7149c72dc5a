use Rattle.std.proofs.Common.{◌≡◌, drop, map}
use Rattle.mm_names.specs.{text_among}
use Rattle.mm_transcripts.specs.{failure_row}
use Rattle.mm_transcripts.proofs.failures.name_among.Given as goal

abbrev pub invariant-loop-failure : goal.invariant-loop-failure
invariant-loop-failure l =
    text_among (map failure_row (drop l.failure-index l.failures)) l.answer ≡ text_among (map failure_row l.failures) l.answer
