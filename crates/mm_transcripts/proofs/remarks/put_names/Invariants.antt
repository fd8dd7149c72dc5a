use Rattle.std.proofs.Common.{◌≡◌, ◌++◌, drop, false}
use Rattle.mm_transcripts.specs.{named_numbers}
use Rattle.mm_transcripts.proofs.remarks.put_names.Given as goal

abbrev pub invariant-loop-number : goal.invariant-loop-number
invariant-loop-number l = l.text.items ++ named_numbers l.after (drop l.number-index l.numbers) ≡ l.fn.text.items ++ named_numbers false l.numbers
