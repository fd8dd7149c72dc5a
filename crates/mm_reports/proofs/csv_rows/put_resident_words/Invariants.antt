use Rattle.std.proofs.Common.{◌≡◌, ◌++◌, drop}
use Rattle.std.specs.Prelude.{flat_map}
use Rattle.mm_reports.specs.{resident_word}
use Rattle.mm_reports.proofs.csv_rows.put_resident_words.Given as goal

abbrev pub invariant-loop-set : goal.invariant-loop-set
invariant-loop-set l = l.text.items ++ flat_map resident_word (drop l.set-index l.sets) ≡ l.fn.text.items ++ flat_map resident_word l.sets
