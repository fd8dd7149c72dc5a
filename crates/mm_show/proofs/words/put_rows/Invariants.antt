use Rattle.std.proofs.Common.{◌≡◌, ◌++◌, drop}
use Rattle.std.specs.Prelude.{flat_map}
use Rattle.mm_show.specs.{class_words_row}
use Rattle.mm_show.proofs.words.put_rows.Given as goal

abbrev pub invariant-loop-class : goal.invariant-loop-class
invariant-loop-class l = l.text.items ++ flat_map class_words_row (drop l.class-index l.classes) ≡ l.fn.text.items ++ flat_map class_words_row l.classes
