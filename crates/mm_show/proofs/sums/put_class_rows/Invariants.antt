use Rattle.std.proofs.Common.{◌≡◌, ◌++◌, drop}
use Rattle.std.specs.Prelude.{flat_map}
use Rattle.mm_show.specs.{code_count, class_sum_row}
use Rattle.mm_show.proofs.sums.put_class_rows.Given as goal

abbrev pub invariant-loop-class : goal.invariant-loop-class
invariant-loop-class l = l.text.items ++ flat_map (class_sum_row (code_count l.classes)) (drop l.class-index l.all) ≡ l.fn.text.items ++ flat_map (class_sum_row (code_count l.classes)) l.all
