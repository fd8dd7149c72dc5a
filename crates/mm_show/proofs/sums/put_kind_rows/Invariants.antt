use Rattle.std.proofs.Common.{◌≡◌, ◌++◌, drop}
use Rattle.std.specs.Prelude.{flat_map, slice_index}
use Rattle.mm_show.specs.{kind_row}
use Rattle.mm_show.proofs.sums.put_kind_rows.Given as goal

abbrev pub invariant-loop-kind : goal.invariant-loop-kind
invariant-loop-kind l = l.text.items ++ flat_map (kind_row (slice_index l.kinds)) (drop l.kind-index l.all) ≡ l.fn.text.items ++ flat_map (kind_row (slice_index l.kinds)) l.all
