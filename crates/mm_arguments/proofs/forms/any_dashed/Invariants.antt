use Rattle.std.proofs.Common.{◌≡◌, drop, map, string_bytes}
use Rattle.std.specs.List.{list_any}
use Rattle.mm_arguments.specs.{is_dashed}
use Rattle.mm_arguments.proofs.forms.any_dashed.Given as goal

abbrev pub invariant-loop-word : goal.invariant-loop-word
invariant-loop-word l = list_any is_dashed (map string_bytes l.words) ≡ list_any is_dashed (map string_bytes (drop l.word-index l.words))
