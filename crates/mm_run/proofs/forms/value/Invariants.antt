use Rattle.std.proofs.Common.{◌≡◌, ◌<◌, ◌^◌, drop}
use Rattle.mm_run.specs.{word_value}
use Rattle.mm_run.proofs.{scan}
use Rattle.mm_run.proofs.forms.value.Given as goal

abbrev pub invariant-loop-byte : goal.invariant-loop-byte
invariant-loop-byte l = record {
  low : l.sum < 2 ^ 64;
  value : word_value l.most l.digits ≡ scan l.sum (drop l.byte-index l.digits);
}
