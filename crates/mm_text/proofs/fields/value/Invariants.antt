use Rattle.std.proofs.Common.{◌≡◌, ◌<◌, ◌^◌, drop}
use Rattle.mm_text.specs.{limited, digits_in}
use Rattle.mm_text.proofs.{scan}
use Rattle.mm_text.proofs.fields.value.Given as goal

abbrev pub invariant-loop-byte : goal.invariant-loop-byte
invariant-loop-byte l = record {
  few : l.sum < 16 ^ l.byte-index;
  value : limited (digits_in l.base l.most l.digits) ≡ scan l.base l.sum (drop l.byte-index l.digits);
}
