use Rattle.std.proofs.Common.{◌≤◌, ◌*◌, ◌^◌, arith}
use Rattle.mm_text.proofs.{sum_fits}
use Rattle.mm_text.proofs.fields.value.Goals as goal

pub overflow_mul-sum : goal.overflow_mul-sum
overflow_mul-sum c =
    let l = c.loop-byte in
    let room : l.sum * c.from.result ≤ 2 ^ 44 = sum_fits c.from.result l.sum l.byte-index (omega arith) (omega arith) l.invariant.few in
    omega arith

pub overflow_add-sum : goal.overflow_add-sum
overflow_add-sum c =
    let l = c.loop-byte in
    let room : l.sum * c.from.result ≤ 2 ^ 44 = sum_fits c.from.result l.sum l.byte-index (omega arith) (omega arith) l.invariant.few in
    omega arith
