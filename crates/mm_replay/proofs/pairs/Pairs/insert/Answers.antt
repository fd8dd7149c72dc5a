use Rattle.std.proofs.Common.{Some, arith}
use Rattle.mm_types.proofs.{on_err}
use Rattle.mm_replay.specs.{in_leaves, mapped, near_part, near_of}
use Rattle.mm_replay.proofs.{on_ok_then, on_err_then, near_sets, near_same, near_written, far_written, near_kept, far_kept, mapped_written}
use Rattle.mm_replay.proofs.{mapped_same}
use Rattle.mm_replay.proofs.pairs.Pairs.insert.Goals as goal

pub returns-in-Some-clause-ok : goal.returns-in-Some-clause-ok
returns-in-Some-clause-ok g c =
    let s = c.args.self.now in
    let old = in_leaves s.near.leaves.items in
    let new = in_leaves c.set.new.self.leaves.items in
    on_ok_then c.set.result
    (λ sets. near_written c.args.a c.args.b (near_part old) (near_part new) (mapped s.far) c.args.value (near_sets c.args.a c.args.b c.in-Some.n old new (Some c.args.value) c.in-Some.ensures sets))
    c.set.ensures.ok

pub returns-in-Some-clause-err : goal.returns-in-Some-clause-err
returns-in-Some-clause-err g c =
    let s = c.args.self.now in
    let old = in_leaves s.near.leaves.items in
    let new = in_leaves c.set.new.self.leaves.items in
    on_err_then c.set.result (λ same. near_kept (near_part old) (near_part new) (mapped s.far) (near_same old new same)) c.set.ensures.err

pub returns-in_ok-insert-in-None-clause-ok : goal.returns-in_ok-insert-in-None-clause-ok
returns-in_ok-insert-in-None-clause-ok g c =
    let s = c.args.self.now in
    far_written c.args.a c.args.b (near_of s) (mapped s.far) (mapped c.insert.new.self) (Some c.args.value) c.in-None.ensures
    (mapped_written s.far c.args.a c.args.b c.one_number.result (omega arith) c.one_number.ensures c.insert.new.self (Some c.args.value) c.in_ok-insert-in-None.ensures.updates.0)

pub returns-in_err-insert-in-None-clause-err : goal.returns-in_err-insert-in-None-clause-err
returns-in_err-insert-in-None-clause-err g c =
    let s = c.args.self.now in
    on_err c.from_residual.result (far_kept (near_of s) (mapped s.far) (mapped c.insert.new.self) (mapped_same s.far c.insert.new.self c.in_err-insert-in-None.ensures.err))
