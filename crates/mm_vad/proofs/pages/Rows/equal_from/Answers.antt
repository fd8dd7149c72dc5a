use Rattle.std.proofs.Common.{List, length, take, drop, ap, ◌∙◌, arith}
use Rattle.mm_vad.specs.{Row}
use Rattle.mm_vad.proofs.{equal_part, as_one, as_written, length-rows}
use Rattle.mm_vad.proofs.pages.Rows.equal_from.Goals as goal

pub returns-in-Some-clause-equal : goal.returns-in-Some-clause-equal
returns-in-Some-clause-equal c =
    let s = c.self.inside in
    equal_part c.args.self.now s.written.room c.args.i c.args.most c.in-Some.row
    (as_one s.equal s.written c.args.self.now c.in-Some.row c.self.view_is c.in-Some.is)
    (omega (arith, c.requires.inside, length-rows s.equal s.written c.args.self.now c.self.invariant c.self.view_is))

pub equal_from-requires-clause-inside : goal.equal_from-requires-clause-inside
equal_from-requires-clause-inside c =
    let s = c.self.inside in
    omega (arith, c.requires.inside, ap length (as_written s.equal s.written c.args.self.now c.self.view_is c.in-None.is))

pub returns-in-None-clause-equal : goal.returns-in-None-clause-equal
returns-in-None-clause-equal c =
    let s = c.self.inside in
    ap (λ (rs : List Row). take c.equal_from.result.1 (drop c.args.i rs)) (as_written s.equal s.written c.args.self.now c.self.view_is c.in-None.is) ∙ c.equal_from.ensures.equal
