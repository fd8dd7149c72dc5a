use Rattle.std.proofs.Common.{List, length, ap, ◌∙◌, arith}
use Rattle.std.specs.Prelude.{slice_get}
use Rattle.mm_vad.specs.{Row}
use Rattle.mm_vad.proofs.{equal_read, as_one, as_written, length-rows}
use Rattle.mm_vad.proofs.pages.Rows.get.Goals as goal

pub returns-in-Some : goal.returns-in-Some
returns-in-Some c =
    let s = c.self.inside in
    equal_read c.args.self.now s.written.room c.args.i c.in-Some.row
    (as_one s.equal s.written c.args.self.now c.in-Some.row c.self.view_is c.in-Some.is)
    (omega (arith, c.requires, length-rows s.equal s.written c.args.self.now c.self.invariant c.self.view_is))

pub get-requires : goal.get-requires
get-requires c =
    let s = c.self.inside in
    omega (arith, c.requires, ap length (as_written s.equal s.written c.args.self.now c.self.view_is c.in-None.is))

pub returns-in-None : goal.returns-in-None
returns-in-None c =
    let s = c.self.inside in
    ap (λ (rs : List Row). slice_get rs c.args.i) (as_written s.equal s.written c.args.self.now c.self.view_is c.in-None.is) ∙ c.get.ensures
