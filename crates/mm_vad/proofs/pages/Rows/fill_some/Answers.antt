use Rattle.std.proofs.Common.{sym, ◌∙◌, arith}
use Rattle.mm_vad.proofs.{equal_if_eq, as_one, length-rows, filled_equal}
use Rattle.mm_vad.proofs.pages.Rows.fill_some.Goals as goal

pub returns-then-eq : goal.returns-then-eq
returns-then-eq c =
    let s = c.self.inside in
    filled_equal c.args.self.now c.args.first c.args.n s.written.room c.in-Some.before c.args.row
    (as_one s.equal s.written c.args.self.now c.in-Some.before c.self.view_is c.in-Some.is)
    (equal_if_eq c.in-Some.before c.args.row (sym c.eq.ensures ∙ c.if-eq.true))
    (omega (arith, c.len.ensures, length-rows s.equal s.written c.args.self.now c.self.invariant c.self.view_is)) c.requires.some c.requires.inside
