use Rattle.std.proofs.Common.{arith}
use Rattle.mm_io.proofs.{looks_line, looks_long}
use Rattle.mm_io.proofs.looks.look_at.Goals as goal

pub returns-in-Some : goal.returns-in-Some
returns-in-Some c = looks_line c.args.bytes.now c.min-front.result c.in-Some.n (omega (arith, c.min-front.ensures)) (omega (arith, c.min-front.ensures)) c.in-Some.ensures

pub returns-then-front-eq257 : goal.returns-then-front-eq257
returns-then-front-eq257 c = looks_long c.args.bytes.now c.min-front.result c.if-front-eq257.true (omega (arith, c.min-front.ensures)) c.in-None.ensures
