use Rattle.std.proofs.Common.{refl}
use Rattle.mm_world.specs.{WriteOf}
use Rattle.mm_dispatch.proofs.{line-made}
use Rattle.mm_dispatch.proofs.access_lines.write_line.Goals as goal

pub returns-in-None-clause-done : goal.returns-in-None-clause-done
returns-in-None-clause-done g c = c.in-None.ensures.refused (WriteOf c.args.bytes.now) refl

pub write_row-requires-clause-can : goal.write_row-requires-clause-can
write_row-requires-clause-can g c = c.in-Some.ensures.entered.can _

pub returns-in-Some-clause-done : goal.returns-in-Some-clause-done
returns-in-Some-clause-done g c =
    let began = c.in-Some.ensures.entered in
    line-made g.G.PageStore c.args.pid c.args.addr (WriteOf c.args.bytes.now) began.on began.same c.write_row.ensures.done
