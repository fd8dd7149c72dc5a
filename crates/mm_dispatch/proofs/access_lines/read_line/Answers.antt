use Rattle.std.proofs.Common.{refl}
use Rattle.mm_world.specs.{ReadOf}
use Rattle.mm_dispatch.proofs.{line-made}
use Rattle.mm_dispatch.proofs.access_lines.read_line.Goals as goal

pub returns-in-None-clause-done : goal.returns-in-None-clause-done
returns-in-None-clause-done g c = c.in-None.ensures.refused (ReadOf c.args.len) refl

pub read_at-requires-clause-can : goal.read_at-requires-clause-can
read_at-requires-clause-can g c = c.in-Some.ensures.entered.can _

pub returns-in-Some-clause-done : goal.returns-in-Some-clause-done
returns-in-Some-clause-done g c =
    let began = c.in-Some.ensures.entered in
    line-made g.G.PageStore c.args.pid c.args.addr (ReadOf c.args.len) began.on began.same c.read_at.ensures.done
