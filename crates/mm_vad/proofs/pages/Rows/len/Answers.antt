use Rattle.std.proofs.Common.{◌∙◌}
use Rattle.mm_vad.proofs.{length-rows}
use Rattle.mm_vad.proofs.pages.Rows.len.Goals as goal

pub returns : goal.returns
returns c =
    let s = c.self.inside in
    c.room.ensures ∙ length-rows s.equal s.written c.args.self.now c.self.invariant c.self.view_is
