use Rattle.std.proofs.Common.{◌≡◌, ◌-◌, ◌≤◌, length, sym, ap, ◌∙◌, arith, drop}
use Rattle.mm_io.proofs.{skip_view, length_view}
use Rattle.mm_io.proofs.buffers.InputBuffer.skip.Goals as goal

pub returns : goal.returns
returns c =
    let h = c.self.inside in
    let inner : h.end ≤ length h.bytes = omega (arith, c.self.told) in
    let len : length c.args.self.now ≡ h.end - h.start = sym (ap length c.self.view_is) ∙ length_view h.bytes h.start h.end c.self.invariant.0 inner in
    skip_view h.bytes h.start h.end c.args.n (omega (arith, c.self.invariant.0, c.requires)) ∙ ap (drop c.args.n) c.self.view_is
