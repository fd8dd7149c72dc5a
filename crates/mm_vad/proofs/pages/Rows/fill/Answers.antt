use Rattle.std.proofs.Common.{◌+◌, ◌≤◌, List, length, ap, ◌∙◌, arith}
use Rattle.mm_vad.specs.{Row, filled_rows}
use Rattle.mm_vad.proofs.{filled_none, filled-more}
use Rattle.mm_vad.proofs.pages.Rows.fill.Goals as goal

pub loop-done-init : goal.loop-done-init
loop-done-init c = (omega arith, omega arith, filled_none c.args.self.now c.args.first c.args.row (omega (arith, c.requires)))

pub loop-done-preserved : goal.loop-done-preserved
loop-done-preserved c =
    let more : c.args.first + c.loop-done.done + c.fill_some-done.result ≤ length c.args.self.now = omega (arith, c.requires, c.fill_some-done.ensures.within, c.loop-done.invariant.0) in (
      omega (arith, c.fill_some-done.ensures.within, c.loop-done.invariant.0),
      omega (arith, c.fill_some-done.ensures.fits),
      c.fill_some-done.ensures.after
          ∙ ap (λ (rs : List Row). filled_rows rs (c.args.first + c.loop-done.done) c.fill_some-done.result c.args.row) c.loop-done.invariant.2
          ∙ filled-more c.args.self.now c.args.first c.loop-done.done c.fill_some-done.result c.args.row more,
    )
