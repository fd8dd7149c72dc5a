use Rattle.std.proofs.Common.{◌-◌, ◌/◌, drop, set, sym, ap, ◌∙◌, arith, length-set}
use Rattle.mm_text.specs.{digits_onto}
use Rattle.mm_text.proofs.{digits_more}
use Rattle.mm_text.proofs.puts.fill_short.Goals as goal

pub loop-at-preserved : goal.loop-at-preserved
loop-at-preserved c =
    let l = c.loop-at in
    record {
      within = omega (arith, length-set l.digits (l.at - 1) c.glyph.result);
      digits =
          l.invariant.digits ∙ digits_more 16 l.at l.rest l.digits (omega arith) (omega arith) (omega arith)
          ∙ ap (λ y. digits_onto 16 (l.at - 1) (l.rest / 16) (drop (l.at - 1) (set l.digits (l.at - 1) y))) (sym c.glyph.ensures);
    }
