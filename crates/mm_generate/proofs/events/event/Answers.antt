use Rattle.std.proofs.Common.{ℕ, ◌+◌, ◌%◌, sym, ap, refl, ◌∙◌, arith}
use Rattle.mm_types.specs.declared.events.Event.TheVariants as line
use Rattle.mm_generate.specs.{outputs}
use Rattle.mm_generate.proofs.{draws, of_kind, low_kind, one_step, read_behind, write_behind, output_behind, advance_behind}
use Rattle.mm_generate.proofs.events.event.Goals as goal

pub returns-in-0 : goal.returns-in-0
returns-in-0 c =
    let g = c.args.words.now in
    draws g (sym (low_kind c.draw.result (outputs g) (omega arith)) ∙ of_kind g c.draw.result c.draw.result c.draw.ensures.drawn refl)
    (c.write-in-0.ensures.drawn ∙ write_behind g c.draw.new.words c.draw.ensures.after 1 160) (c.write-in-0.ensures.after ∙ advance_behind g c.draw.new.words c.draw.ensures.after 2)

pub returns-in-2 : goal.returns-in-2
returns-in-2 c =
    let g = c.args.words.now in
    draws g (of_kind g c.draw.result 2 c.draw.ensures.drawn c.in-2.is)
    (c.read.ensures.drawn ∙ read_behind g c.draw.new.words c.draw.ensures.after 1 160) (c.read.ensures.after ∙ advance_behind g c.draw.new.words c.draw.ensures.after 1)

pub returns-in-3 : goal.returns-in-3
returns-in-3 c =
    let g = c.args.words.now in
    draws g (of_kind g c.draw.result 3 c.draw.ensures.drawn c.in-3.is)
    (c.write.ensures.drawn ∙ write_behind g c.draw.new.words c.draw.ensures.after 2 64) (c.write.ensures.after ∙ advance_behind g c.draw.new.words c.draw.ensures.after 2)

pub returns-in-4 : goal.returns-in-4
returns-in-4 c =
    let g = c.args.words.now in
    draws g (of_kind g c.draw.result 4 c.draw.ensures.drawn c.in-4.is)
    (c.read-in-4.ensures.drawn ∙ read_behind g c.draw.new.words c.draw.ensures.after 2 64) (c.read-in-4.ensures.after ∙ advance_behind g c.draw.new.words c.draw.ensures.after 1)

pub returns-in-5 : goal.returns-in-5
returns-in-5 c =
    let g = c.args.words.now in
    draws g (of_kind g c.draw.result 5 c.draw.ensures.drawn c.in-5.is)
    (ap (λ (n : ℕ). line.Trim (record { 0 = 1 + n }) 8) (c.draw-in-5.ensures.drawn ∙ ap (λ (w : ℕ). w % 2) (output_behind g c.draw.new.words c.draw.ensures.after 0)))
    (c.draw-in-5.ensures.after ∙ one_step c.draw.new.words ∙ advance_behind g c.draw.new.words c.draw.ensures.after 1)

pub returns-in-6 : goal.returns-in-6
returns-in-6 c = draws c.args.words.now (of_kind c.args.words.now c.draw.result 6 c.draw.ensures.drawn c.in-6.is) refl (c.draw.ensures.after ∙ one_step c.args.words.now)

pub returns-in_default : goal.returns-in_default
returns-in_default c = draws c.args.words.now (of_kind c.args.words.now c.draw.result 7 c.draw.ensures.drawn (omega arith)) refl (c.draw.ensures.after ∙ one_step c.args.words.now)
