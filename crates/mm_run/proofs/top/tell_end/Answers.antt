use Rattle.std.proofs.Common.{◌++◌, List, ℕ, subst, ◌∙◌}
use Rattle.mm_run.specs.{ToldText}
use Rattle.mm_run.proofs.top.tell_end.Goals as goal

pub returns-clause-told : goal.returns-clause-told
returns-clause-told g c =
    let w = c.write_both in
    subst (λ (t : List ℕ). ToldText w.result (g.O.Sink.taken c.args.out.now) (g.O.Sink.taken w.new.out) (g.O.Sink.given w.new.out) t)
    (λ i. c.bytes.ensures i ++ (c.as_slice.ensures.bytes ∙ c.spell_last-text.ensures) i) w.ensures.told
