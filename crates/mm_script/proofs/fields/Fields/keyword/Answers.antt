use Rattle.std.proofs.Common.{refl, subst}
use Rattle.std.specs.Prelude.{codes}
use Rattle.mm_script.specs.{Rest, TakesWord}
use Rattle.mm_script.proofs.{keyword_read, keyword_write}
use Rattle.mm_script.proofs.fields.Fields.keyword.Goals as goal

pub returns-then-takes-clause-value : goal.returns-then-takes-clause-value
returns-then-takes-clause-value c = keyword_read c.args.self.now c.takes.new.self (c.if-takes.ensures.taken refl)

pub returns-then-takes-2-clause-value : goal.returns-then-takes-2-clause-value
returns-then-takes-2-clause-value c =
    keyword_write c.args.self.now c.takes-2.new.self
    (subst (λ (r : Rest). TakesWord r (codes "write") c.takes-2.new.self) (c.if-takes.ensures.left refl) (c.if-takes-2.ensures.taken refl))
