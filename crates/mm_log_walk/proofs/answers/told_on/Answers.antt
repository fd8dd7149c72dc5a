use Rattle.std.proofs.Common.{◌≡◌, ◌∙◌, ℕ, Bool, true, false, sym, subst, inl, inr}
use Rattle.mm_types.specs.{Text}
use Rattle.mm_io.specs.{Wrote}
use Rattle.mm_replay.specs.Standing.{life}
use Rattle.mm_log_walk.specs.{is_broken, said_from_first, beside, Answers, HaltsTelling, HasBegun}
use Rattle.mm_log_walk.proofs.{broken_status, told_all, told_cut, told_none}
use Rattle.mm_log_walk.proofs.answers.told_on.Goals as goal

pub returns-then-is_broken-clause-answers : goal.returns-then-is_broken-clause-answers
returns-then-is_broken-clause-answers g c =
    let a = c.args in
    let left = g.S.Source.left a.log.now in
    let left' = g.S.Source.left c.tell_log-closing.new.source in
    let took = g.O.Sink.taken a.out.now in
    let now = g.O.Sink.taken c.tell_log-closing.new.out in
    let rest = g.T.Teller.rest a.teller.now in
    let why = g.T.Teller.why in
    let sought = a.sought in
    let closing = c.tell_log-closing.result in
    let told = c.tell_log-closing.new in
    let b = beside a.script.now a.answers.now in
    let broken : is_broken closing ≡ true = sym c.is_broken.ensures ∙ c.if-is_broken.true in
    let begun : HasBegun left left' took now b (said_from_first rest) =
    subst (λ (x : Bool). HaltsTelling x left left' took now b rest closing (g.T.Teller.rest told.teller) (life told.life) told.text.items) broken c.tell_log-closing.ensures.halts in
    subst (λ (k : ℕ). Answers left left' took now b sought (said_from_first rest) why k) (sym c.status_of.ensures) (inr (broken_status sought (life told.life) closing broken, begun))

pub returns-in-Err-clause-answers : goal.returns-in-Err-clause-answers
returns-in-Err-clause-answers g c =
    let a = c.args in
    let left = g.S.Source.left a.log.now in
    let left' = g.S.Source.left c.tell_log-closing.new.source in
    let took = g.O.Sink.taken a.out.now in
    let now = g.O.Sink.taken c.tell_log-closing.new.out in
    let rest = g.T.Teller.rest a.teller.now in
    let closing = c.tell_log-closing.result in
    let told = c.tell_log-closing.new in
    let b = beside a.script.now a.answers.now in
    let fine : is_broken closing ≡ false = sym c.is_broken.ensures ∙ c.if-is_broken.false in
    let closes = subst (λ (x : Bool). HaltsTelling x left left' took now b rest closing (g.T.Teller.rest told.teller) (life told.life) told.text.items) fine c.tell_log-closing.ensures.halts in
    inl (told_none left left' took now b rest a.sought g.T.Teller.why closing (g.T.Teller.rest told.teller) (life told.life) told.text.items closes fine)

pub returns-in-Ok-write_flushed-clause-answers : goal.returns-in-Ok-write_flushed-clause-answers
returns-in-Ok-write_flushed-clause-answers g c =
    let a = c.args in
    let left = g.S.Source.left a.log.now in
    let left' = g.S.Source.left c.tell_log-closing.new.source in
    let took = g.O.Sink.taken a.out.now in
    let now = g.O.Sink.taken c.tell_log-closing.new.out in
    let took' = g.O.Sink.taken c.write_flushed.new.out in
    let rest = g.T.Teller.rest a.teller.now in
    let why = g.T.Teller.why in
    let sought = a.sought in
    let closing = c.tell_log-closing.result in
    let told = c.tell_log-closing.new in
    let b = beside a.script.now a.answers.now in
    let fine : is_broken closing ≡ false = sym c.is_broken.ensures ∙ c.if-is_broken.false in
    let closes = subst (λ (x : Bool). HaltsTelling x left left' took now b rest closing (g.T.Teller.rest told.teller) (life told.life) told.text.items) fine c.tell_log-closing.ensures.halts in
    let wrote : Wrote now took' c.put_end.new.text.items false = subst (λ (x : Text). Wrote now took' x false) c.as_slice.ensures.value c.in-Ok-write_flushed.ensures.wrote in
    subst (λ (k : ℕ). Answers left left' took took' b sought (said_from_first rest) why k) (sym c.status_of-in-Ok-write_flushed.ensures)
    (inl (told_all left left' took now b rest sought why closing (g.T.Teller.rest told.teller) (life told.life) told.text.items closes fine took' c.put_end.new.text.items c.in-Ok.ensures wrote))

pub returns-clause-answers : goal.returns-clause-answers
returns-clause-answers g c =
    let a = c.args in
    let left = g.S.Source.left a.log.now in
    let left' = g.S.Source.left c.tell_log-closing.new.source in
    let took = g.O.Sink.taken a.out.now in
    let now = g.O.Sink.taken c.tell_log-closing.new.out in
    let took' = g.O.Sink.taken c.write_flushed.new.out in
    let rest = g.T.Teller.rest a.teller.now in
    let closing = c.tell_log-closing.result in
    let told = c.tell_log-closing.new in
    let b = beside a.script.now a.answers.now in
    let fine : is_broken closing ≡ false = sym c.is_broken.ensures ∙ c.if-is_broken.false in
    let closes = subst (λ (x : Bool). HaltsTelling x left left' took now b rest closing (g.T.Teller.rest told.teller) (life told.life) told.text.items) fine c.tell_log-closing.ensures.halts in
    let wrote : Wrote now took' c.put_end.new.text.items true = subst (λ (x : Text). Wrote now took' x true) c.as_slice.ensures.value c.in-Err-write_flushed.ensures.wrote in
    inl (told_cut left left' took now b rest a.sought g.T.Teller.why closing (g.T.Teller.rest told.teller) (life told.life) told.text.items closes fine took' c.put_end.new.text.items c.in-Ok.ensures wrote)
