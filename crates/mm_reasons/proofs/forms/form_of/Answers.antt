use Rattle.std.proofs.Common.{◌∙◌, sym, refl, string_bytes}
use Rattle.mm_reasons.proofs.FormWords.{is_none}
use Rattle.mm_reasons.proofs.forms.form_of.Goals as goal

pub returns-in-None : goal.returns-in-None
returns-in-None c =
    let none = rw c.in-None.is at c.in_ok-said.ensures in
    is_none string_bytes _ _ c.args.words.now (sym c.is_empty.ensures ∙ c.if-is_empty.false) none
    (record { lines = refl; lines_least = refl; talk = refl; talk_least = refl })
