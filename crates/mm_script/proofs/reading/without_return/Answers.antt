use Rattle.std.proofs.Common.{ap, sym, ◌∙◌, ◌++◌, Some, None}
use Rattle.std.proofs.lemmas.Bool.Decides.{Decides-eqb}
use Rattle.std.proofs.lemmas.Slice.Eq.{strip_suffix_is}
use Rattle.mm_script.specs.{without_return}
use Rattle.mm_script.proofs.{return_taken, not_returned}
use Rattle.mm_script.proofs.reading.without_return.Goals as goal

pub returns-in-Some-clause-body : goal.returns-in-Some-clause-body
returns-in-Some-clause-body c =
    let s = c.args.line.now in
    let whole = strip_suffix_is Decides-eqb s c.as_slice.result.now (Some c.in-Some.body) c.in-Some.ensures.cases in
    sym (ap without_return (whole ∙ ap (λ p. c.in-Some.body.now ++ p) c.as_slice.ensures) ∙ return_taken c.in-Some.body.now)

pub returns-in-None-clause-body : goal.returns-in-None-clause-body
returns-in-None-clause-body c =
    not_returned c.args.line.now c.as_slice.result.now c.as_slice.ensures (strip_suffix_is Decides-eqb c.args.line.now c.as_slice.result.now None c.in-None.ensures.cases)
