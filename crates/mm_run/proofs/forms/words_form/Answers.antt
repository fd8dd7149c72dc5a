use Rattle.std.proofs.Common.{◌≡◌, ◌∙◌, ap, ap₂, sym, refl, ◌∷◌, []}
use Rattle.mm_types.specs.{Text}
use Rattle.mm_arguments.specs.{texts}
use Rattle.mm_run.proofs.{no_numbers, says_none, two_items}
use Rattle.mm_run.proofs.forms.words_form.Goals as goal

pub returns-in-None : goal.returns-in-None
returns-in-None c f says =
    let none = rw c.in-None.is at c.in_ok-said.ensures in
    says_none _ _ c.args.words.now none (record { run = refl; run_least = refl; run_most = refl; bulk = refl; bulk_least = refl; bulk_most = refl }) f says

pub returns-in-len2 : goal.returns-in-len2
returns-in-len2 c f says =
    let said = rw c.in-Some.is at c.in_ok-said.ensures in
    let items = sym c.as_slice.ensures.value ∙ two_items c.as_slice.result.now _ _ c.in-len2.len_at_least c.in-len2.len_below in
    let are : texts c.in-Some.said.values.items ≡ c.as_bytes.result.now ∷ c.as_bytes-in-len2.result.now ∷ [] =
    ap texts items ∙ ap₂ (λ (x y : Text). x ∷ y ∷ []) (sym c.as_bytes.ensures.value) (sym c.as_bytes-in-len2.ensures.value) in
    no_numbers _ _ c.args.words.now c.in-Some.said said (record { run = refl; run_least = refl; run_most = refl; bulk = refl; bulk_least = refl; bulk_most = refl }) c.as_bytes.result.now c.as_bytes-in-len2.result.now are c.in-None-numbers.ensures f says
