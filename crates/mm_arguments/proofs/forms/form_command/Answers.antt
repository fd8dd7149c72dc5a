use Rattle.std.proofs.Common.{rules, ℕ, Bool, cond, max, ap, ap₂, sym, false, Option, None, Some, ◌≡◌, ◌∙◌, [], ◌∷◌}
use Rattle.std.specs.Prelude.{◌==◌, ◌||◌, nat_lt}
use Rattle.std.proofs.lemmas.Result.{IfOk-weaker}
use Rattle.std.proofs.lemmas.Bool.{ne_eqb}
use Rattle.std.specs.Option.{IsSomeAnd}
use Rattle.clap.specs.declared.builder.ValueRange.{ValueRange}
use Rattle.clap.specs.declared.builder.ArgAction.TheVariants.{Set}
use Rattle.clap.specs.Words.{App, Rule, new_app, rule_of, with_rule}
use Rattle.clap.specs.Simple.{new_shape}
use Rattle.mm_arguments.specs.{Form, form_app, values_rule}
use Rattle.mm_arguments.proofs.forms.form_command.Goals as goal

some_is : {X : Type 0} (o : Option X) (x : X) → IsSomeAnd o (λ y. y ≡ x) → o ≡ Some x
some_is None x h = absurd h
some_is (Some y) x h = ap (λ z. Some z) h

abbrev range_of : ℕ → ℕ → Option ValueRange
range_of least most = Some (record { start_inclusive = least; end_inclusive = max most least })

-- by whether it has no values
abbrev app_by : Form → Rule → Bool → App
app_by form rule b = record { top = record (new_shape form.name.now) { rules = cond b [] (rule ∷ []) }; subs = [] }

pub returns : goal.returns
returns c =
    let form = c.args.form in
    let rule = values_rule form.least (max form.most form.least) in
    let range : c.num_args-values.result.num_vals ≡ range_of form.least form.most =
    some_is c.num_args-values.result.num_vals _ c.num_args-values.ensures.1 ∙ ap₂ range_of c.new-2.ensures.start c.new-2.ensures.end in
    let rule_is : rule_of c.num_args-values.result ≡ rule =
    ap rule_of c.num_args-values.ensures.0 ∙ ap₂ (λ (r : Rule) (o : Option ValueRange). record r { range = o })
    (ap rule_of c.action.ensures ∙ ap (λ (r : Rule). record r { action = Some Set })
    (ap rule_of c.required.ensures ∙ ap (λ (r : Rule). record r { required = nat_lt 0 form.least }) c.new.ensures.rule)) range in
    let some : (form.most == 0) ≡ false = ne_eqb form.most 0 c.if-form-eq0.false in
    let app_is : with_rule (new_app form.name.now) rule ≡ form_app form =
    ap (app_by form rule) (sym some) in
    IfOk-weaker c.arg.result _ _ (λ m h. (
      h.shape (search rules) ∙ (ap₂ with_rule c.new-command.ensures.app rule_is ∙ app_is),
      h.globals ∙ ap₂ (λ (a b : Bool). a || b) c.new-command.ensures.local (search rules),
    )) c.arg.ensures
