use Rattle.std.proofs.Common.{◌∙◌, ◌+◌, ap, sym, drop, arith}
use Rattle.std.specs.List.{fold}
use Rattle.std.proofs.lemmas.List.{at_drop_more}
use Rattle.clap.specs.Words.{App, app_of}
use Rattle.mm_arguments.specs.{with_form}
use Rattle.mm_arguments.proofs.{all_added}
use Rattle.mm_arguments.proofs.forms.command.Goals as goal

pub loop-form-init : goal.loop-form-init
loop-form-init c = ap (λ (a : App). fold with_form a c.args.forms.now) c.bare_command-command.ensures ∙ all_added c.args.forms.now

pub loop-form-preserved : goal.loop-form-preserved
loop-form-preserved c =
    ap (λ (a : App). fold with_form a (drop (c.loop-form.form-index + 1) c.args.forms.now)) c.in_ok-command.ensures
    ∙ (sym (at_drop_more (fold with_form (app_of c.loop-form.command)) c.args.forms.now c.loop-form.form-index _ (omega arith)) ∙ c.loop-form.invariant)
