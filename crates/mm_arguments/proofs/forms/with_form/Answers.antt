use Rattle.std.proofs.Common.{ap, ◌∙◌}
use Rattle.std.proofs.lemmas.Result.{IfOk-weaker}
use Rattle.clap.specs.Words.{App, app_of, with_subcommand}
use Rattle.mm_arguments.proofs.forms.with_form.Goals as goal

pub returns : goal.returns
returns c =
    let named = c.in_ok-named.ensures in
    IfOk-weaker c.subcommand.result _ _ (λ m h. h.shape named.1 ∙ ap (λ (a : App). with_subcommand (app_of c.args.command) a.top) named.0) c.subcommand.ensures
