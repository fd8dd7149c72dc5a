use Rattle.std.proofs.Common.{◌≡◌, drop}
use Rattle.std.specs.List.{fold}
use Rattle.clap.specs.Words.{app_of}
use Rattle.mm_arguments.specs.{with_form, words_app}
use Rattle.mm_arguments.proofs.forms.command.Given as goal

abbrev pub invariant-loop-form : goal.invariant-loop-form
invariant-loop-form l = fold with_form (app_of l.command) (drop l.form-index l.forms) ≡ words_app l.forms
