-- The command that reads the words, as clap's clauses see it, and what its parse has of a form.
use Rattle.std.specs.Prelude.{◌≡◌, ◌==◌, ℕ, Bool, true, false, nat_lt, max, List, [], ◌∷◌, map}
use Rattle.std.specs.Prelude.{codes, Option, Some, unwrap_or, if◌then◌else◌}
use Rattle.clap.specs.Words.{App, Row, Rule, Shape, Text, all_of, new_rule, with_subcommand}
use Rattle.clap.specs.Simple.{new_shape}
use Rattle.clap.specs.declared.builder.ArgAction.TheVariants.{Set}
use Rattle.mm_arguments.specs.declared.forms.Form.{Form}
use Rattle.mm_arguments.specs.declared.forms.Said.{Said}
use Rattle.mm_arguments.specs.Forms.{texts}

-- an argument with so many values
abbrev pub values_rule : ℕ → ℕ → Rule
values_rule least most = record (new_rule (codes "values")) {
  required = nat_lt 0 least;
  action = Some Set;
  range = Some (record { start_inclusive = least; end_inclusive = most });
}

abbrev pub form_rules : Form → List Rule
form_rules f = if f.most == 0 then [] else values_rule f.least (max f.most f.least) ∷ []

abbrev pub form_shape : Form → Shape
form_shape f = record (new_shape f.name.now) { rules = form_rules f }

abbrev pub form_app : Form → App
form_app f = record { top = form_shape f; subs = [] }

abbrev pub top_shape : Shape
top_shape = record (new_shape (codes "words")) {
  no_binary_name = true;
  disable_help_flag = true;
  disable_help_subcommand = true;
  subcommand_required = true;
}

abbrev pub is_none : List Form → Bool
is_none [] = true
is_none (f ∷ fs) = false

abbrev pub words_app : List Form → App
words_app forms = record {
  top = record top_shape { is_leaf = is_none forms };
  subs = map form_shape forms;
}

-- a form's subcommand added
abbrev pub with_form : App → Form → App
with_form a f = with_subcommand a (form_shape f)

-- the values that the rows of a form have
abbrev pub values_of : List Row → List Text
values_of rows = unwrap_or (all_of (codes "values") rows) []

-- the subcommand that a parse entered has this name and these values
pub record GivesWords (met : Option (Text × List Row)) (said : Said) : Type 0 where
  pub rows : List Row
  pub met_is : met ≡ Some (said.name.now, rows)
  pub values : values_of rows ≡ texts said.values.items
