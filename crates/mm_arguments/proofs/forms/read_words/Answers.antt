use Rattle.std.proofs.Common.{rules, ◌∙◌, sym, subst, length, map, string_bytes, eqb-true}
use Rattle.std.proofs.lemmas.Result.{IfOk-weaker}
use Rattle.clap.specs.Words.{subcommand_rows_of}
use Rattle.mm_arguments.proofs.{dashed_none, none_empty, reads_some, said_from, says_none_some, Read}
use Rattle.mm_arguments.proofs.forms.read_words.Goals as goal

pub returns-then-is_empty : goal.returns-then-is_empty
returns-then-is_empty c = none_empty c.args.forms.now (map string_bytes c.args.words.now) (eqb-true (length c.args.forms.now) 0 (sym c.is_empty.ensures ∙ c.if-is_empty.true))

pub returns-then-any_dashed : goal.returns-then-any_dashed
returns-then-any_dashed c = dashed_none c.args.forms.now (map string_bytes c.args.words.now) (sym c.any_dashed.ensures ∙ c.if-any_dashed.true)

pub returns-in-Some : goal.returns-in-Some
returns-in-Some c =
    let forms = c.args.forms.now in
    let words = map string_bytes c.args.words.now in
    let plain = sym c.any_dashed.ensures ∙ c.if-any_dashed.false in
    let met = rw c.in-Some.is at c.in_ok-matches.ensures in
    let read = reads_some forms (search rules) c.requires words plain met.0 in
    IfOk-weaker c.said_of.result _ _ (λ r h. said_from forms words (subcommand_rows_of c.in-Some.matches) plain (subst (Read forms words) (sym met.1) read) r h) c.said_of.ensures

pub returns-in-None : goal.returns-in-None
returns-in-None c =
    let refuses = rw c.in-None.is at c.in_ok-matches.ensures in
    says_none_some c.args.forms.now (search rules) (map string_bytes c.args.words.now) c.requires refuses
