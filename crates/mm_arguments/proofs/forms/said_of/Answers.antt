use Rattle.std.proofs.Common.{rules, ap, sym, None, Some}
use Rattle.mm_arguments.specs.{texts}
use Rattle.mm_arguments.proofs.{gives}
use Rattle.mm_arguments.proofs.forms.said_of.Goals as goal

pub returns-in_ok-from_slice-in-Some-get_strs : goal.returns-in_ok-from_slice-in-Some-get_strs
returns-in_ok-from_slice-in-Some-get_strs c =
    gives c.args.matches.now c.in-Some.entered.1.now _ c.in-Some.ensures.name c.in-Some.ensures.rows (Some (texts c.in-Some-get_strs.values.now)) c.in-Some-get_strs.ensures
    (sym (ap texts c.in_ok-from_slice-in-Some-get_strs.ensures.items))

pub returns-in-None-get_strs : goal.returns-in-None-get_strs
returns-in-None-get_strs c =
    gives c.args.matches.now c.in-Some.entered.1.now _ c.in-Some.ensures.name c.in-Some.ensures.rows None c.in-None-get_strs.ensures (search rules)
