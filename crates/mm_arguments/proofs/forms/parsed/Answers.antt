use Rattle.std.proofs.Common.{map, string_bytes}
use Rattle.mm_arguments.specs.{words_app}
use Rattle.mm_arguments.proofs.{accepted, refused, simple_some}
use Rattle.mm_arguments.proofs.forms.parsed.Goals as goal

pub returns-in-Ok : goal.returns-in-Ok
returns-in-Ok c =
    accepted (words_app c.args.forms.now) (map string_bytes c.args.words.now) c.in_ok-command.command c.in-Ok.matches c.in_ok-command.ensures
    (simple_some c.args.forms.now c.requires.some) c.in-Ok.ensures.kinds c.in-Ok.ensures.matches

pub returns-else-is_for_memory : goal.returns-else-is_for_memory
returns-else-is_for_memory c free =
    refused (words_app c.args.forms.now) (map string_bytes c.args.words.now) c.in-Err.error c.in_ok-command.command c.in_ok-command.ensures
    (simple_some c.args.forms.now c.requires.some) c.in-Err.ensures.kinds (rw c.if-is_for_memory.false at c.is_for_memory.ensures.no) free
