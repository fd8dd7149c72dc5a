use Rattle.mm_script.proofs.{printed_again}
use Rattle.mm_script.proofs.printing.print_event.Goals as goal

pub returns-clause-again : goal.returns-clause-again
returns-clause-again c = λ empty h. printed_again c.args.out.now c.print.new.out c.args.event.now c.print.ensures empty h
