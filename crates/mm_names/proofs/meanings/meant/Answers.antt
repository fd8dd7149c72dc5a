use Rattle.mm_names.proofs.{formed_result}
use Rattle.mm_names.proofs.meanings.meant.Goals as goal

pub returns-clause-formed : goal.returns-clause-formed
returns-clause-formed c = formed_result c.args.names.now c.args.line.now c.meaning_of.result c.meaning_of.ensures
