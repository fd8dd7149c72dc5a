use Rattle.mm_sections.specs.{one_handle_less}
use Rattle.mm_sections.proofs.{some_of, dropped}
use Rattle.mm_sections.proofs.directories.Directory.drop_handle.Goals as goal

pub returns-clause-dropped : goal.returns-clause-dropped
returns-clause-dropped c = dropped c.args.self.now c.recount.new.self c.settle.new.self c.args.id.0 one_handle_less (some_of _ _ c.requires.lives) c.recount.ensures c.settle.ensures.settled
