use Rattle.std.proofs.Common.{◌∙◌}
use Rattle.mm_generate.proofs.{one_step}
use Rattle.mm_generate.proofs.events.address.Goals as goal

pub returns-clause-after : goal.returns-clause-after
returns-clause-after c = c.draw.ensures.after ∙ one_step c.args.words.now
