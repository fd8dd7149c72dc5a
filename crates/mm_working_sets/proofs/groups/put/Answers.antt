use Rattle.std.proofs.Common.{true}
use Rattle.mm_working_sets.proofs.{puts_page}
use Rattle.mm_working_sets.proofs.groups.put.Goals as goal

pub returns : goal.returns
returns c = puts_page true c.args.sets.now.items c.index_mut.result.now c.insert.new.self c.args.set c.args.page c.requires.there c.index_mut.ensures.value c.insert.ensures
