use Rattle.mm_object_tables.proofs.{lowest_within}
use Rattle.mm_object_tables.proofs.tables.Tables.lowest.Goals as goal

pub returns-clause-within : goal.returns-clause-within
returns-clause-within c = lowest_within c.process.result.now.space.regions c.lowest.result c.lowest.ensures.sound c.lowest.ensures.found
