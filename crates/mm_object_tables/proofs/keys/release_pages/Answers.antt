use Rattle.mm_object_tables.proofs.{as_many}
use Rattle.mm_object_tables.proofs.keys.release_pages.Goals as goal

pub returns-clause-gives_up : goal.returns-clause-gives_up
returns-clause-gives_up g c = record {
  given_up = as_many c.args.goes c.args.pid c.args.range c.args.space.now.regions c.requires.can c.release_some.ensures.given_up;
  passes = c.release_some.ensures.passes;
  loans = c.release_some.ensures.loans;
}
