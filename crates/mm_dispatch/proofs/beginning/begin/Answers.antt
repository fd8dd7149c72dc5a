use Rattle.mm_dispatch.proofs.{begins-line, begins-plain}
use Rattle.mm_dispatch.proofs.beginning.begin.Goals as goal

pub returns-clause-starts : goal.returns-clause-starts
returns-clause-starts g c = record {
  begins = begins-line _ _ _ _ c.line.ensures.store;
  contents = c.line.ensures.contents;
  keeps = λ t keeps. begins-plain _ _ t _ _ _ _ c.requires.plain c.requires.next c.line.ensures.contents c.line.ensures.store keeps;
  passes = c.line.ensures.passes;
  loans = c.line.ensures.loans;
}
