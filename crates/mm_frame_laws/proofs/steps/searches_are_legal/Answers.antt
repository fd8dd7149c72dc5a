use Rattle.mm_frame_laws.proofs.{unmap_legal, store_there, wrote_legal, lost_legal}
use Rattle.mm_frame_laws.proofs.steps.searches_are_legal.Goals as goal

pub returns : goal.returns
returns c = record {
  unmap = unmap_legal;
  write = λ l s access f w. store_there l s f w.modified access w.can;
  wrote = λ l s access f on home. wrote_legal l s f on home access;
  lost = λ l s access f on home. lost_legal l s f on home access;
}
