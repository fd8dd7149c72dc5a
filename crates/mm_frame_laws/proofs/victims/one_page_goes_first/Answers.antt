use Rattle.mm_frame_laws.proofs.{some_victim, some_oldest, one_victim, one_oldest, set_oldest, all_go}
use Rattle.mm_frame_laws.proofs.victims.one_page_goes_first.Goals as goal

pub returns : goal.returns
returns c = record {
  victim = some_victim;
  oldest = some_oldest;
  in_set = set_oldest;
  unpinned = all_go;
  one_victim = one_victim;
  one_oldest = one_oldest;
}
