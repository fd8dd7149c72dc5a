use Rattle.mm_frame_laws.proofs.{turns_end}
use Rattle.mm_frame_laws.proofs.searches.a_search_without_failed_writes_finds_a_frame.Goals as goal

pub returns : goal.returns
returns c = turns_end
