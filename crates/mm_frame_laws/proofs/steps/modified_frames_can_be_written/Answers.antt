use Rattle.mm_frame_laws.proofs.{which_writes, file_writes, paged_writes, store_in_writer, write_lists, write_record, write_others}
use Rattle.mm_frame_laws.proofs.steps.modified_frames_can_be_written.Goals as goal

pub returns : goal.returns
returns c = record {
  which = which_writes;
  file = file_writes;
  paged = paged_writes;
  writer = λ l s writer depth f w. store_in_writer l s f w.modified writer depth w.can;
  lists = write_lists;
  «record» = write_record;
  others = write_others;
}
