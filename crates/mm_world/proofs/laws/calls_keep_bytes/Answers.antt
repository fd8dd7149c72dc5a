use Rattle.mm_world.proofs.{watch_across, reset_watch_across, alloc_across, free_across, protect_across, query_across, create_across}
use Rattle.mm_world.proofs.{create_file_across, open_across, close_across, map_across, unmap_across, flush_across, new_process_across, exit_across}
use Rattle.mm_world.proofs.{take_fail_across, grow_across, stack_across, new_file_across, probe_across}
use Rattle.mm_world.proofs.laws.calls_keep_bytes.Goals as goal

pub returns : goal.returns
returns c = record {
  alloc = alloc_across;
  free = free_across;
  protect = protect_across;
  query = query_across;
  create = create_across;
  create_file = create_file_across;
  «open» = open_across;
  close = close_across;
  map = map_across;
  unmap = unmap_across;
  flush = flush_across;
  new_process = new_process_across;
  exit = exit_across;
  take_fail = take_fail_across;
  grow = grow_across;
  stack = stack_across;
  file = new_file_across;
  watch = watch_across;
  reset_watch = reset_watch_across;
  probe = probe_across;
}
