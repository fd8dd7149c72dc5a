use Rattle.mm_world.specs.{filled, no_bytes}
use Rattle.mm_world.proofs.Natural as natural
use Rattle.mm_world.proofs.NaturalSections as sections
use Rattle.mm_world.proofs.laws.calls_do_not_look_at_bytes.Goals as goal

pub returns : goal.returns
returns c = record {
  alloc = λ w pid addr size type prot. (natural.in_alloc no_bytes filled w pid addr size type prot).same;
  free = λ w pid addr size type. (natural.in_free no_bytes w pid addr size type).same;
  protect = λ w pid addr size prot. (natural.in_protect no_bytes w pid addr size prot).same;
  query = λ w pid addr. (sections.in_query no_bytes w pid addr).same;
  create = λ w pid size flags name. (sections.in_create no_bytes filled w pid size flags name).same;
  create_file = λ w pid file flags name. (sections.in_create_file no_bytes w pid file flags name).same;
  «open» = λ w pid name. (sections.in_open no_bytes w pid name).same;
  close = λ w pid handle. (sections.in_close no_bytes w pid handle).same;
  map = λ w pid handle access offset len addr. (sections.in_map no_bytes w pid handle access offset len addr).same;
  unmap = λ w pid addr. (sections.in_unmap no_bytes w pid addr).same;
  flush = λ w pid addr size. (sections.in_flush no_bytes w pid addr size).same;
  new_process = λ w. (sections.in_new_process no_bytes w).same;
  exit = λ w pid. (sections.in_exit no_bytes w pid).same;
  new_file = λ w name pages byte. (sections.in_new_file no_bytes filled w name pages byte).same;
  take_fail = λ w. (sections.in_take_fail no_bytes w).same;
  tell_charge = λ w. (sections.in_tell_charge no_bytes w).same;
  grow = λ w n. (sections.in_grow no_bytes w n).same;
  stack = λ w tid pid reserve commit. (sections.in_stack no_bytes filled w tid pid reserve commit).same;
  watch = λ w pid unwrites addr size count. (sections.in_watch no_bytes w pid unwrites addr size count).same;
  reset_watch = λ w pid addr size. (sections.in_reset_watch no_bytes w pid addr size).same;
  probe = λ w tid addr. (sections.in_probe no_bytes filled w tid addr).same;
}
