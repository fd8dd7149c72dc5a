-- The calls of devices between two states of a store: none, one after another, writes of the file device alone.
use Rattle.std.proofs.Common.{◌≡◌, List, [], ◌∷◌, ◌++◌, refl, sym, ap, ◌∙◌}
use Rattle.mm_types.specs.{Direction}
use Rattle.mm_types.specs.declared.devices.Direction.TheVariants as way
use Rattle.mm_world.specs.{Tally}
use Rattle.mm_devices.specs.{Call, AllServed}
use Rattle.mm_devices.proofs.{all_served_then}
use Rattle.mm_store.specs.{tallied, with_call, Served, StoreOf}

-- ---- calls of one device

pub tallied_then : (d : Direction) (cs ds : List Call) (t : Tally) → tallied d (cs ++ ds) t ≡ tallied d ds (tallied d cs t)
tallied_then d [] ds t = refl
tallied_then d (x ∷ cs) ds t = tallied_then d cs ds (with_call d x t)

-- ---- calls of both

-- no device was called
pub served_nothing : (s z : StoreOf) → z.paging_device ≡ s.paging_device → z.file_device ≡ s.file_device → z.report.paging_reads ≡ s.report.paging_reads → z.report.paging_writes ≡ s.report.paging_writes → z.report.file_reads ≡ s.report.file_reads → z.report.file_writes ≡ s.report.file_writes → Served s z
served_nothing s z paging files preads pwrites freads fwrites = record {
  paging_calls = [];
  file_calls = [];
  paging = paging;
  files = files;
  paging_reads = preads;
  paging_writes = pwrites;
  file_reads = freads;
  file_writes = fwrites;
}

-- nothing was done
pub served_none : (s : StoreOf) → Served s s
served_none s = served_nothing s s refl refl refl refl refl refl

-- the calls of one step, and then those of another
pub served_then : (a b c : StoreOf) → Served a b → Served b c → Served a c
served_then a b c p q = record {
  paging_calls = p.paging_calls ++ q.paging_calls;
  file_calls = p.file_calls ++ q.file_calls;
  paging = all_served_then p.paging_calls q.paging_calls _ _ _ p.paging q.paging;
  files = all_served_then p.file_calls q.file_calls _ _ _ p.files q.files;
  paging_reads = q.paging_reads ∙ ap (tallied way.Read q.paging_calls) p.paging_reads ∙ sym (tallied_then way.Read p.paging_calls q.paging_calls _);
  paging_writes = q.paging_writes ∙ ap (tallied way.Write q.paging_calls) p.paging_writes ∙ sym (tallied_then way.Write p.paging_calls q.paging_calls _);
  file_reads = q.file_reads ∙ ap (tallied way.Read q.file_calls) p.file_reads ∙ sym (tallied_then way.Read p.file_calls q.file_calls _);
  file_writes = q.file_writes ∙ ap (tallied way.Write q.file_calls) p.file_writes ∙ sym (tallied_then way.Write p.file_calls q.file_calls _);
}

-- the file device was called in writing alone
pub served_writes : (s z : StoreOf) (calls : List Call) → AllServed calls s.file_device z.file_device → z.report.file_writes ≡ tallied way.Write calls s.report.file_writes → ((t : Tally) → tallied way.Read calls t ≡ t) → z.paging_device ≡ s.paging_device → z.report.paging_reads ≡ s.report.paging_reads → z.report.paging_writes ≡ s.report.paging_writes → z.report.file_reads ≡ s.report.file_reads → Served s z
served_writes s z calls served counted none_read paging preads pwrites freads = record {
  paging_calls = [];
  file_calls = calls;
  paging = paging;
  files = served;
  paging_reads = preads;
  paging_writes = pwrites;
  file_reads = freads ∙ sym (none_read s.report.file_reads);
  file_writes = counted;
}
