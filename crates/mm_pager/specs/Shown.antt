-- What the store shows, out of the joined state and its own few fields.
use Rattle.std.specs.Prelude.{◌≡◌, ◌≤◌, ℕ, Bool, true, false, length, Option, Some, None, is_some}
use Rattle.mm_types.specs.{limit_of}
use Rattle.mm_move_rules.specs.{counts_of, is_touch, is_short, is_thread, wait_of}
use Rattle.mm_world.specs.Report.{Report}
use Rattle.mm_store.specs.Behind.{Behind}
use Rattle.mm_store.specs.{StoreOf, Ready, need_for, where_of, block_at, backed_by, no_calls}
use Rattle.mm_state_calls.specs.{StateOf}
use Rattle.mm_pager.specs.declared.pager.Wanted.{Wanted}

-- what the store keeps beside the state
pub record OwnOf : Type 0 where
  pub extended : Option Bool
  pub ready : Option Ready
  pub blocks_used : ℕ

abbrev pub report_of : StateOf → OwnOf → Report
report_of s o = record {
  paging_reads = s.told.paging_reads;
  paging_writes = s.told.paging_writes;
  file_reads = s.told.file_reads;
  file_writes = s.told.file_writes;
  last_failed_read = s.told.last_failed_read;
  search_writes = s.told.search_writes;
  counts = counts_of s.life;
  whereabouts = λ k. where_of s.life (s.life.stands k);
  wait = λ tid. wait_of (s.waits tid);
  extended = o.extended;
}

abbrev pub store_of : StateOf → OwnOf → StoreOf
store_of s o = record {
  machine = s.life.machine;
  is_open = s.is_open;
  areas = s.areas;
  bound = s.bound;
  names = s.names;
  paging = s.life.paging;
  paging_keys = s.life.paging_keys;
  room = limit_of s.life.machine;
  block_of = λ k. block_at (backed_by s.life (s.life.stands k));
  blocks_used = o.blocks_used;
  file_blocks = s.blocks;
  line = s.life.line;
  kind = s.life.kind;
  last_pid = length s.life.sets;
  ready = o.ready;
  report = report_of s o;
  paging_device = s.paging;
  file_device = s.files;
}

abbrev pub behind_of : StateOf → Behind
behind_of s = record { log = s.log; life = s.life; ages = s.ages; waits = s.waits; slots = s.slots }

abbrev pub ready_at : Option Wanted → Option Ready
ready_at None = None
ready_at (Some w) = Some (record { place = w.place; need = need_for w.need w.key w.place })

abbrev pub own_of : Option Bool → Option Wanted → ℕ → OwnOf
own_of extended ready used = record {
  extended = extended;
  ready = ready_at ready;
  blocks_used = used;
}

-- what the store keeps of them at all times
pub record StoreKept (s : StateOf) (o : OwnOf) : Type 0 where
  pub own : s.own ≡ None
  pub aside : s.aside ≡ None
  -- what is ready is valid at its place, in a line that accesses pages; for a copy there is a frame
  pub ready : (r : Ready) → o.ready ≡ Some r → is_some (s.life.valid r.place) ≡ true
  pub touching : (r : Ready) → o.ready ≡ Some r → is_touch s.life.kind ≡ true
  pub room : (r : Ready) → o.ready ≡ Some r → is_some r.need.copy ≡ true → is_short s.life ≡ false
  -- blocks that no file uses were never a key's
  pub fresh : (b : ℕ) → o.blocks_used ≤ b → s.life.added b ≡ false
  -- in a thread's line no device write was tried
  pub calm : is_thread s.life.kind ≡ true → s.told.search_writes ≡ no_calls
