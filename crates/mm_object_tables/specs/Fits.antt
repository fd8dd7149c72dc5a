-- What the tables say of a store, and what a call does to both.
use Rattle.std.specs.Prelude.{◌≡◌, ◌≤◌, ℕ, ◌+◌, ◌-◌, Bool, true, false, not, ◌&&◌, ◌==◌, nat_le, nat_lt, if◌then◌else◌, is_some, List, length, slice_get, count_by, sum_by, Option, Some, None, unwrap_or, option_map, option_and_then}
use Rattle.mm_types.specs.{Answer, Key, Place, View, Kind, base_of, reserve_type, Range, holds_page, Text}
use Rattle.mm_types.specs.declared.answers.Answer.TheVariants as answer
use Rattle.mm_types.specs.declared.numbers.Key.TheVariants as key
use Rattle.mm_world.specs.{same_key, Page, RegionOf, ProcessOf, WorldOf, filled, Found, process_of, region_with, region_around, area_at, charge}
use Rattle.mm_world.specs.{area_charge, Committed, committed_at, key_of, shared_key, content_of, is_file_key, OutcomeOf, done, grow, new_file}
use Rattle.mm_world.specs.{most_slots, flush, flushed_view, flushed_range, is_failed_extension, is_ok, Tables, BytesAfter, blank}
use Rattle.mm_address_spaces.specs.{unmarked_in}
use Rattle.mm_types.specs.declared.views.Kind.TheVariants as view_kind
use Rattle.mm_world.specs.Report.{Report}
use Rattle.mm_store.specs.{StoreOf, own_key, rearranged, begun, called, wrote}
use Rattle.mm_move_rules.specs.{same_place}
use Rattle.mm_move_rules.specs.{changed}

-- the bytes of a key; of one that is not live zeros
abbrev pub key_bytes : (Key → Option Page) → Key → Page
key_bytes contents k = unwrap_or (contents k) (filled 0)

module _ {B : Type 0} where
  -- the place lies in a region of a living process
  abbrev pub is_reserved : WorldOf B → Place → Bool
  is_reserved w place =
      unwrap_or (option_map (λ p. is_some (region_with p.regions place.vpn.0))
      (process_of w place.pid.0)) false

  -- the key of the place's committed row
  abbrev pub key_at : WorldOf B → Place → Option Key
  key_at w place =
      option_and_then
      (λ p. option_map (λ c. key_of place.pid.0 place.vpn.0 c.home)
      (committed_at w p.regions place.vpn.0))
      (process_of w place.pid.0)

  -- no committed row is there
  abbrev pub is_uncommitted : WorldOf B → Place → Bool
  is_uncommitted w place = not (is_some (key_at w place))

  -- live, and not a file's
  abbrev pub is_paging : WorldOf B → Key → Bool
  is_paging w k = is_some (content_of w k) && not (is_file_key w k)

  -- how many pages an area has; none where it has none (an area that ended is empty)
  abbrev pub open_pages : WorldOf B → ℕ → Option ℕ
  open_pages w area = let n = length (area_at w area).pages in if n == 0 then None else Some n

  -- of a live file key
  abbrev pub file_block_in : WorldOf B → Key → Option ℕ
  file_block_in w (key.Private pid page) = None
  file_block_in w (key.Shared area index) =
      if is_some (content_of w (key.Shared area index))
      then option_map (λ first. first + index) (area_at w area.0).file_block
      else None

  -- how many page-file keys live: the private pages, copied ones among them, and the committed
  -- pages of page-file sections
  abbrev pub owned_keys : Option (ProcessOf B) → ℕ
  owned_keys None = 0
  owned_keys (Some p) = sum_by (λ r. count_by (λ row. is_some row.own) r.rows) p.regions

  abbrev pub paging_count : WorldOf B → ℕ
  paging_count w = sum_by owned_keys w.processes + sum_by area_charge w.areas

-- a store holds what the tables say
pub record FitsTables (t : Tables) (contents : Key → Option Page) (s : StoreOf) : Type 0 where
  pub machine : s.machine ≡ t.machine
  pub opened : (pid : ℕ) → s.is_open pid ≡ is_some (process_of t pid)
  pub last_pid : s.last_pid + 1 ≡ length t.processes
  pub areas : (area : ℕ) → s.areas area ≡ open_pages t area
  pub bound : (place : Place) → s.bound place ≡ is_reserved t place
  pub live : (k : Key) → is_some (contents k) ≡ is_some (content_of t k)
  pub paging : (k : Key) → s.paging k ≡ is_paging t k
  pub counted : s.paging_keys ≡ paging_count t
  pub room : charge t ≤ s.room
  pub named : (place : Place) (k : Key) → s.names place ≡ Some k → key_at t place ≡ Some k
  pub blocks : (k : Key) → s.block_of k ≡ file_block_in t k
  pub used : s.blocks_used ≡ t.blocks_used
  pub stored : length s.file_blocks ≡ t.machine.blocks
  pub named_paging : length s.paging_device.named ≤ t.fails_taken
  pub named_file : length s.file_device.named ≤ t.fails_taken

-- a call was decided as the definition says, and the bytes of keys that stay are kept
pub record Called (q : OutcomeOf (Unit {0})) (t : Tables) (old : Key → Option Page) (a : Answer)
    (after : Tables) (new : Key → Option Page) : Type 0 where
  pub outcome : q ≡ record { answer = a; world = after }
  pub bytes : BytesAfter t (key_bytes old) after (key_bytes new)

-- a store after a call: all that calls leave alone is as before
abbrev pub store_beside : StoreOf → StoreOf → StoreOf
store_beside old new =
    record old {
      is_open = new.is_open;
      areas = new.areas;
      bound = new.bound;
      names = new.names;
      paging = new.paging;
      paging_keys = new.paging_keys;
      room = new.room;
      report = rearranged old.report new.report;
    }

-- a key's bytes are as they were, or zeros where the key is new
abbrev pub Carried : Option Page → Option Page → Type 0
Carried old new = unwrap_or new (filled 0) ≡
    (if is_some old && is_some new then unwrap_or old (filled 0) else filled 0)

pub record CarriesPages (old new : Key → Option Page) : Type 0 where
  pub at : (k : Key) → Carried (old k) (new k)

-- what each step of a call leaves: the store fits the new tables, and all that stays is as before
pub record Settled (after : Tables) (old new : Key → Option Page) (s z : StoreOf) : Type 0 where
  pub fits : FitsTables after new z
  pub carries : CarriesPages old new
  pub rest : z ≡ store_beside s z

-- a store after the paging file was to grow: all that this leaves alone is as before
abbrev pub extended : StoreOf → StoreOf → StoreOf
extended old new =
    record old {
      machine = new.machine;
      room = new.room;
      line = new.line;
      kind = new.kind;
      ready = None;
      report = record (begun old.report) {
        counts = new.report.counts;
        extended = new.report.extended;
      };
      paging_device = called old.paging_device new.paging_device;
    }

-- `grow`: that the paging device failed is told by the line's report
abbrev pub grow_told : Tables → ℕ → Report → OutcomeOf (Unit {0})
grow_told t n after =
    if nat_le (t.machine.slots + n) most_slots && is_failed_extension after.extended
    then done answer.Fault t
    else grow t n

-- `file`: that the file device failed is told by the line's report
abbrev pub file_told : Tables → Text → ℕ → ℕ → Report → OutcomeOf (Unit {0})
file_told t name pages byte after =
    if is_ok (new_file blank t name pages byte).answer && nat_lt 0 after.file_writes.failed
    then done answer.Fault t
    else new_file blank t name pages byte

-- a store after a file was to be made
abbrev pub beside_file : StoreOf → StoreOf → StoreOf
beside_file old new = record (wrote old new) {
  areas = new.areas;
  block_of = new.block_of;
  blocks_used = new.blocks_used;
}

-- `flush`: that the file device failed is told by the line's report
abbrev pub flush_told : Tables → ℕ → ℕ → ℕ → Report → OutcomeOf (Unit {0})
flush_told t pid addr size after =
    if is_ok (flush t pid addr size).answer && nat_lt 0 after.file_writes.failed
    then done answer.Fault t
    else flush t pid addr size

-- the blocks of the shared pages of a range of a view hold their bytes
abbrev pub BlocksHold : Tables → (Key → Option Page) → List Page → ℕ → ℕ → ℕ → Type 0
BlocksHold t contents blocks pid addr size =
    (p : ProcessOf (Unit {0})) (r : Found (RegionOf (Unit {0}))) (v : View) (page block : ℕ) →
    process_of t pid ≡ Some p → flushed_view p.regions addr size ≡ Some r →
    r.thing.kind ≡ view_kind.View v → holds_page (flushed_range r.thing addr size) page ≡ true →
    file_block_in t (shared_key v.area.0 (v.first + (page - r.thing.base))) ≡ Some block →
    slice_get blocks block ≡ contents (shared_key v.area.0 (v.first + (page - r.thing.base)))

-- the store before the line of a process that is to be made
abbrev pub before_process : Tables → StoreOf → StoreOf
before_process t s = record s { last_pid = length t.processes - 1 }

-- ---- counted pages

-- how many pages of a new region are committed
abbrev pub new_pages : ℕ → Range → ℕ
new_pages type range = if type == reserve_type then 0 else range.count

-- how many pages of a range, which lies in one region, a protection marks: in a view WRITECOPY
-- marks those without a mark
abbrev pub newly_marked : Kind → List (RegionOf (Unit {0})) → Range → ℕ → ℕ
newly_marked view_kind.Private regions range prot = 0
newly_marked (view_kind.View v) regions range prot = if base_of prot == 0x08 then
    unmarked_in regions range else 0

abbrev pub new_marks : List (RegionOf (Unit {0})) → Range → ℕ → ℕ
new_marks regions range prot =
    unwrap_or (option_map (λ r. newly_marked r.thing.kind regions range prot)
    (region_around regions range)) 0

-- ---- copies

-- a page of a view with a mark, which was not copied
pub record CanCopy (c : Committed (Unit {0})) : Type 0 where
  pub marked : c.row.marked ≡ true
  pub shared : c.row.own ≡ None

-- a store after a page was copied to a place's own key
abbrev pub copied : Place → StoreOf → StoreOf
copied place s =
    record s {
      names = changed same_place s.names place (Some (own_key place));
      paging = changed same_key s.paging (own_key place) true;
      paging_keys = s.paging_keys + 1;
    }

-- ---- named calls

-- at most one more was named on each device, and nothing else changed
pub record NamesAtMostOne (s z : StoreOf) : Type 0 where
  pub same : z ≡ record s { paging_device = z.paging_device; file_device = z.file_device }
  pub paging : length z.paging_device.named ≤ length s.paging_device.named + 1
  pub file : length z.file_device.named ≤ length s.file_device.named + 1
