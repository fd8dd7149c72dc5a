-- The state of a replay: the life of the frames, line by line.
-- Profile, "Logs of moves".
use Rattle.std.specs.Prelude.{ℕ, zero, suc, ◌+◌, Bool, true, false, not, ◌&&◌, ◌==◌, nat_lt, if◌then◌else◌, List, [], ◌∷◌, length, replicate, count_by, Option, Some, None, slice_get, slice_set}
use Rattle.mm_types.specs.{MachineOf, Counts, Frame, Key, Place, Record, Held, LineKind}
use Rattle.mm_types.specs.declared.numbers.Key.TheVariants.{Private, Shared}
use Rattle.mm_types.specs.declared.frames.Held.TheVariants as held
use Rattle.mm_types.specs.declared.moves.LineKind.TheVariants as kind
use Rattle.mm_move_rules.specs.declared.sets.ResidentSet.{ResidentSet}
use Rattle.mm_move_rules.specs.Frames.{FrameTable, blank, has_request}

pub record FrameLife : Type 0 where
  -- the machine, with the slots that there are now; none before the first line
  pub machine : MachineOf
  -- the line that began last, 0 before the first
  pub line : ℕ
  pub kind : LineKind
  -- of pid 1, 2, ..
  pub sets : List ResidentSet
  pub frames : FrameTable
  -- for each slot whether it is free
  pub free_slots : List Bool
  -- for each key its frame, or if it has none its home: zero, a slot or a block; or that it is dead
  pub stands : Key → Held
  -- the live keys that were added with `zero`
  pub paging : Key → Bool
  -- how many those are
  pub paging_keys : ℕ
  -- the blocks that a key was ever added with
  pub added : ℕ → Bool
  -- for each valid place its frame
  pub valid : Place → Option Frame
  -- the frames with a request, oldest first
  pub flight : List ℕ

-- ---- keys and places

abbrev pub same_key : Key → Key → Bool
same_key (Private p v) (Private q w) = (p.0 == q.0) && (v.0 == w.0)
same_key (Private p v) (Shared a i) = false
same_key (Shared a i) (Private p v) = false
same_key (Shared a i) (Shared b j) = (a.0 == b.0) && (i == j)

abbrev pub same_place : Place → Place → Bool
same_place a b = (a.pid.0 == b.pid.0) && (a.vpn.0 == b.vpn.0)

-- a function changed at one argument, by a test of equality
abbrev pub changed : {K V : Type 0} → (K → K → Bool) → (K → V) → K → V → K → V
changed same f k v q = if same q k then v else f q

abbrev pub is_shared : Key → Bool
is_shared (Private p v) = false
is_shared (Shared a i) = true

-- the private key of a place
abbrev pub key_of_place : Place → Key
key_of_place place = Private place.pid place.vpn

abbrev pub is_dead : Held → Bool
is_dead (held.Frame f) = false
is_dead (held.Slot s) = false
is_dead (held.Block b) = false
is_dead held.Zero = false
is_dead held.Dead = true

abbrev pub is_live : FrameLife → Key → Bool
is_live l k = not (is_dead (l.stands k))

-- ---- processes

abbrev pub set_in : List ResidentSet → ℕ → Option ResidentSet
set_in sets zero = None
set_in sets (suc k) = slice_get sets k

abbrev pub set_of : FrameLife → ℕ → Option ResidentSet
set_of l pid = set_in l.sets pid

abbrev pub resident_by : Option ResidentSet → List ResidentSet → ℕ → (ℕ → ℕ) → List ResidentSet
resident_by None sets k change = sets
resident_by (Some s) sets k change = slice_set sets k (record s { resident = change s.resident })

-- the number of valid places of a pid changes
abbrev pub with_resident : List ResidentSet → ℕ → (ℕ → ℕ) → List ResidentSet
with_resident sets zero change = sets
with_resident sets (suc k) change = resident_by (slice_get sets k) sets k change

-- ---- counts

-- what `counts` tells of the frames, the slots and the requests
abbrev pub is_active : Record → Bool
is_active r = nat_lt 0 r.shares

abbrev pub is_in_transition : Record → Bool
is_in_transition r = (r.shares == 0) && has_request r.request

abbrev pub counts_of : FrameLife → Counts
counts_of l = record {
  zeroed = length l.frames.zeroed;
  free = length l.frames.free;
  standby = length l.frames.standby;
  modified = length l.frames.modified;
  active = count_by is_active l.frames.records;
  transition = count_by is_in_transition l.frames.records;
  free_slots = count_by (λ b. b) l.free_slots;
  requests = length l.flight;
}

-- ---- before the first line, and right after it

abbrev pub numbers_from : ℕ → ℕ → List ℕ
numbers_from n zero = []
numbers_from n (suc count) = n ∷ numbers_from (n + 1) count

-- all frames are free in rising order
abbrev pub free_table : ℕ → FrameTable
free_table frames = record {
  records = replicate frames blank;
  zeroed = [];
  free = numbers_from 0 frames;
  standby = [];
  modified = [];
}

abbrev pub life_at : MachineOf → ℕ → LineKind → FrameLife
life_at m line kind = record {
  machine = m;
  line = line;
  kind = kind;
  sets = [];
  frames = free_table m.frames;
  free_slots = replicate m.slots true;
  stands = λ _. held.Dead;
  paging = λ _. false;
  paging_keys = 0;
  added = λ _. false;
  valid = λ _. None;
  flight = [];
}

abbrev pub no_machine : MachineOf
no_machine = record { frames = 0; slots = 0; depth = 0; blocks = 0 }

-- the empty list of moves leads here: only the move of line 1 is legal
abbrev pub unstarted : FrameLife
unstarted = life_at no_machine 0 kind.Call
