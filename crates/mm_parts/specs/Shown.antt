-- The state of the replay that the parts show.
use Rattle.std.specs.Prelude.{ℕ, Bool, true, false, not, ◌==◌, ◌||◌, ◌++◌, if◌then◌else◌, List, [], ◌∷◌, Option, Some, None, slice_index_or, unwrap_or, option_map}
use Rattle.mm_types.specs.{MachineOf, Frame, Key, Place, Held, LineKind}
use Rattle.mm_types.specs.declared.numbers.Key.TheVariants.{Private, Shared}
use Rattle.mm_types.specs.declared.frames.Held.TheVariants as held
use Rattle.mm_move_rules.specs.{FrameTable, record_at, FrameLife, same_key, key_of_place, is_access, is_call}
use Rattle.mm_requests.specs.{FlightOf, Waiting}
use Rattle.mm_pfn_database.specs.{has_block}
use Rattle.mm_page_tables.specs.{Entry, WordsOf, key_entry, valid_frame}
use Rattle.mm_page_tables.specs.declared.layout.Entry.TheVariants as entry

-- the owner of each frame
abbrev pub Owners : Type 0
Owners = ℕ → Option Key

abbrev pub owners : FrameTable → Owners
owners d f = (record_at d f).owner

abbrev pub has_owner : Option Key → Key → Bool
has_owner None k = false
has_owner (Some j) k = same_key j k

-- Where an entry says that its key stands. A valid entry of a place is that of the private key
-- where the frame is its own.
abbrev pub held_by : (Frame → Bool) → Entry → Held
held_by own entry.Empty = held.Dead
held_by own entry.Zero = held.Zero
held_by own (entry.Paged s) = held.Slot s
held_by own (entry.InFile b) = held.Block b
held_by own (entry.Transition f) = held.Frame f
held_by own (entry.Valid f n) = if own f then held.Frame f else held.Dead
held_by own (entry.Proto a i) = held.Dead

abbrev pub owned_by : Owners → Key → Frame → Bool
owned_by o (Private p v) f = has_owner (o f.0) (Private p v)
owned_by o (Shared a i) f = true

abbrev pub stands_of : Owners → WordsOf → Key → Held
stands_of o w k = held_by (owned_by o k) (key_entry w k)

abbrev pub valid_of : WordsOf → Place → Option Frame
valid_of w place = valid_frame (w.at place)

-- a live key is a page-file key where its bytes are on no block
abbrev pub is_of_paging_file : FrameTable → Held → Bool
is_of_paging_file d (held.Frame f) = not (has_block (record_at d f.0).backing)
is_of_paging_file d (held.Slot s) = true
is_of_paging_file d (held.Block b) = false
is_of_paging_file d held.Zero = true
is_of_paging_file d held.Dead = false

abbrev pub paging_of : FrameTable → (Key → Held) → Key → Bool
paging_of d stands k = is_of_paging_file d (stands k)

-- a request that begins is the line's own in a plain access and in a call; else it stands in flight
abbrev pub is_own_line : LineKind → Bool
is_own_line k = is_access k || is_call k

-- the requests that are in flight, and after them the line's own
abbrev pub own_request : Option Frame → List ℕ
own_request None = []
own_request (Some f) = f.0 ∷ []

abbrev pub own_is : Option Frame → ℕ → Bool
own_is None f = false
own_is (Some g) f = g.0 == f

abbrev pub requests : List ℕ → Option Frame → List ℕ
requests flight own = flight ++ own_request own

-- the line, and what is counted and marked
pub record LineOf : Type 0 where
  pub machine : MachineOf
  pub line : ℕ
  pub kind : LineKind
  -- how many page-file keys are live
  pub paging_keys : ℕ
  -- the blocks that a key was ever added with
  pub added : List Bool

abbrev pub life_of : LineOf → FrameTable → List Bool → WordsOf → List ℕ → FrameLife
life_of n d free w flight = record {
  machine = n.machine;
  line = n.line;
  kind = n.kind;
  sets = w.sets;
  frames = d;
  free_slots = free;
  stands = stands_of (owners d) w;
  paging = paging_of d (stands_of (owners d) w);
  paging_keys = n.paging_keys;
  added = λ b. slice_index_or n.added b false;
  valid = valid_of w;
  flight = flight;
}

-- ---- the parts as plain lists and maps

pub record JoinedParts : Type 0 where
  pub line : LineOf
  pub table : FrameTable
  pub bytes : List (Option (List ℕ))
  pub free : List Bool
  pub words : WordsOf
  -- the age of each valid place
  pub ages : Place → Option ℕ
  pub flight : FlightOf
  -- the line's own request
  pub own : Option Frame

abbrev pub requests_in : JoinedParts → List ℕ
requests_in t = requests t.flight.frames t.own

abbrev pub life_in : JoinedParts → FrameLife
life_in t = life_of t.line t.table t.free t.words (requests_in t)

-- ---- the key that a place names

-- the key that the entry of a place says was last used there: none before the page first had a
-- frame
abbrev pub named_by : Owners → Place → Entry → Option Key
named_by o place entry.Empty = None
named_by o place entry.Zero = None
named_by o place (entry.Paged s) = Some (key_of_place place)
named_by o place (entry.InFile b) = None
named_by o place (entry.Transition f) = Some (key_of_place place)
named_by o place (entry.Valid f n) = o f.0
named_by o place (entry.Proto a i) = Some (Shared a i)

abbrev pub names_of : Owners → WordsOf → Place → Option Key
names_of o w place = named_by o place (w.at place)

-- ---- what is shown

pub record PartsOf : Type 0 where
  -- the state of the replay
  pub life : FrameLife
  -- for each frame its bytes, where it was written
  pub bytes : List (Option (List ℕ))
  -- the age of each valid place, 0 of any other
  pub ages : Place → ℕ
  -- what each thread waits for
  pub waits : List Waiting
  -- the line's own request, the youngest of `life.flight`
  pub own : Option Frame
  -- the place of the one private key whose entry stands beside the tables
  pub aside : Option Place
  -- the open processes, the bound places, and how many pages each open area has
  pub is_open : ℕ → Bool
  pub bound : Place → Bool
  pub areas : ℕ → Option ℕ
  -- the key last used at each place
  pub names : Place → Option Key

abbrev pub shown_of : JoinedParts → PartsOf
shown_of t = record {
  life = life_in t;
  bytes = t.bytes;
  ages = λ p. unwrap_or (t.ages p) 0;
  waits = t.flight.waits;
  own = t.own;
  aside = option_map (λ x. x.place) t.words.aside;
  is_open = t.words.is_open;
  bound = t.words.bound;
  areas = t.words.sizes;
  names = names_of (owners t.table) t.words;
}
