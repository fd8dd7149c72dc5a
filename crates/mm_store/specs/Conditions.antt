-- When a call of a store may be made: which lines make it, and what its keys and places must be.
use Rattle.std.specs.Prelude.{◌≡◌, ◌≤◌, ◌<◌, ℕ, ◌+◌, Bool, true, false, ◌⊎◌, length, [], Option, None, Some, IsSome, not, ◌&&◌, nat_le, if◌then◌else◌}
use Rattle.mm_types.specs.{Key, Pid, Place, LineKind, Range, holds_page, MachineOf, Wait, Why}
use Rattle.mm_types.specs.declared.numbers.Key.TheVariants as key
use Rattle.mm_types.specs.declared.moves.LineKind.TheVariants as kind
use Rattle.mm_world.specs.{Page, Need, is_short, is_being_read, is_in_store}
use Rattle.mm_store.specs.Store.{StoreOf, own_key, kind_of_machine}
use Rattle.mm_store.specs.Leaving.{Leaving, page_rank}
use Rattle.mm_store.specs.Reports.{IsBegun}
use Rattle.mm_types.specs.declared.answers.Wait.TheVariants as wait
use Rattle.mm_types.specs.declared.answers.Why.TheVariants as why
use Rattle.mm_world.specs.Report.{Report}
use Rattle.mm_store.specs.declared.outcomes.Start.{Start}
use Rattle.mm_store.specs.declared.outcomes.Start.TheVariants as start
use Rattle.mm_store.specs.declared.outcomes.Need.{Need as Wanted}
use Rattle.mm_store.specs.declared.outcomes.Need.TheVariants as wanted

abbrev pub place_at : Pid → ℕ → Place
place_at pid page = record { pid = pid; vpn = record { 0 = page } }

-- ---- lines

-- numbers that a `process` line can have
pub record IsProcess (s : StoreOf) (pid : Pid) (min max : ℕ) : Type 0 where
  pub next : pid.0 ≡ s.last_pid + 1
  pub few : pid.0 ≤ 64
  pub ordered : min ≤ max
  pub some : 1 ≤ max
  pub most : max ≤ 65536

abbrev pub IsLineKind : StoreOf → LineKind → Type 0
IsLineKind s (kind.Machine frames slots depth blocks) = ⊥
IsLineKind s (kind.Process pid min max) = IsProcess s pid min max
IsLineKind s (kind.Unbind pid) = Unit {0}
IsLineKind s (kind.Access pid) = Unit {0}
IsLineKind s (kind.Thread pid) = Unit {0}
IsLineKind s (kind.Trim pid) = Unit {0}
IsLineKind s kind.Writer = Unit {0}
IsLineKind s kind.Zeroer = Unit {0}
IsLineKind s kind.Io = Unit {0}
IsLineKind s kind.Call = Unit {0}
IsLineKind s (kind.Grow n) = ⊥

abbrev pub pid_after : ℕ → LineKind → ℕ
pid_after last (kind.Machine frames slots depth blocks) = last
pid_after last (kind.Process pid min max) = pid.0
pid_after last (kind.Unbind pid) = last
pid_after last (kind.Access pid) = last
pid_after last (kind.Thread pid) = last
pid_after last (kind.Trim pid) = last
pid_after last kind.Writer = last
pid_after last kind.Zeroer = last
pid_after last kind.Io = last
pid_after last kind.Call = last
pid_after last (kind.Grow n) = last

-- a line that takes pages away, or a call of any other form
abbrev pub IsReleasing : LineKind → Type 0
IsReleasing k = (k ≡ kind.Call) ⊎ ((pid : Pid) × (k ≡ kind.Unbind pid))

-- ---- places and keys

-- all these pages of the process are bound, or none is
abbrev pub AllBound : StoreOf → Pid → Range → Bool → Type 0
AllBound s pid range b = (page : ℕ) → holds_page range page ≡ true → s.bound (place_at pid page) ≡ b

abbrev pub NoneNamed : StoreOf → Pid → Range → Type 0
NoneNamed s pid range = (page : ℕ) → holds_page range page ≡ true →
    s.names (place_at pid page) ≡ None

-- a place that names a key is given up in a line that unbinds pages of that process
abbrev pub MayUnbind : StoreOf → Pid → Range → Type 0
MayUnbind s pid range = (s.kind ≡ kind.Unbind pid) ⊎ (IsReleasing s.kind × NoneNamed s pid range)

-- a private key of a bound place that names none, or an index of an open area
abbrev pub HasHome : StoreOf → Key → Type 0
HasHome s (key.Private pid vpn) = (s.bound (record {
  pid = pid;
  vpn = vpn;
}) ≡ true) × (s.names (record { pid = pid; vpn = vpn }) ≡ None)
HasHome s (key.Shared area index) = (pages : ℕ) × ((s.areas area.0 ≡ Some pages) × (index < pages))

-- a private key that its place names goes in a line that unbinds pages of its process; a shared one
-- is named by no place
abbrev pub MayRemove : StoreOf → Key → Type 0
MayRemove s (key.Private pid vpn) =
    (s.kind ≡ kind.Unbind pid) ⊎ (IsReleasing s.kind × (s.names (record {
      pid = pid;
      vpn = vpn;
    }) ≡ None))
MayRemove s (key.Shared area index) = IsReleasing s.kind ×
    ((place : Place) → s.names place ≡ Some (key.Shared area index) → ⊥)

-- a private key is used at its own place alone, a shared one where the place has no key of its own
abbrev pub IsHomeAt : (Key → Option Page) → Place → Key → Type 0
IsHomeAt contents place (key.Private pid vpn) = key.Private pid vpn ≡ own_key place
IsHomeAt contents place (key.Shared area index) = contents (own_key place) ≡ None

-- a key can be used at a place that is bound and names none or this key
pub record IsAt (contents : Key → Option Page) (s : StoreOf) (place : Place) (k : Key) :
    Type 0 where
  pub live : IsSome (contents k)
  pub home : IsHomeAt contents place k
  pub bound : s.bound place ≡ true
  pub named : (s.names place ≡ None) ⊎ (s.names place ≡ Some k)

abbrev pub touch : Key → Need
touch k = record { key = k; copy = None }

-- a copy of a page, which becomes a place's own
abbrev pub copying : Key → Place → Need
copying from place = record { key = from; copy = Some (own_key place) }

-- the place and the need are ready
abbrev pub IsReady : StoreOf → Place → Need → Type 0
IsReady s place need = s.ready ≡ Some (record { place = place; need = need })

-- the line is a plain access of the process, or a thread's whose access is ready
abbrev pub MayAccess : StoreOf → Place → Need → Type 0
MayAccess s place need =
    (s.kind ≡ kind.Access place.pid) ⊎ ((s.kind ≡ kind.Thread place.pid) × IsReady s place need)

-- ---- devices

-- more calls can be named on each device
pub record MayName (s : StoreOf) : Type 0 where
  pub paging : length s.paging_device.named < 64
  pub file : length s.file_device.named < 64

-- ---- a new store of a machine

pub record IsNew (m : MachineOf) (contents : Key → Option Page) (s : StoreOf) : Type 0 where
  pub empty : (k : Key) → contents k ≡ None
  pub machine : s.machine ≡ m
  pub closed : (pid : ℕ) → s.is_open pid ≡ false
  pub no_area : (area : ℕ) → s.areas area ≡ None
  pub unbound : (place : Place) → s.bound place ≡ false
  pub no_name : (place : Place) → s.names place ≡ None
  pub not_paging : (k : Key) → s.paging k ≡ false
  pub no_keys : s.paging_keys ≡ 0
  pub no_block : (k : Key) → s.block_of k ≡ None
  pub unused : s.blocks_used ≡ 0
  pub stored : length s.file_blocks ≡ m.blocks
  pub line : s.line ≡ 1
  pub kind : s.kind ≡ kind_of_machine m
  pub no_pid : s.last_pid ≡ 0
  pub not_ready : s.ready ≡ None
  pub begun : IsBegun s.report
  pub none_named_paging : s.paging_device.named ≡ []
  pub none_named_file : s.file_device.named ≡ []

-- ---- an access of a thread

-- what the access needs
abbrev pub need_for : Wanted → Key → Place → Need
need_for wanted.Touch k place = touch k
need_for wanted.Copy k place = copying k place

-- why it waits whatever frames there are: a read of the page that is in flight, or must be begun,
-- or cannot be
abbrev pub waits_at_once : ℕ → Key → Report → Option Why
waits_at_once depth k before =
    if is_being_read (before.whereabouts k) then Some why.Read
    else if is_in_store (before.whereabouts k) && nat_le depth before.counts.requests then
    Some why.Full
    else if is_in_store (before.whereabouts k) && not (is_short before) then Some why.Read
    else None

-- the thread's wait after it
abbrev pub wait_after : Start → Wait
wait_after (start.Pending why.Read) = wait.InFlight
wait_after _ = wait.None

-- ---- places that pages are taken from

-- these pages of the process are among the places, from one rank to before another
pub record AreAmong (held : Leaving) (from to : ℕ) (pid : Pid) (range : Range) : Type 0 where
  pub each : (page : ℕ) → holds_page range page ≡ true → held.places (place_at pid page) ≡ true
  pub first : from ≤ page_rank range.first
  pub last : page_rank (range.first + range.count) ≤ to

-- so is the page that a key is its own; so is the area of a shared key, of which none below lives
abbrev pub IsAmong : (Key → Option Page) → Leaving → ℕ → ℕ → Key → Type 0
IsAmong contents held from to (key.Private pid vpn) =
    (held.places (record { pid = pid; vpn = vpn }) ≡ true)
    × (from ≤ page_rank vpn.0) × (page_rank vpn.0 < to)
IsAmong contents held from to (key.Shared area index) =
    (from ≤ held.rank area.0) × (held.rank area.0 < to)
    × ((i : ℕ) → i < index → contents (key.Shared area i) ≡ None)
