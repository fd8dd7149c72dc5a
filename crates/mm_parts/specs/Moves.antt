-- What the moves are made of, and what they change beside the state of the replay.
use Rattle.std.specs.Prelude.{◌≡◌, ◌⊎◌, ◌≤◌, ◌<◌, ◌+◌, ℕ, Bool, true, false, ◌==◌, ◌&&◌, if◌then◌else◌, List, [], ◌∷◌, ◌++◌, length, map, Option, Some, None, is_some, slice_set}
use Rattle.mm_types.specs.{Frame, Key, Pid, Vpn, Place, Backing, LineKind, Move, Stored}
use Rattle.mm_types.specs.declared.numbers.Key.TheVariants.{Private, Shared}
use Rattle.mm_types.specs.declared.frames.Backing.TheVariants as backing
use Rattle.mm_types.specs.declared.moves.LineKind.TheVariants as kind
use Rattle.mm_types.specs.declared.moves.Move.TheVariants as move
use Rattle.mm_types.specs.declared.moves.Stored.TheVariants as stored
use Rattle.mm_move_rules.specs.{FrameTable, record_at, after_drop, slot_after_drop, is_touch, owner_is, FrameLife, changed, same_place, key_of_place}
use Rattle.mm_move_rules.specs.{is_shared, is_dead, after_move, aged}
use Rattle.mm_page_tables.specs.{Entry, IsEntry, WordsOf, with_entry, has_word, keeps_places, made_invalid}
use Rattle.mm_page_tables.specs.declared.layout.Entry.TheVariants as entry
use Rattle.mm_requests.specs.{FlightOf, without, ended}
use Rattle.mm_parts.specs.Shown.{PartsOf, is_own_line}

-- ---- the frame or slot that a move takes

-- the first of a list of frames
abbrev pub front : List ℕ → Frame
front [] = record { 0 = 0 }
front (x ∷ xs) = record { 0 = x }

-- the frame that a page is read into: the first free one, or where none is free the first zeroed
-- one
abbrev pub front_or : List ℕ → List ℕ → Frame
front_or [] zeroed = front zeroed
front_or (x ∷ xs) zeroed = record { 0 = x }

abbrev pub front_for_read : FrameLife → Frame
front_for_read l = front_or l.frames.free l.frames.zeroed

-- the lowest free slot
abbrev pub lowest_free_slot : List Bool → ℕ
lowest_free_slot [] = 0
lowest_free_slot (free ∷ rest) = if free then 0 else lowest_free_slot rest + 1

-- a page is written to the block that backs its frame, else to the lowest free slot
abbrev pub goes_to : Backing → ℕ → Stored
goes_to backing.None s = stored.Slot (record { 0 = s })
goes_to (backing.Slot b) s = stored.Slot (record { 0 = s })
goes_to (backing.Block b) s = stored.Block b

abbrev pub write_target : FrameLife → Frame → Stored
write_target l f = goes_to (record_at l.frames f.0).backing (lowest_free_slot l.free_slots)

-- the move with which a read, or a write, ends
abbrev pub end_of_read : Bool → Frame → Move
end_of_read true f = move.Got f
end_of_read false f = move.Bad f

abbrev pub write_end : Bool → Frame → Move
write_end true f = move.Wrote f
write_end false f = move.Lost f

-- ---- beside the state of the replay

-- one move was made, and nothing else changed
abbrev pub parts_after : PartsOf → Move → PartsOf
parts_after s x = record s { life = after_move s.life x }

-- a request is the line's own in a plain access and in a call
abbrev pub own_after : LineKind → Option Frame → Frame → Option Frame
own_after k own f = if is_own_line k then Some f else own

-- there is room for the line's own request, where a request would be one
abbrev pub CanBegin : LineKind → Option Frame → Type 0
CanBegin kind_of_line own = is_own_line kind_of_line ≡ true → own ≡ None

abbrev pub own_ended : Option Frame → ℕ → Option Frame
own_ended None f = None
own_ended (Some g) f = if g.0 == f then None else Some g

-- the key beside the tables: it comes to stand there where its place names a page
abbrev pub aside_added : Option Key → Option Place → Place → Option Place
aside_added None aside place = aside
aside_added (Some k) aside place = Some place

abbrev pub aside_after_add : (Place → Option Key) → Option Place → Key → Option Place
aside_after_add names aside (Private p v) = aside_added (names (record {
  pid = p;
  vpn = v;
})) aside (record { pid = p; vpn = v })
aside_after_add names aside (Shared a i) = aside

-- it stands there no more once its place is valid for it
abbrev pub left_by : Option Place → Place → Option Place
left_by None place = None
left_by (Some q) place = if same_place place q then None else Some q

-- the key last used at each place: a private page is used at its own place once it has a frame,
-- unless it stands beside the tables
abbrev pub names_given : Option Place → (Place → Option Key) → Place → Place → Option Key
names_given None names place = changed same_place names place (Some (key_of_place place))
names_given (Some q) names place = if same_place place q then names else
    changed same_place names place (Some (key_of_place place))

abbrev pub names_after_give : Option Place → (Place → Option Key) → Key → Place → Option Key
names_after_give aside names (Private p v) = names_given aside names (record { pid = p; vpn = v })
names_after_give aside names (Shared a i) = names

abbrev pub names_after_map : FrameTable → (Place → Option Key) → Frame → Place → Place → Option Key
names_after_map d names f place = changed same_place names place (record_at d f.0).owner

abbrev pub names_after_drop : (Place → Option Key) → Key → Place → Option Key
names_after_drop names (Private p v) = changed same_place names (record { pid = p; vpn = v }) None
names_after_drop names (Shared a i) = names

-- ---- the requests in flight

-- one begins; it is in flight unless it is the line's own
abbrev pub flight_begun : Bool → FlightOf → Frame → FlightOf
flight_begun own q f = if own then q else record q { frames = q.frames ++ f.0 ∷ [] }

-- one ends, well or not, and with it the waits for it; nobody waits for the line's own
abbrev pub flight_ended : Bool → FlightOf → ℕ → Bool → FlightOf
flight_ended own q f ok = if own then q else record q {
  frames = without f q.frames;
  waits = map (ended f ok) q.waits;
}

-- ---- keys

-- the key has a word: its place is bound, or its index is one of an open area
abbrev pub HasEntry : (Place → Bool) → (ℕ → Option ℕ) → Key → Type 0
HasEntry bound areas (Private p v) = bound (record { pid = p; vpn = v }) ≡ true
HasEntry bound areas (Shared a i) = (n : ℕ) × ((areas a.0 ≡ Some n) × (i < n))

-- a private key comes to be at a place that names none, or in an access beside the tables, where
-- nothing stands there
abbrev pub IsClear : LineKind → (Place → Option Key) → Option Place → Key → Type 0
IsClear kind_of_line names aside (Private p v) = (names (record {
  pid = p;
  vpn = v;
}) ≡ None) ⊎ ((is_touch kind_of_line ≡ true) × (aside ≡ None))
IsClear kind_of_line names aside (Shared a i) = Unit {0}

-- the page of an entry is no more: its frame goes, or its slot
abbrev pub table_released : Entry → FrameTable → FrameTable
table_released entry.Empty d = d
table_released entry.Zero d = d
table_released (entry.Paged s) d = d
table_released (entry.InFile b) d = d
table_released (entry.Transition f) d = after_drop d f.0
table_released (entry.Valid f n) d = d
table_released (entry.Proto a i) d = d

abbrev pub slot_released : Entry → FrameTable → Option ℕ
slot_released entry.Empty d = None
slot_released entry.Zero d = None
slot_released (entry.Paged s) d = Some s.0
slot_released (entry.InFile b) d = None
slot_released (entry.Transition f) d = slot_after_drop (record_at d f.0)
slot_released (entry.Valid f n) d = None
slot_released (entry.Proto a i) d = None

-- ---- entries and backings

-- the entry of a page that is in no frame, by where its bytes stand
abbrev pub home_entry : Backing → Entry
home_entry backing.None = entry.Zero
home_entry (backing.Slot s) = entry.Paged s
home_entry (backing.Block b) = entry.InFile b

-- where the bytes of a page stand that is in no frame
abbrev pub entry_backing : Entry → Backing
entry_backing entry.Empty = backing.None
entry_backing entry.Zero = backing.None
entry_backing (entry.Paged s) = backing.Slot s
entry_backing (entry.InFile b) = backing.Block b
entry_backing (entry.Transition f) = backing.None
entry_backing (entry.Valid f n) = backing.None
entry_backing (entry.Proto a i) = backing.None

abbrev pub slots_to : Stored → List Bool → List Bool
slots_to (stored.Slot s) free = slice_set free s.0 false
slots_to (stored.Block b) free = free

-- the words once a read has failed: the page, if it lives, is where it was read from
abbrev pub words_sent : Option Key → Backing → WordsOf → WordsOf
words_sent None home w = w
words_sent (Some k) home w = with_entry w k (home_entry home)

-- the frame of an entry, if any, has an owner and no shares
abbrev pub IsReleased : Entry → FrameTable → Type 0
IsReleased entry.Empty d = Unit {0}
IsReleased entry.Zero d = Unit {0}
IsReleased (entry.Paged s) d = Unit {0}
IsReleased (entry.InFile b) d = Unit {0}
IsReleased (entry.Transition f) d = (is_some (record_at d f.0).owner ≡ true) ×
    ((record_at d f.0).shares ≡ 0)
IsReleased (entry.Valid f n) d = Unit {0}
IsReleased (entry.Proto a i) d = Unit {0}

-- a shared page becomes valid where the place's own private key is dead
abbrev pub MayMap : FrameLife → Frame → Place → Type 0
MayMap l f place = owner_is is_shared (record_at l.frames f.0) ≡ true →
    is_dead (l.stands (key_of_place place)) ≡ true

-- ---- lines

-- the kinds that `at` makes: a process's working set has room for 1 to 65,536 pages; `grow` has a
-- call of its own
abbrev pub IsPlainLine : LineKind → Type 0
IsPlainLine (kind.Process pid min max) = (1 ≤ max) × (max ≤ 65536)
IsPlainLine (kind.Grow n) = ⊥
IsPlainLine _ = Unit {0}

-- the place of a private key that comes to be in an access: it stands beside the tables
abbrev pub copy_place : Key → LineKind → Option Place
copy_place (Private p v) k = if is_touch k then Some (record { pid = p; vpn = v }) else None
copy_place (Shared a i) k = None

-- the word of a page, if it lives, can be this entry
abbrev pub CanHave : WordsOf → Key → Entry → Type 0
CanHave w k e = (has_word w k ≡ true) × IsEntry e × (keeps_places w k e ≡ true)

abbrev pub CanSend : WordsOf → Option Key → Backing → Type 0
CanSend w None home = Unit {0}
CanSend w (Some k) home = CanHave w k (home_entry home)

-- the prototype word of a shared page is valid for its frame
abbrev pub CanName : WordsOf → Option Key → Frame → Type 0
CanName w None f = Unit {0}
CanName w (Some (Private p v)) f = Unit {0}
CanName w (Some (Shared a i)) f = CanHave w (Shared a i) (entry.Valid f 0)

abbrev pub words_named : Option Key → Frame → WordsOf → WordsOf
words_named None f w = w
words_named (Some (Private p v)) f w = w
words_named (Some (Shared a i)) f w = with_entry w (Shared a i) (entry.Valid f 0)

-- a place is valid no more: it names the shared page, whose prototype word is in transition after
-- the last, or is in transition itself
abbrev pub CanLeave : WordsOf → Key → Frame → Type 0
CanLeave w (Private p v) f = IsEntry (entry.Transition f)
CanLeave w (Shared a i) f = (has_word w (Shared a i) ≡ true) × IsEntry (entry.Transition f) ×
    (a.0 < 268435456)

abbrev pub words_left : Key → Frame → Bool → Place → WordsOf → WordsOf
words_left (Private p v) f last place w = made_invalid w place (entry.Transition f)
words_left (Shared a i) f last place w =
    if last then with_entry (made_invalid w place (entry.Proto a i)) (Shared a i)
    (entry.Transition f) else made_invalid w place (entry.Proto a i)

-- the words once a line has begun: a process has a working set
abbrev pub words_begun : LineKind → WordsOf → WordsOf
words_begun (kind.Process pid min max) w = record w {
  sets = w.sets ++ record { min = min; max = max; resident = 0 } ∷ [];
}
words_begun _ w = w

-- there is room for the working set of another process
abbrev pub CanBeginSet : LineKind → WordsOf → Type 0
CanBeginSet (kind.Process pid min max) w = length w.sets < 64
CanBeginSet _ w = Unit {0}

-- ---- ages

-- each valid place of a process is one older, up to 7
abbrev pub ages_older : FrameLife → (Place → ℕ) → ℕ → Place → ℕ
ages_older l ages pid p = if (p.pid.0 == pid) && is_some (l.valid p) then aged (ages p) else ages p

-- the place of a page of a process
abbrev pub after_page : Pid → Option Vpn → Option Place
after_page pid None = None
after_page pid (Some v) = Some (record { pid = pid; vpn = v })
