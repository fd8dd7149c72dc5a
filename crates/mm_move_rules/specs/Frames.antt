-- The frame database: what is kept of each page frame, the four lists, and what each move does to
-- them. Profile, "Logs of moves".
use Rattle.std.specs.Prelude.{ℕ, ◌+◌, ◌-◌, Bool, true, false, not, ◌&&◌, ◌==◌, if◌then◌else◌, is_some, List, [], ◌∷◌, ◌++◌, filter, Option, Some, None, slice_set, slice_index_or}
use Rattle.std.specs.List.{list_any}
use Rattle.mm_types.specs.{Key, Record, Backing, Request}
use Rattle.mm_types.specs.declared.frames.Backing.TheVariants as backing
use Rattle.mm_types.specs.declared.frames.Request.TheVariants as request

-- a record for each frame, by its number, and the four lists, the frame that stands there longest
-- first
pub record FrameTable : Type 0 where
  pub records : List Record
  pub zeroed : List ℕ
  pub free : List ℕ
  pub standby : List ℕ
  pub modified : List ℕ

-- ---- looking

-- the record of a frame that was never used, or is free or zeroed
abbrev pub blank : Record
blank = record {
  owner = None;
  changed = false;
  backing = backing.None;
  shares = 0;
  request = request.None;
}

abbrev pub record_at : FrameTable → ℕ → Record
record_at d f = slice_index_or d.records f blank

abbrev pub is_first : ℕ → List ℕ → Bool
is_first f [] = false
is_first f (x ∷ xs) = x == f

abbrev pub is_empty : List ℕ → Bool
is_empty [] = true
is_empty (x ∷ xs) = false

abbrev pub is_on : ℕ → List ℕ → Bool
is_on f xs = list_any (λ x. x == f) xs

abbrev pub has_request : Request → Bool
has_request request.None = false
has_request request.Read = true
has_request request.Write = true
has_request request.WriteAgain = true

abbrev pub is_read : Request → Bool
is_read request.None = false
is_read request.Read = true
is_read request.Write = false
is_read request.WriteAgain = false

abbrev pub is_write : Request → Bool
is_write request.None = false
is_write request.Read = false
is_write request.Write = true
is_write request.WriteAgain = true

abbrev pub is_again : Request → Bool
is_again request.None = false
is_again request.Read = false
is_again request.Write = false
is_again request.WriteAgain = true

-- a slot as backing
abbrev pub slot_of : Backing → Option ℕ
slot_of backing.None = None
slot_of (backing.Slot s) = Some s.0
slot_of (backing.Block b) = None

-- a slot as backing is given up, a block stays
abbrev pub without_slot : Backing → Backing
without_slot backing.None = backing.None
without_slot (backing.Slot s) = backing.None
without_slot (backing.Block b) = backing.Block b

-- ---- one record

-- a frame for a demand-zero page
abbrev pub given : Key → Record
given k = record {
  owner = Some k;
  changed = true;
  backing = backing.None;
  shares = 0;
  request = request.None;
}

-- a frame that a page is read into
abbrev pub being_read : Key → Backing → Record
being_read k home = record {
  owner = Some k;
  changed = false;
  backing = home;
  shares = 0;
  request = request.Read;
}

abbrev pub shared : Record → Record
shared r = record r { shares = r.shares + 1 }

abbrev pub unshared : Record → Record
unshared r = record r { shares = r.shares - 1 }

-- a frame whose page no longer lives
abbrev pub disowned : Record → Record
disowned r = record r { owner = None }

-- a changed page; while it is being written, the write is to be made again
abbrev pub soiled : Record → Record
soiled r = if has_request r.request then record r {
  request = request.WriteAgain;
} else record r { changed = true; backing = without_slot r.backing }

abbrev pub being_written : Backing → Record → Record
being_written home r = record r { backing = home; request = request.Write }

abbrev pub read_done : Record → Record
read_done r = record r { request = request.None }

-- a page that was written is clean, unless it was changed since
abbrev pub write_done : Record → Record
write_done r =
    if is_again r.request then record r { request = request.None; backing = without_slot r.backing }
    else record r { request = request.None; changed = false }

abbrev pub write_lost : Record → Record
write_lost r = record r { request = request.None; backing = without_slot r.backing }

-- ---- the slot that a change of a record gives back

abbrev pub slot_after_soil : Record → Option ℕ
slot_after_soil r = if has_request r.request then None else slot_of r.backing

abbrev pub slot_after_drop : Record → Option ℕ
slot_after_drop r = if has_request r.request then None else slot_of r.backing

-- of a read that ended, well or not
abbrev pub slot_after_read : Record → Option ℕ
slot_after_read r = if is_some r.owner then None else slot_of r.backing

-- of a write that succeeded
abbrev pub slot_after_wrote : Record → Option ℕ
slot_after_wrote r = if is_some r.owner && not (is_again r.request) then None else slot_of r.backing

-- of a write that failed
abbrev pub slot_after_lost : Record → Option ℕ
slot_after_lost r = slot_of r.backing

-- ---- the lists

abbrev pub without : ℕ → List ℕ → List ℕ
without f xs = filter (λ x. not (x == f)) xs

-- what is left when the first is taken
abbrev pub rest : List ℕ → List ℕ
rest [] = []
rest (x ∷ xs) = xs

abbrev pub with_record : FrameTable → ℕ → Record → FrameTable
with_record d f r = record d { records = slice_set d.records f r }

-- the frame leaves its list, if it is on one: a frame with an owner is on no other list than these
abbrev pub off_lists : FrameTable → ℕ → FrameTable
off_lists d f = record d { standby = without f d.standby; modified = without f d.modified }

-- the frame goes to free: it has no owner, no backing and no request from then on
abbrev pub to_free : FrameTable → ℕ → FrameTable
to_free d f = record d { records = slice_set d.records f blank; free = d.free ++ f ∷ [] }

-- a frame without shares and without a request
abbrev pub is_idle : Record → Bool
is_idle r = (r.shares == 0) && not (has_request r.request)

abbrev pub settled_by : Record → FrameTable → ℕ → FrameTable
settled_by r d f =
    if is_idle r then (if r.changed then record d {
      modified = d.modified ++ f ∷ [];
    } else record d { standby = d.standby ++ f ∷ [] })
    else d

-- the frame settles: an idle frame goes to modified where it is changed, else to standby
abbrev pub settled : FrameTable → ℕ → FrameTable
settled d f = settled_by (record_at d f) d f

-- ---- the moves

abbrev pub after_clear : FrameTable → ℕ → FrameTable
after_clear d f = record d { free = rest d.free; zeroed = d.zeroed ++ f ∷ [] }

abbrev pub after_steal : FrameTable → ℕ → FrameTable
after_steal d f = to_free (record d { standby = rest d.standby }) f

-- a frame that is on no list is bound to a page, and goes to modified
abbrev pub bound : FrameTable → ℕ → Key → FrameTable
bound d f k = record d {
  records = slice_set d.records f (given k);
  modified = d.modified ++ f ∷ [];
}

abbrev pub after_give : FrameTable → ℕ → Key → FrameTable
after_give d f k = bound (record d { zeroed = rest d.zeroed }) f k

-- the first of free is taken, or where free is empty the first of zeroed
abbrev pub taken_for_read : FrameTable → FrameTable
taken_for_read d = if is_empty d.free then record d {
  zeroed = rest d.zeroed;
} else record d { free = rest d.free }

abbrev pub after_read : FrameTable → ℕ → Key → Backing → FrameTable
after_read d f k home = with_record (taken_for_read d) f (being_read k home)

abbrev pub got_by : Record → FrameTable → ℕ → FrameTable
got_by r d f = if is_some r.owner then settled (with_record d f (read_done r)) f else to_free d f

abbrev pub after_got : FrameTable → ℕ → FrameTable
after_got d f = got_by (record_at d f) d f

abbrev pub after_bad : FrameTable → ℕ → FrameTable
after_bad d f = to_free d f

abbrev pub after_map : FrameTable → ℕ → FrameTable
after_map d f = with_record (off_lists d f) f (shared (record_at d f))

abbrev pub after_unmap : FrameTable → ℕ → FrameTable
after_unmap d f = settled (with_record d f (unshared (record_at d f))) f

abbrev pub after_soil : FrameTable → ℕ → FrameTable
after_soil d f = with_record d f (soiled (record_at d f))

abbrev pub after_write : FrameTable → ℕ → Backing → FrameTable
after_write d f home = with_record (off_lists d f) f (being_written home (record_at d f))

abbrev pub wrote_by : Record → FrameTable → ℕ → FrameTable
wrote_by r d f = if is_some r.owner then settled (with_record d f (write_done r)) f else to_free d f

abbrev pub after_wrote : FrameTable → ℕ → FrameTable
after_wrote d f = wrote_by (record_at d f) d f

abbrev pub lost_by : Record → FrameTable → ℕ → FrameTable
lost_by r d f = if is_some r.owner then settled (with_record d f (write_lost r)) f else to_free d f

abbrev pub after_lost : FrameTable → ℕ → FrameTable
after_lost d f = lost_by (record_at d f) d f

abbrev pub dropped_by : Record → FrameTable → ℕ → FrameTable
dropped_by r d f = if has_request r.request then with_record d f (disowned r) else
    to_free (off_lists d f) f

-- the page of the frame is no more
abbrev pub after_drop : FrameTable → ℕ → FrameTable
after_drop d f = dropped_by (record_at d f) d f
