-- What contracts see of the frame database.
-- Profile, "Logs of moves".
use Rattle.std.specs.Prelude.{◌≡◌, ℕ, Bool, true, false, not, ◌&&◌, ◌||◌, ◌==◌, if◌then◌else◌, is_some, filter, List, [], ◌∷◌, ◌++◌, Option, Some, None, slice_get, slice_set, slice_index_or}
use Rattle.mm_types.specs.{Record, Key, Backing}
use Rattle.mm_types.specs.declared.frames.Backing.TheVariants as backing
use Rattle.mm_move_rules.specs.{FrameTable, blank, record_at, is_idle, has_request, is_write, is_again, rest, with_record, bound, being_read, off_lists}
use Rattle.mm_move_rules.specs.{to_free, settled, after_got, after_bad, after_wrote, after_lost, after_drop, slot_after_wrote, slot_after_lost, write_done}
use Rattle.mm_move_rules.specs.{write_lost, is_block}
use Rattle.mm_ram.specs.{with_page, zero_page}
use Rattle.mm_pfn_database.specs.declared.standing.Standing.{Standing}
use Rattle.mm_pfn_database.specs.declared.standing.Standing.TheVariants.{Zeroed, Free, Bound, Cleared, Taken}

-- the records and lists; for each frame its bytes, where it was written; where each frame stands
pub record FramesOf : Type 0 where
  pub table : FrameTable
  pub bytes : List (Option (List ℕ))
  pub standing : List Standing

abbrev pub standing_at : List Standing → ℕ → Standing
standing_at standing f = slice_index_or standing f Bound

-- the token with this frame was taken from these frames, and is in hand
abbrev pub IsBlank : FramesOf → ℕ → Type 0
IsBlank v f = slice_get v.standing f ≡ Some Cleared

abbrev pub IsDirty : FramesOf → ℕ → Type 0
IsDirty v f = slice_get v.standing f ≡ Some Taken

abbrev pub stands : List Standing → Option ℕ → Standing → List Standing
stands standing None s = standing
stands standing (Some f) s = slice_set standing f s

-- the first of a list is taken into a token
abbrev pub zeroed_taken : FramesOf → FramesOf
zeroed_taken v = record v {
  table = record v.table { zeroed = rest v.table.zeroed };
  standing = stands v.standing (slice_get v.table.zeroed 0) Cleared;
}

abbrev pub free_taken : FramesOf → FramesOf
free_taken v = record v {
  table = record v.table { free = rest v.table.free };
  standing = stands v.standing (slice_get v.table.free 0) Taken;
}

-- a token is spent: its frame goes to the end of a list
abbrev pub zeroed_put : FramesOf → ℕ → FramesOf
zeroed_put v f = record v {
  table = record v.table { zeroed = v.table.zeroed ++ f ∷ [] };
  standing = slice_set v.standing f Zeroed;
}

abbrev pub free_put : FramesOf → ℕ → FramesOf
free_put v f = record v {
  table = record v.table { free = v.table.free ++ f ∷ [] };
  standing = slice_set v.standing f Free;
}

-- a frame in hand is all zero
abbrev pub now_cleared : FramesOf → ℕ → FramesOf
now_cleared v f = record v {
  bytes = with_page v.bytes f zero_page;
  standing = slice_set v.standing f Cleared;
}

-- a token is spent: its frame is bound to a page
abbrev pub given_to : FramesOf → ℕ → Key → FramesOf
given_to v f k = record v { table = bound v.table f k; standing = slice_set v.standing f Bound }

abbrev pub reading_into : FramesOf → ℕ → Key → Backing → FramesOf
reading_into v f k home = record v {
  table = with_record v.table f (being_read k home);
  standing = slice_set v.standing f Bound;
}

-- the first of standby is taken into a token: it holds no page from then on, as after a `steal`
abbrev pub emptied : List Record → Option ℕ → List Record
emptied records None = records
emptied records (Some f) = slice_set records f blank

abbrev pub standby_taken : FramesOf → FramesOf
standby_taken v =
    record v {
      table = record v.table {
        records = emptied v.table.records (slice_get v.table.standby 0);
        standby = rest v.table.standby;
      };
      standing = stands v.standing (slice_get v.table.standby 0) Taken;
    }

-- ---- when a page can be changed, and where it can be written to

-- it is not changed and no request holds it, or it is being written and was not changed since
abbrev pub can_be_soiled : Record → Bool
can_be_soiled r = (not r.changed && not (has_request r.request)) ||
    (is_write r.request && not (is_again r.request))

abbrev pub has_block : Backing → Bool
has_block backing.None = false
has_block (backing.Slot s) = false
has_block (backing.Block b) = true

-- a modified page that is written to a block of its own
abbrev pub is_modified_with_block : Record → Bool
is_modified_with_block r = is_idle r && (r.changed && has_block r.backing)

-- the modified frames whose page has a block, in the order of the modified list
abbrev pub modified_with_block : FrameTable → List ℕ
modified_with_block d = filter (λ f. has_block (record_at d f).backing) d.modified

-- a page without a block is written to a slot, while no valid entry names its frame; a page with a
-- block to that block
abbrev pub can_go_to : Backing → Record → Bool
can_go_to backing.None r = false
can_go_to (backing.Slot s) r = (r.shares == 0) && not (has_block r.backing)
can_go_to (backing.Block b) r = is_block b.0 r.backing

-- ---- the end of a request, the end of a page

-- a frame with an owner stays bound, one without goes to free
abbrev pub stands_with : Option Key → List Standing → ℕ → List Standing
stands_with (Some k) standing f = standing
stands_with None standing f = slice_set standing f Free

-- a read ends well, or it fails
abbrev pub read_ended : FramesOf → ℕ → Bool → FramesOf
read_ended v f true = record v {
  table = after_got v.table f;
  standing = stands_with (record_at v.table f).owner v.standing f;
}
read_ended v f false = record v {
  table = after_bad v.table f;
  standing = slice_set v.standing f Free;
}

-- a write ends well, or it fails
abbrev pub write_ended : FramesOf → ℕ → Bool → FramesOf
write_ended v f true = record v {
  table = after_wrote v.table f;
  standing = stands_with (record_at v.table f).owner v.standing f;
}
write_ended v f false = record v {
  table = after_lost v.table f;
  standing = stands_with (record_at v.table f).owner v.standing f;
}

abbrev pub record_written : Bool → Record → Record
record_written true r = write_done r
record_written false r = write_lost r

abbrev pub slot_after_write : Bool → Record → Option ℕ
slot_after_write true r = slot_after_wrote r
slot_after_write false r = slot_after_lost r

-- the page of a frame is no more: without a request the frame goes to free
abbrev pub forgotten : FramesOf → ℕ → FramesOf
forgotten v f =
    record v {
      table = after_drop v.table f;
      standing = if has_request (record_at v.table f).request then v.standing else
          slice_set v.standing f Free;
    }

-- ---- steps of these

-- a bound frame leaves its list, if it is on one, and goes to free
abbrev pub gone_free : FramesOf → ℕ → FramesOf
gone_free v f = record v {
  table = to_free (off_lists v.table f) f;
  standing = slice_set v.standing f Free;
}

-- a request ends and leaves this record
abbrev pub ended_with : Record → FrameTable → ℕ → FrameTable
ended_with r d f = if is_some r.owner then settled (with_record d f r) f else to_free d f
