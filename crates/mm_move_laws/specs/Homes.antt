-- The page-file keys by where each stands, and the taken slots by what holds each.
-- Profile, "Logs of moves".
use Rattle.std.specs.Prelude.{◌≡◌, ◌+◌, Bool, true, false, not, is_some, List, length, count_by}
use Rattle.mm_types.specs.{Key, Record, Held}
use Rattle.mm_types.specs.declared.frames.Held.TheVariants as held
use Rattle.mm_move_rules.specs.{slot_of, FrameLife, same_key, is_zero, owner_is}
use Rattle.mm_move_laws.specs.Tally.{one_if, tally}

abbrev pub is_framed : Held → Bool
is_framed (held.Frame f) = true
is_framed (held.Slot s) = false
is_framed (held.Block b) = false
is_framed held.Zero = false
is_framed held.Dead = false

abbrev pub is_slotted : Held → Bool
is_slotted (held.Frame f) = false
is_slotted (held.Slot s) = true
is_slotted (held.Block b) = false
is_slotted held.Zero = false
is_slotted held.Dead = false

-- the page of the frame is a page-file page
abbrev pub has_paged : FrameLife → Record → Bool
has_paged l r = owner_is l.paging r

-- a slot is the frame's backing, whether its page lives or not
abbrev pub has_slot : Record → Bool
has_slot r = is_some (slot_of r.backing)

-- a list has each page-file key once and no other
pub record CountsHomes (l : FrameLife) : Type 0 where
  pub keys : List Key
  pub once : (k : Key) → tally (same_key k) keys ≡ one_if (l.paging k)
  pub count : length keys ≡ l.paging_keys
  -- each stands in a frame, in a slot or nowhere
  pub homes : tally (λ k. is_framed (l.stands k)) keys + tally (λ k. is_slotted (l.stands k)) keys +
      tally (λ k. is_zero (l.stands k)) keys ≡ l.paging_keys
  -- those in frames are as many as the frames with a page-file page
  pub frames : tally (λ k. is_framed (l.stands k)) keys ≡ count_by (has_paged l) l.frames.records
  -- a slot that is not free is the home of one of them, or it backs a frame
  pub slots : tally (λ k. is_slotted (l.stands k)) keys + count_by has_slot l.frames.records ≡
      count_by not l.free_slots
