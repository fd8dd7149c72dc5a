-- Page-file keys and file keys.
-- Profile, "Logs of moves".
use Rattle.std.specs.Prelude.{◌≡◌, Bool, true, not, ◌&&◌, List, length}
use Rattle.mm_types.specs.{Key, Backing, Held}
use Rattle.mm_types.specs.declared.frames.Backing.TheVariants as backing
use Rattle.mm_types.specs.declared.frames.Held.TheVariants as held
use Rattle.mm_move_rules.specs.{FrameLife, same_key, is_live}
use Rattle.mm_move_laws.specs.Tally.{one_if, tally}

-- a list has each page-file key once and no other, and is as long as the number that is kept
pub record CountsKeys (l : FrameLife) : Type 0 where
  pub keys : List Key
  pub once : (k : Key) → tally (same_key k) keys ≡ one_if (l.paging k)
  pub count : length keys ≡ l.paging_keys

-- a live key that was added with a block of a file
abbrev pub is_file_key : FrameLife → Key → Bool
is_file_key l k = is_live l k && not (l.paging k)

-- where a key can stand: a page-file key in a frame, in a slot or nowhere; any other in a frame, on
-- a block, or it is dead
abbrev pub is_home_for : Bool → Held → Bool
is_home_for paging (held.Frame f) = true
is_home_for paging (held.Slot s) = paging
is_home_for paging (held.Block b) = not paging
is_home_for paging held.Zero = paging
is_home_for paging held.Dead = not paging

-- what can back the frame of a key: a slot or nothing for a page-file key, a block for a file key
abbrev pub is_backing_for : Bool → Backing → Bool
is_backing_for paging backing.None = paging
is_backing_for paging (backing.Slot s) = paging
is_backing_for paging (backing.Block b) = not paging
