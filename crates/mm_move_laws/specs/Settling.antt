-- What a move leaves of the frame database that ends a request, or takes a share away.
-- Profile, "Logs of moves".
use Rattle.std.specs.Prelude.{◌≡◌, ◌≢◌, ℕ, Bool, not, ◌&&◌, if◌then◌else◌, is_some, List, [], ◌∷◌, ◌++◌, length}
use Rattle.mm_types.specs.{Record}
use Rattle.mm_move_rules.specs.{FrameTable, blank, record_at, is_idle}

-- the frame at the end of the list, if it joins it
abbrev pub at_end_if : Bool → ℕ → List ℕ → List ℕ
at_end_if joins f xs = if joins then xs ++ f ∷ [] else xs

-- the four lists of a table
pub record ListsAre (d : FrameTable) (z u s m : List ℕ) : Type 0 where
  pub zeroed : d.zeroed ≡ z
  pub free : d.free ≡ u
  pub standby : d.standby ≡ s
  pub modified : d.modified ≡ m

-- the record of a frame whose request ends: changed so where its page lives, else the frame is free
abbrev pub ended_as : (Record → Record) → Record → Record
ended_as change r = if is_some r.owner then change r else blank

-- the frame has this record now and is put where it says, after all others; all else stays
pub record Settles (d d' : FrameTable) (f : ℕ) (r : Record) : Type 0 where
  pub here : record_at d' f ≡ r
  pub others : (g : ℕ) → g ≢ f → record_at d' g ≡ record_at d g
  pub size : length d'.records ≡ length d.records
  pub lists : ListsAre d' d.zeroed (at_end_if (not (is_some r.owner)) f d.free)
      (at_end_if (is_some r.owner && is_idle r && not r.changed) f d.standby)
      (at_end_if (is_some r.owner && is_idle r && r.changed) f d.modified)
