-- Which move of an access is due, by the tables alone.
-- Profile, "Which frame moves, and when".
use Rattle.std.specs.Prelude.{◌≡◌, ℕ, Bool, true, not, ◌&&◌, ◌||◌, ◌⊎◌, if◌then◌else◌, List, [], ◌∷◌, Option, Some, None}
use Rattle.mm_types.specs.{Frame, Held, Key, Move, Place, Record, Stored}
use Rattle.mm_types.specs.declared.frames.Held.TheVariants as held
use Rattle.mm_types.specs.declared.moves.Move.TheVariants as move
use Rattle.mm_move_rules.specs.{record_at, has_request, is_again, is_read, is_write, is_access, is_at_max, is_shared, owner_is, FrameLife, set_of}
use Rattle.mm_move_rules.specs.{Walk, frame_of, next_writable, IsOldest, IsVictim}
use Rattle.mm_store.specs.{Aim}

pub data Due : Type 0 where
  Nothing : Due
  -- this move
  TheMove : Move → Due
  -- the read that is in flight into this frame ends, well or not
  EndsRead : Frame → Due
  -- the oldest page of a full set goes
  MakesRoom : Due
  -- no frame can be taken at once: one is sought
  Seeks : Due

-- a zeroed frame is used; without one the first that is free is cleared, and without that the first
-- on standby is taken
abbrev pub with_zeroed : (Frame → Move) → List ℕ → List ℕ → List ℕ → Due
with_zeroed last (z ∷ zs) free standby = TheMove (last (frame_of z))
with_zeroed last [] (f ∷ fs) standby = TheMove (move.Clear (frame_of f))
with_zeroed last [] [] (s ∷ ss) = TheMove (move.Steal (frame_of s))
with_zeroed last [] [] [] = Seeks

-- a page is read into the first frame that is free, without one into the first that is zeroed
abbrev pub with_free : Key → List ℕ → List ℕ → List ℕ → Due
with_free k (f ∷ fs) zeroed standby = TheMove (move.Read (frame_of f) k)
with_free k [] (z ∷ zs) standby = TheMove (move.Read (frame_of z) k)
with_free k [] [] (s ∷ ss) = TheMove (move.Steal (frame_of s))
with_free k [] [] [] = Seeks

-- a page that has a frame becomes valid at the place
abbrev pub due_map : Aim → FrameLife → Frame → Due
due_map a l f = if is_at_max (set_of l a.place.pid.0) then MakesRoom else TheMove (move.Map f a.place)

-- no page is valid at the place: by where the key to be had stands
abbrev pub due_unmapped : Aim → FrameLife → Held → Due
due_unmapped a l (held.Frame f) = if is_read (record_at l.frames f.0).request then EndsRead f else
    due_map a l f
due_unmapped a l held.Zero =
    with_zeroed (λ f. move.Give f a.need.key) l.frames.zeroed l.frames.free l.frames.standby
due_unmapped a l (held.Slot s) =
    with_free a.need.key l.frames.free l.frames.zeroed l.frames.standby
due_unmapped a l (held.Block b) =
    with_free a.need.key l.frames.free l.frames.zeroed l.frames.standby
due_unmapped a l held.Dead = with_free a.need.key l.frames.free l.frames.zeroed l.frames.standby

-- what is written to the page is lost, if it is not soiled first
abbrev pub is_unsoiled : Record → Bool
is_unsoiled r = (not r.changed && not (has_request r.request)) ||
    (is_write r.request && not (is_again r.request))

-- the page of the frame is the one that is accessed
abbrev pub due_mapped : Aim → FrameLife → Frame → Due
due_mapped a l f = if a.writes && is_unsoiled (record_at l.frames f.0) then TheMove (move.Soil f) else
    Nothing

abbrev pub first_given : Key → List ℕ → Due
first_given k [] = Nothing
first_given k (z ∷ zs) = TheMove (move.Give (frame_of z) k)

-- a page is valid at the place, in this frame, and is to be copied: by where the copy stands
abbrev pub due_copy : Aim → FrameLife → Frame → Key → Held → Due
due_copy a l f k held.Dead =
    with_zeroed (λ z. move.Add k None) l.frames.zeroed l.frames.free l.frames.standby
due_copy a l f k held.Zero = first_given k l.frames.zeroed
due_copy a l f k (held.Frame g) =
    if owner_is is_shared (record_at l.frames f.0) then TheMove (move.Unmap a.place) else
    due_mapped a l f
due_copy a l f k (held.Slot s) = Nothing
due_copy a l f k (held.Block b) = Nothing

abbrev pub due_of : Aim → FrameLife → Frame → Option Key → Due
due_of a l f None = due_mapped a l f
due_of a l f (Some k) = due_copy a l f k (l.stands k)

abbrev pub due_at : Aim → FrameLife → Option Frame → Due
due_at a l None = due_unmapped a l (l.stands a.need.key)
due_at a l (Some f) = due_of a l f a.need.copy

-- by whether a page is valid at the place
abbrev pub due : Aim → FrameLife → Due
due a l = due_at a l (l.valid a.place)

-- ---- a move that is due

-- in a search: the first frame that can be written is written, or where none can, the page goes
-- whose turn it is
pub data IsSought (a : Aim) (w : Walk) (m : Move) : Type 0 where
  SoughtByWrite : (f : Frame) (s : Stored) → m ≡ move.Write f s → next_writable w ≡ Some f.0 →
      IsSought a w m
  SoughtByUnmap : (p : Place) → m ≡ move.Unmap p → is_access w.life.kind ≡ true → next_writable w ≡ None →
      IsVictim w.life w.ages (w.life.valid a.place) p → IsSought a w m

abbrev pub IsDue : Due → Aim → Walk → Move → Type 0
IsDue Nothing a w m = ⊥
IsDue (TheMove n) a w m = m ≡ n
IsDue (EndsRead f) a w m = (m ≡ move.Got f) ⊎ (m ≡ move.Bad f)
IsDue MakesRoom a w m = (p : Place) × (m ≡ move.Unmap p) × (p.pid ≡ a.place.pid) ×
    IsOldest w.life w.ages None p
IsDue Seeks a w m = IsSought a w m
