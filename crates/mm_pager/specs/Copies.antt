-- Pieces of an access that makes a copy.
-- Profile, "Accesses".
use Rattle.std.specs.Prelude.{◌≡◌, ◌<◌, ◌+◌, ◌⊎◌, ℕ, true, false, Option, Some, None, is_some}
use Rattle.mm_types.specs.{PageFault, limit_of, Frame, Key, Place}
use Rattle.mm_types.specs.declared.moves.LineKind.TheVariants as kind
use Rattle.mm_move_rules.specs.{record_at, FrameLife, changed, same_key, same_place, is_live, is_shared, key_of_place, is_short, shows_shared, zero_page}
use Rattle.mm_frame_laws.specs.{IsSoiled}
use Rattle.mm_store.specs.{Aim, IsSoiledFor, is_framed}
use Rattle.mm_state_calls.specs.{StateOf, moved_with_call, IsFlightOf}
use Rattle.mm_pager.specs.Pieces.{Went, IsUncopied, Stuck, TookFrame, Calm, Causes, InQuietFrame, LifeBut, LifeKept, Reaches}

-- it makes a copy of the page, which becomes the place's own
pub record CopiesFrom (a : Aim) (k : Key) (place : Place) (s : StateOf) : Type 0 where
  pub reaches : Reaches a k place s
  pub copy : a.need.copy ≡ Some (key_of_place place)

-- at most so many reads: none where the page is valid at the place
abbrev pub most_reads : Option Frame → ℕ
most_reads None = 1
most_reads (Some f) = 0

-- a page is valid at a place, in this frame
pub record HeldAt (k : Key) (f : Frame) (place : Place) (s : StateOf) : Type 0 where
  pub valid : s.life.valid place ≡ Some f
  pub named : s.names place ≡ Some k

-- the page is valid at the place now, where it was or by a fault, and its frame can be pinned
pub record Readied (k : Key) (f : Frame) (place : Place) (s z : StateOf) : Type 0 where
  pub went : (a : Aim) → Reaches a k place s → IsUncopied a s →
      Went a (most_reads (s.life.valid place)) s z
  pub held : HeldAt k f place z
  pub flight : IsFlightOf s.life.flight (Some f) z.life
  pub calm : Calm s z
  pub names : (z.names ≡ s.names) ⊎ (z.names ≡ changed same_place s.names place (Some k))
  pub still : is_some (s.life.valid place) ≡ true → z ≡ s
  pub same : z ≡ record (moved_with_call s z) { names = z.names }

-- an access that makes a copy, at a place that is valid for the page copied from, in this frame
pub record Pins (a : Aim) (place : Place) (f : Frame) (s : StateOf) : Type 0 where
  pub at : a.place ≡ place
  pub copy : a.need.copy ≡ Some (key_of_place place)
  pub dead : is_live s.life (key_of_place place) ≡ false
  pub valid : s.life.valid place ≡ Some f
  pub flight : IsFlightOf a.start.flight (Some f) s.life

-- a page-file key came to be, and else the life of the frames is as moves within a line leave it
abbrev pub KeyAdded : Key → FrameLife → FrameLife → Type 0
KeyAdded k l m = LifeBut (changed same_key l.paging k true) (l.paging_keys + 1) l m

-- the place's own page is there, a copy of this page, valid and soiled
pub record CopyMapped (k : Key) (place : Place) (s z : StateOf) : Type 0 where
  pub life : KeyAdded (key_of_place place) s.life z.life
  pub valid : is_some (z.life.valid place) ≡ true
  pub soiled : (f : Frame) → z.life.valid place ≡ Some f →
      IsSoiledFor (key_of_place place) (record_at z.life.frames f.0)
  pub young : z.ages place ≡ 0
  pub names : z.names ≡ changed same_place s.names place (Some (key_of_place place))
  pub contents : z.contents ≡ changed same_key s.contents (key_of_place place) (s.contents k)
  pub framed : is_framed (z.life.stands k) ≡ true
  pub read : z.told.last_failed_read ≡ s.told.last_failed_read
  pub same : z ≡ record (moved_with_call s z) { names = z.names; contents = z.contents }

-- ---- what is asked

-- a shared page can be held at a place, to be copied there: the place's own page is not live
pub record MayHold (k : Key) (place : Place) (s : StateOf) : Type 0 where
  pub live : is_live s.life k ≡ true
  pub shared : is_shared k ≡ true
  pub bound : s.bound place ≡ true
  pub dead : s.contents (key_of_place place) ≡ None
  pub own : s.own ≡ None
  pub aside : s.aside ≡ None

-- a page that is not valid at the place yet, or no frame at hand, asks for an access: a thread
-- could not wait there
pub record NeedsAccess (place : Place) (s : StateOf) : Type 0 where
  pub access : s.life.valid place ≡ None → s.life.kind ≡ kind.Access place.pid
  pub frame : is_short s.life ≡ true → s.life.kind ≡ kind.Access place.pid

-- a page that is valid at the place, in this frame, can be copied there
pub record MayCopyHeld (k : Key) (f : Frame) (place : Place) (s : StateOf) : Type 0 where
  pub shared : is_shared k ≡ true
  pub held : HeldAt k f place s
  pub dead : s.contents (key_of_place place) ≡ None
  pub room : s.life.paging_keys < limit_of s.life.machine
  pub own : s.own ≡ None
  pub aside : s.aside ≡ None

-- the place is valid for a shared page, and its own page can come to be
pub record MayCopy (place : Place) (s : StateOf) : Type 0 where
  pub bound : s.bound place ≡ true
  pub dead : s.contents (key_of_place place) ≡ None
  pub room : s.life.paging_keys < limit_of s.life.machine
  pub shows : shows_shared s.life place ≡ true
  pub named : is_some (s.names place) ≡ true
  pub aside : s.aside ≡ None

-- ---- what is promised

-- the place's own page came to be beside the tables, and has this frame
pub record CopyGiven (place : Place) (f : Frame) (s z : StateOf) : Type 0 where
  pub took : (a : Aim) → a.place ≡ place → a.need.copy ≡ Some (key_of_place place) →
      is_some (s.life.valid place) ≡ true → TookFrame a 0 s z
  pub life : KeyAdded (key_of_place place) s.life z.life
  pub valid : z.life.valid ≡ s.life.valid
  pub names : z.names ≡ s.names
  pub aside : z.aside ≡ Some place
  pub contents : z.contents ≡ changed same_key s.contents (key_of_place place) (Some zero_page)
  pub read : z.told.last_failed_read ≡ s.told.last_failed_read
  pub frame : InQuietFrame (key_of_place place) f z
  pub soiled : IsSoiled (record_at z.life.frames f.0)
  pub same : z ≡ record (moved_with_call s z)
      { names = z.names; aside = z.aside; contents = z.contents }

-- the place's own page became valid there, in the place of the page that it is a copy of
pub record CopyPut (place : Place) (f : Frame) (s z : StateOf) : Type 0 where
  pub went : (a : Aim) → a.place ≡ place → a.need.copy ≡ Some (key_of_place place) → Went a 0 s z
  pub life : LifeKept s.life z.life
  pub valid : z.life.valid place ≡ Some f
  pub young : z.ages place ≡ 0
  pub stands : z.life.stands ≡ s.life.stands
  pub quiet : (g : ℕ) → (record_at z.life.frames g).request ≡ (record_at s.life.frames g).request
  pub flags : (g : ℕ) → (record_at z.life.frames g).changed ≡ (record_at s.life.frames g).changed
  pub names : z.names ≡ changed same_place s.names place (Some (key_of_place place))
  pub aside : z.aside ≡ None
  pub told : z.told ≡ s.told
  pub same : z ≡ record (moved_with_call s z) { names = z.names; aside = None }

-- a page was copied to the place's own
pub record CopiesPage (k : Key) (place : Place) (s z : StateOf) : Type 0 where
  pub went : (a : Aim) → CopiesFrom a k place s → Went a (most_reads (s.life.valid place)) s z
  pub copied : CopyMapped k place s z

-- it was not: the page could not be brought, or no frame could be had
pub record FailsToCopyPage (k : Key) (place : Place) (e : PageFault) (s z : StateOf) : Type 0 where
  pub stuck : (a : Aim) → CopiesFrom a k place s → Stuck a e 1 s z
  pub unready : (s.life.valid place ≡ None) ⊎ (is_short s.life ≡ true)
  pub life : LifeKept s.life z.life
  pub names : (z.names ≡ s.names) ⊎ (z.names ≡ changed same_place s.names place (Some k))
  pub causes : Causes e k s z
  pub same : z ≡ record (moved_with_call s z) { names = z.names }
