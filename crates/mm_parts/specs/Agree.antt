-- How the parts agree, over plain lists and maps: entries, prototype words and frames; slots and
-- what holds them; requests; and working sets.
use Rattle.std.specs.Prelude.{◌≡◌, ◌≢◌, ◌≤◌, ◌<◌, ◌+◌, ◌⊎◌, ℕ, true, false, List, length, Option, Some, is_some, slice_get}
use Rattle.mm_types.specs.{Area, Frame, Key, Place}
use Rattle.mm_types.specs.declared.numbers.Key.TheVariants.{Private, Shared}
use Rattle.mm_types.specs.declared.frames.Held.TheVariants as held
use Rattle.mm_move_rules.specs.{ResidentSet, record_at, has_request, FrameLife, key_of_place, is_shared, set_of, owner_is}
use Rattle.mm_move_laws.specs.{Holder, holding, CountsPlaces, one_if, times}
use Rattle.mm_page_tables.specs.{Entry, Aside, WordsOf, key_entry, place_from, valid_frame}
use Rattle.mm_page_tables.specs.declared.layout.Entry.TheVariants as entry
use Rattle.mm_parts.specs.Shown.{requests, is_own_line}
use Rattle.mm_parts.specs.Words.{is_aside_entry, names_other}

-- ---- entries, prototype words and frame records

-- the page of a key is in this frame
pub record InFrame (l : FrameLife) (k : Key) (f : Frame) : Type 0 where
  pub stands : l.stands k ≡ held.Frame f
  pub owner : (record_at l.frames f.0).owner ≡ Some k

-- a place is valid for this frame, that of a shared page or of the place's own
pub record IsValidFor (l : FrameLife) (p : Place) (f : Frame) : Type 0 where
  pub valid : l.valid p ≡ Some f
  pub shared : 1 ≤ (record_at l.frames f.0).shares
  pub page : (owner_is is_shared (record_at l.frames f.0) ≡ true) ⊎ InFrame l (key_of_place p) f

-- What the one entry of a key says of where the key stands. The word of a private key is that of
-- its place, which may be valid for a shared page, or name one: then the private key is not live.
abbrev pub EntrySays : FrameLife → Key → Entry → Type 0
EntrySays l k entry.Empty = l.stands k ≡ held.Dead
EntrySays l k entry.Zero = l.stands k ≡ held.Zero
EntrySays l k (entry.Paged s) = l.stands k ≡ held.Slot s
EntrySays l (Private p v) (entry.InFile b) = ⊥
EntrySays l (Shared a i) (entry.InFile b) = l.stands (Shared a i) ≡ held.Block b
EntrySays l k (entry.Transition f) = InFrame l k f × ((record_at l.frames f.0).shares ≡ 0)
EntrySays l (Private p v) (entry.Valid f n) = IsValidFor l (place_from p v) f
EntrySays l (Shared a i) (entry.Valid f n) = InFrame l (Shared a i) f ×
    (1 ≤ (record_at l.frames f.0).shares)
EntrySays l (Private p v) (entry.Proto a i) = l.stands (Private p v) ≡ held.Dead
EntrySays l (Shared a i) (entry.Proto b j) = ⊥

-- the one key beside the tables: a live private key of a bound place, whose word is that of a
-- shared page meanwhile
pub record IsBeside (l : FrameLife) (w : WordsOf) (x : Aside) : Type 0 where
  pub bound : w.bound x.place ≡ true
  pub entry : is_aside_entry x.entry ≡ true
  pub says : EntrySays l (key_of_place x.place) x.entry
  pub named : names_other (w.at x.place) ≡ true
  pub other : (f : Frame) → l.valid x.place ≡ Some f →
      owner_is is_shared (record_at l.frames f.0) ≡ true

pub record EntriesAgree (l : FrameLife) (w : WordsOf) : Type 0 where
  -- Each key has one entry: in its page table, in its prototype word, or, of the one key that is
  -- being made by a copy, beside the tables. It says where the key stands.
  pub says : (k : Key) → EntrySays l k (key_entry w k)
  -- a place is valid where its word names a frame
  pub valid : (p : Place) → l.valid p ≡ valid_frame (w.at p)
  pub page : (p : Place) (f : Frame) → l.valid p ≡ Some f → IsValidFor l p f
  -- where that is the frame of a shared page, its prototype word names it too
  pub prototype : (p : Place) (f : Frame) (a : Area) (i : ℕ) → l.valid p ≡ Some f →
      (record_at l.frames f.0).owner ≡ Some (Shared a i) → w.proto a.0 i ≡ entry.Valid f 0
  -- a frame's shares are the places that are valid for it
  pub shares : ∥ CountsPlaces l ∥₁
  pub beside : (x : Aside) → w.aside ≡ Some x → IsBeside l w x

-- ---- slots

-- a free slot has no holder, each other slot one, a key or a frame; and nothing holds a slot that
-- is not there
pub record SlotsAgree (l : FrameLife) : Type 0 where
  pub free : (s : ℕ) (h : Holder) → slice_get l.free_slots s ≡ Some true →
      holding l.frames l.stands h ≢ Some s
  pub held : (s : ℕ) → slice_get l.free_slots s ≡ Some false →
      ∥ ((h : Holder) × (holding l.frames l.stands h ≡ Some s)) ∥₁
  pub one : (s : ℕ) (g h : Holder) → holding l.frames l.stands g ≡ Some s →
      holding l.frames l.stands h ≡ Some s → g ≡ h
  pub there : (s : ℕ) (h : Holder) → holding l.frames l.stands h ≡ Some s → s < length l.free_slots

-- ---- requests

-- the requests are the frames whose record has one, each once: at most depth in flight, and after
-- them the line's own
pub record RequestsAgree (l : FrameLife) (flight : List ℕ) (own : Option Frame) : Type 0 where
  pub one_list : l.flight ≡ requests flight own
  pub once : (f : ℕ) → times f l.flight ≡ one_if (has_request (record_at l.frames f).request)
  pub few : length flight ≤ l.machine.depth
  pub most : length l.flight ≤ l.machine.depth + 1
  pub own_line : is_some own ≡ true → is_own_line l.kind ≡ true

-- ---- working sets

-- A working set holds exactly the valid places of its process, each with an age of at most 7. It
-- has at most its greatest size.
pub record SetsAgree (l : FrameLife) (ages : Place → Option ℕ) : Type 0 where
  pub aged : (p : Place) → is_some (ages p) ≡ is_some (l.valid p)
  pub young : (p : Place) (age : ℕ) → ages p ≡ Some age → age ≤ 7
  pub counted : ∥ CountsPlaces l ∥₁
  pub within : (pid : ℕ) (s : ResidentSet) → set_of l pid ≡ Some s → s.resident ≤ s.max
