-- Bytes that were changed behind the state are located still: those of a modified page in its frame, and those of a device while no frame is backed.
use Rattle.std.proofs.Common.{◌≡◌, ◌<◌, ℕ, zero, suc, Bool, true, false, List, [], ◌∷◌, length, refl, sym, ap, ◌∙◌, subst}
use Rattle.std.specs.Prelude.{is_some, slice_get, slice_set}
use Rattle.std.proofs.lemmas.List.{length-set}
use Rattle.mm_types.specs.{Backing, Held, Key}
use Rattle.mm_types.specs.declared.frames.Backing.TheVariants as backing
use Rattle.mm_types.specs.declared.frames.Held.TheVariants as held
use Rattle.mm_move_rules.specs.{home_at, record_at, FrameLife, is_live, FrameBytes, BlockBytes, bytes_at, contents_of, held_at, BytesLocated, Log}
use Rattle.mm_move_laws.specs.{ReachedByMoves}
use Rattle.mm_move_laws.proofs.{facts_of}
use Rattle.mm_frame_laws.proofs.{owned_low}
use Rattle.mm_devices.specs.{DeviceOf, Call, Serves}
use Rattle.mm_devices.proofs.{named_as_before}
use Rattle.mm_store.specs.Told.{Told}
use Rattle.mm_parts.specs.{PartsOf}
use Rattle.mm_state_calls.specs.{StateOf, written_if}
use Rattle.mm_state.specs.{joined_state}
use Rattle.mm_tests.specs.{BytesChanged, NoneBacked}

some_set : {A : Type 0} (xs : List A) (i j : ℕ) (x : A) → is_some (slice_get (slice_set xs i x) j) ≡ is_some (slice_get xs j)
some_set [] i j x = refl
some_set (y ∷ ys) zero zero x = refl
some_set (y ∷ ys) zero (suc j) x = refl
some_set (y ∷ ys) (suc i) zero x = refl
some_set (y ∷ ys) (suc i) (suc j) x = some_set ys i j x

-- a frame with an owner has nothing behind it
bare : (l : FrameLife) → ∥ ReachedByMoves l ∥₁ → NoneBacked l → (f : ℕ) → is_some (record_at l.frames f).owner ≡ true → (record_at l.frames f).backing ≡ backing.None
bare l reached none f some = none f (subst (λ (n : ℕ). f < n) (facts_of l reached).framed (owned_low l.frames f some))

same_home : (ram : FrameBytes) (slots blocks slots' blocks' : BlockBytes) (home : Backing) → home ≡ backing.None → bytes_at ram slots blocks (home_at home) ≡ bytes_at ram slots' blocks' (home_at home)
same_home ram slots blocks slots' blocks' home e = subst (λ (h : Backing). bytes_at ram slots blocks (home_at h) ≡ bytes_at ram slots' blocks' (home_at h)) (sym e) refl

-- ---- a block

block_set : (l : FrameLife) → ∥ ReachedByMoves l ∥₁ → (ram : FrameBytes) (slots blocks : BlockBytes) → BytesLocated l ram slots blocks → NoneBacked l → (b : ℕ) (page : List ℕ)
    → BytesLocated l ram slots (slice_set blocks b page)
block_set l reached ram slots blocks kept none b page = record {
  clean = λ f some same calm. kept.clean f some same calm ∙ same_home ram slots blocks slots (slice_set blocks b page) (record_at l.frames f).backing (bare l reached none f some);
  zeroed = kept.zeroed;
  live = λ k. still (held_at l k) ∙ kept.live k;
  frame_room = kept.frame_room;
  room = kept.room;
  file_room = length-set blocks b page ∙ kept.file_room;
}
  where
    still : (h : Held) → is_some (bytes_at ram slots (slice_set blocks b page) h) ≡ is_some (bytes_at ram slots blocks h)
    still (held.Frame f) = refl
    still (held.Slot s) = refl
    still (held.Block c) = some_set blocks b c.0 page
    still held.Zero = refl
    still held.Dead = refl

pub block_behind : (ok : Bool) (l : FrameLife) → ∥ ReachedByMoves l ∥₁ → (ram : FrameBytes) (slots blocks : BlockBytes) → BytesLocated l ram slots blocks → NoneBacked l → (b : ℕ) (page : List ℕ)
    → (after : BlockBytes) → after ≡ written_if ok (λ xs. slice_set xs b page) blocks → BytesLocated l ram slots after
block_behind true l reached ram slots blocks kept none b page after e = subst (λ (x : BlockBytes). BytesLocated l ram slots x) (sym e) (block_set l reached ram slots blocks kept none b page)
block_behind false l reached ram slots blocks kept none b page after e = subst (λ (x : BlockBytes). BytesLocated l ram slots x) (sym e) kept

-- ---- a slot

slot_set : (l : FrameLife) → ∥ ReachedByMoves l ∥₁ → (ram : FrameBytes) (slots blocks : BlockBytes) → BytesLocated l ram slots blocks → NoneBacked l → (s : ℕ) (page : List ℕ)
    → BytesLocated l ram (slice_set slots s page) blocks
slot_set l reached ram slots blocks kept none s page = record {
  clean = λ f some same calm. kept.clean f some same calm ∙ same_home ram slots blocks (slice_set slots s page) blocks (record_at l.frames f).backing (bare l reached none f some);
  zeroed = kept.zeroed;
  live = λ k. still (held_at l k) ∙ kept.live k;
  frame_room = kept.frame_room;
  room = length-set slots s page ∙ kept.room;
  file_room = kept.file_room;
}
  where
    still : (h : Held) → is_some (bytes_at ram (slice_set slots s page) blocks h) ≡ is_some (bytes_at ram slots blocks h)
    still (held.Frame f) = refl
    still (held.Slot t) = some_set slots s t.0 page
    still (held.Block b) = refl
    still held.Zero = refl
    still held.Dead = refl

pub slot_behind : (ok : Bool) (l : FrameLife) → ∥ ReachedByMoves l ∥₁ → (ram : FrameBytes) (slots blocks : BlockBytes) → BytesLocated l ram slots blocks → NoneBacked l → (s : ℕ) (page : List ℕ)
    → (after : BlockBytes) → after ≡ written_if ok (λ xs. slice_set xs s page) slots → BytesLocated l ram after blocks
slot_behind true l reached ram slots blocks kept none s page after e = subst (λ (x : BlockBytes). BytesLocated l ram x blocks) (sym e) (slot_set l reached ram slots blocks kept none s page)
slot_behind false l reached ram slots blocks kept none s page after e = subst (λ (x : BlockBytes). BytesLocated l ram x blocks) (sym e) kept

-- ---- a frame

-- where the bytes of frames alone changed, a state shows all else as before
pub rest_bytes : (v u : PartsOf) (bytes : FrameBytes) (log : Log) (told : Told) (paging files : DeviceOf) (slots blocks : BlockBytes) → v ≡ record u { bytes = bytes }
    → joined_state v log told paging files slots blocks ≡ record (joined_state u log told paging files slots blocks) { contents = contents_of v.life v.bytes slots blocks }
rest_bytes v u bytes log told paging files slots blocks e = λ i. record (joined_state (e i) log told paging files slots blocks) { contents = contents_of v.life v.bytes slots blocks }

-- the same keys are live
pub same_live : (v u : PartsOf) (bytes : FrameBytes) (slots blocks : BlockBytes) → v ≡ record u { bytes = bytes } → BytesLocated v.life v.bytes slots blocks → BytesLocated u.life u.bytes slots blocks → (k : Key)
    → is_some (contents_of v.life v.bytes slots blocks k) ≡ is_some (contents_of u.life u.bytes slots blocks k)
same_live v u bytes slots blocks e now was k = now.live k ∙ ap (λ (x : PartsOf). is_live x.life k) e ∙ sym (was.live k)

-- ---- what else stays

-- a call of a device leaves as many named calls
pub named_stays : (c : Call) (a b : DeviceOf) → Serves c a b → length b.named ≡ length a.named
named_stays c a b h = named_as_before (c ∷ []) a b (b, (h, refl))

-- as many blocks
pub as_many : (ok : Bool) (i : ℕ) (page : List ℕ) (after before : BlockBytes) → after ≡ written_if ok (λ xs. slice_set xs i page) before → length after ≡ length before
as_many true i page after before e = ap (λ (xs : BlockBytes). length xs) e ∙ length-set before i page
as_many false i page after before e = ap (λ (xs : BlockBytes). length xs) e

pub nothing_changed : (s : StateOf) → BytesChanged s s
nothing_changed s = record { rest = refl; live = λ k. refl; paging = refl; files = refl; stored = refl }
