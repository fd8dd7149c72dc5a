-- Whole pages of bytes, of blocks and of keys, and what is kept of a line.
use Rattle.std.proofs.Common.{◌≡◌, ℕ, zero, suc, Bool, true, false, List, [], ◌∷◌, ◌++◌, length, replicate, Some, sym, ap, ◌∙◌, subst, refl, Option, None, arith, ◌<◌, ◌≢◌}
use Rattle.std.specs.Prelude.{slice_set, IsSome, is_some, not, unwrap_or, ◌==◌}
use Rattle.std.proofs.lemmas.List.{length-replicate}
use Rattle.mm_types.specs.{Key, Backing, Held, Frame, Place, Record}
use Rattle.mm_types.specs.declared.frames.Backing.TheVariants as backing
use Rattle.mm_types.specs.declared.frames.Held.TheVariants as held
use Rattle.mm_move_rules.specs.{FrameLife, FrameBytes, BlockBytes, frame_page, bytes_at, contents_of, held_at, zero_page, BytesLocated, Log, record_at}
use Rattle.mm_move_rules.specs.{is_read, is_dead}
use Rattle.mm_devices.specs.{empty_block, DeviceOf}
use Rattle.mm_frame_laws.specs.{slots_written, blocks_written, Carries, IsSoiled}
use Rattle.mm_state_calls.specs.{written_if}
use Rattle.mm_state.specs.{AreWhole, joined_state, searched_anew, read_told, IsTallied}
use Rattle.std.specs.Bool.{OnTrue, OnFalse}
use Rattle.std.proofs.lemmas.Bool.{OnTrue_at, OnFalse_at, lt-ltb, eqb-true}
use Rattle.mm_move_laws.specs.{ReachedByMoves, is_backed}
use Rattle.mm_parts.specs.{PartsOf, Owners, named_by, names_of, valid_of, own_is}
use Rattle.mm_store.specs.Told.{Told}
use Rattle.mm_frame_laws.proofs.{carries_block, page_of_key, shown_calm, calm_is}
use Rattle.mm_move_laws.proofs.{some_owner, facts_of}
use Rattle.mm_ram.specs.{bytes_of}
use Rattle.mm_page_tables.specs.{Entry, WordsOf, valid_frame}
use Rattle.mm_page_tables.specs.declared.layout.Entry.TheVariants as entry
use Rattle.mm_store.specs.{one_more, none_told, with_write}

-- ---- blocks of whole pages: after a write, after growth, and the pages of keys

pub zeros_whole : length empty_block ≡ 4096
zeros_whole = length-replicate {A = ℕ} 4096 0

pub whole_set : (xs : BlockBytes) → AreWhole xs → (i : ℕ) (page : List ℕ) → length page ≡ 4096 → AreWhole (slice_set xs i page)
whole_set [] kept i page n j q e = kept j q e
whole_set (x ∷ xs) kept zero page n zero q e = let same : page ≡ q = cc in ap length (sym same) ∙ n
whole_set (x ∷ xs) kept zero page n (suc j) q e = kept (suc j) q e
whole_set (x ∷ xs) kept (suc i) page n zero q e = kept zero q e
whole_set (x ∷ xs) kept (suc i) page n (suc j) q e = whole_set xs (λ k r h. kept (suc k) r h) i page n j q e

pub whole_append : (xs ys : BlockBytes) → AreWhole xs → AreWhole ys → AreWhole (xs ++ ys)
whole_append [] ys kept more j q e = more j q e
whole_append (x ∷ xs) ys kept more zero q e = kept zero q e
whole_append (x ∷ xs) ys kept more (suc j) q e = whole_append xs ys (λ k r h. kept (suc k) r h) more j q e

-- blocks as a device is opened with them
pub whole_opened : (n : ℕ) → AreWhole (replicate n empty_block)
whole_opened zero j q e = cc
whole_opened (suc n) zero q e = let same : empty_block ≡ q = cc in ap length (sym same) ∙ zeros_whole
whole_opened (suc n) (suc j) q e = whole_opened n j q e

pub whole_on : (xs ys : BlockBytes) → xs ≡ ys → AreWhole ys → AreWhole xs
whole_on xs ys e kept = subst AreWhole (sym e) kept

pub whole_grown : (xs ys : BlockBytes) (n : ℕ) → ys ≡ xs ++ replicate n empty_block → AreWhole xs → AreWhole ys
whole_grown xs ys n e kept = whole_on ys _ e (whole_append xs (replicate n empty_block) kept (whole_opened n))

-- a page was written where a frame is backed, or not
module _ (page : List ℕ) (n : length page ≡ 4096) where
  in_slots : (home : Backing) (xs : BlockBytes) → AreWhole xs → AreWhole (slots_written home page xs)
  in_slots backing.None xs kept = kept
  in_slots (backing.Slot s) xs kept = whole_set xs kept s.0 page n
  in_slots (backing.Block b) xs kept = kept

  in_blocks : (home : Backing) (xs : BlockBytes) → AreWhole xs → AreWhole (blocks_written home page xs)
  in_blocks backing.None xs kept = kept
  in_blocks (backing.Slot s) xs kept = kept
  in_blocks (backing.Block b) xs kept = whole_set xs kept b.0 page n

  pub slots_whole : (ok : Bool) (home : Backing) (xs ys : BlockBytes) → ys ≡ written_if ok (slots_written home page) xs → AreWhole xs → AreWhole ys
  slots_whole true home xs ys e kept = whole_on ys _ e (in_slots home xs kept)
  slots_whole false home xs ys e kept = whole_on ys xs e kept

  pub blocks_whole : (ok : Bool) (home : Backing) (xs ys : BlockBytes) → ys ≡ written_if ok (blocks_written home page) xs → AreWhole xs → AreWhole ys
  blocks_whole true home xs ys e kept = whole_on ys _ e (in_blocks home xs kept)
  blocks_whole false home xs ys e kept = whole_on ys xs e kept

pub block_whole : (ok : Bool) (i : ℕ) (page : List ℕ) → length page ≡ 4096 → (xs ys : BlockBytes) → ys ≡ written_if ok (λ blocks. slice_set blocks i page) xs → AreWhole xs → AreWhole ys
block_whole true i page n xs ys e kept = whole_on ys _ e (whole_set xs kept i page n)
block_whole false i page n xs ys e kept = whole_on ys xs e kept

-- the page of a key is whole, where those of frames and on devices are
pub page_whole : (l : FrameLife) (ram : FrameBytes) (slots blocks : BlockBytes) → ((f : ℕ) (page : List ℕ) → frame_page ram f ≡ Some page → length page ≡ 4096) → AreWhole slots → AreWhole blocks
    → (k : Key) (page : List ℕ) → contents_of l ram slots blocks k ≡ Some page → length page ≡ 4096
page_whole l ram slots blocks frames in_slot in_block k page = by (held_at l k)
  where
    by : (h : Held) → bytes_at ram slots blocks h ≡ Some page → length page ≡ 4096
    by (held.Frame f) e = frames f.0 page e
    by (held.Slot s) e = in_slot s.0 page e
    by (held.Block b) e = in_block b.0 page e
    by held.Zero e = let same : zero_page ≡ page = cc in ap length (sym same) ∙ zeros_whole
    by held.Dead e = cc

-- ---- A block that no key ever had is written

pub block_written : (ok : Bool) (after before : BlockBytes) (write : BlockBytes → BlockBytes) → OnTrue ok (after ≡ write before) → OnFalse ok (after ≡ before) → after ≡ written_if ok write before
block_written true after before write there kept = OnTrue_at refl there
block_written false after before write there kept = OnFalse_at refl kept

pub block_carries : (ok : Bool) (l : FrameLife) → ∥ ReachedByMoves l ∥₁ → (ram : FrameBytes) (slots blocks : BlockBytes) → BytesLocated l ram slots blocks → (b : ℕ) (page : List ℕ) → l.added b ≡ false
    → (after : BlockBytes) → OnTrue ok (after ≡ slice_set blocks b page) → OnFalse ok (after ≡ blocks) → Carries l ram slots after (contents_of l ram slots blocks)
block_carries ok l reached ram slots blocks kept b page new after there same =
    subst (λ (x : BlockBytes). Carries l ram slots x (contents_of l ram slots blocks)) (sym (block_written ok after blocks (λ xs. slice_set xs b page) there same)) (by ok)
  where
    by : (c : Bool) → Carries l ram slots (written_if c (λ xs. slice_set xs b page) blocks) (contents_of l ram slots blocks)
    by true = carries_block l reached ram slots blocks kept b page new
    by false = record { located = kept; bytes = refl }

-- the blocks of the file device changed, and what keys have stays
pub rest_block : (u : PartsOf) (log : Log) (told : Told) (paging files : DeviceOf) (slots blocks after : BlockBytes) → contents_of u.life u.bytes slots after ≡ contents_of u.life u.bytes slots blocks
    → joined_state u log told paging files slots after ≡ record (joined_state u log told paging files slots blocks) { blocks = after }
rest_block u log told paging files slots blocks after e = λ i. record (joined_state u log told paging files slots blocks) { contents = e i; blocks = after }

-- ---- the page of a key in a frame

pub pick : {A : Type 0} (o : Option A) → IsSome o → (x : A) × (o ≡ Some x)
pick None h = cc
pick (Some x) h = (x, refl)

named_frame : (o : Owners) (place : Place) (f : Frame) (e : Entry) → valid_frame e ≡ Some f → named_by o place e ≡ o f.0
named_frame o place f (entry.Valid g n) h = let same : g ≡ f = cc in ap (λ (x : Frame). o x.0) same
named_frame o place f _ h = cc

-- a valid place names the owner of its frame
pub valid_names : (o : Owners) (w : WordsOf) (place : Place) (f : Frame) → valid_of w place ≡ Some f → names_of o w place ≡ o f.0
valid_names o w place f h = named_frame o place f (w.at place) h

module _ (l : FrameLife) (reached : ∥ ReachedByMoves l ∥₁) (ram : FrameBytes) (slots blocks : BlockBytes) (kept : BytesLocated l ram slots blocks) where
  -- the frame of a valid place has an owner, and no page is being read into it
  pub valid_calm : (place : Place) (f : Frame) → l.valid place ≡ Some f → is_read (record_at l.frames f.0).request ≡ false
  valid_calm place f v = shown_calm l (facts_of l reached) f.0 ((facts_of l reached).shares place f v)

  pub valid_owner : (place : Place) (f : Frame) → l.valid place ≡ Some f → (k : Key) × ((record_at l.frames f.0).owner ≡ Some k)
  valid_owner place f v =
      let some = (facts_of l reached).shares place f v in
      some_owner (record_at l.frames f.0) (((facts_of l reached).standing f.0).fit.shown (lt-ltb 0 (record_at l.frames f.0).shares (omega (arith, some))))

  lives : (f : Frame) (k : Key) → (record_at l.frames f.0).owner ≡ Some k → is_some (contents_of l ram slots blocks k) ≡ true
  lives f k owner = kept.live k ∙ ap (λ (h : Held). not (is_dead h)) ((facts_of l reached).owned f.0 k owner)

  -- the page of a key in a frame that is not being read
  pub own_page : (f : Frame) (k : Key) → (record_at l.frames f.0).owner ≡ Some k → is_read (record_at l.frames f.0).request ≡ false → contents_of l ram slots blocks k ≡ Some (bytes_of ram f.0)
  own_page f k owner calm = by (frame_page ram f.0) refl
    where
      by : (o : Option (List ℕ)) → frame_page ram f.0 ≡ o → contents_of l ram slots blocks k ≡ Some (unwrap_or (frame_page ram f.0) [])
      by None e =
          let bad : false ≡ true = sym (ap is_some (page_of_key l reached ram slots blocks kept f k owner calm ∙ e)) ∙ lives f k owner in cc
      by (Some p) e = page_of_key l reached ram slots blocks kept f k owner calm ∙ e ∙ sym (ap (λ (o : Option (List ℕ)). Some (unwrap_or o [])) e)

  pub own_bytes : (f : Frame) (k : Key) → (record_at l.frames f.0).owner ≡ Some k → is_read (record_at l.frames f.0).request ≡ false → bytes_of ram f.0 ≡ unwrap_or (contents_of l ram slots blocks k) zero_page
  own_bytes f k owner calm = sym (ap (λ (o : Option (List ℕ)). unwrap_or o zero_page) (own_page f k owner calm))

pub soiled_calm : (r : Record) → IsSoiled r → is_read r.request ≡ false
soiled_calm r s = calm_is r.request s.calm

-- ---- what is kept of the counts of a line

more_some : (n : ℕ) → 0 < one_more n
more_some n = omega arith

pub tallied_none : IsTallied none_told
tallied_none = record { search = λ h. absurd (omega (arith, h)); read = λ h. cc }

pub tallied_search : (t : Told) → IsTallied t → IsTallied (searched_anew t)
tallied_search t k = record { search = λ h. absurd (omega (arith, h)); read = k.read }

pub tallied_read : (t : Told) (ok : Bool) (home : Backing) (owner : Option Key) → is_backed home ≡ true → IsTallied t → IsTallied (read_told ok home owner t)
tallied_read t ok backing.None owner b k = cc
tallied_read t true (backing.Slot s) owner b k = record { search = k.search; read = k.read }
tallied_read t true (backing.Block s) owner b k = record { search = k.search; read = k.read }
tallied_read t false (backing.Slot s) owner b k = let some = more_some t.paging_reads.failed in record { search = k.search; read = λ h. omega (arith, some) }
tallied_read t false (backing.Block s) owner b k = let some = more_some t.file_reads.failed in record { search = k.search; read = λ h. omega (arith, some) }

pub tallied_write : (t : Told) (ok : Bool) (home : Backing) → IsTallied t → IsTallied (with_write ok home t)
tallied_write t true backing.None k = k
tallied_write t false backing.None k = k
tallied_write t true (backing.Slot s) k = record { search = k.search; read = k.read }
tallied_write t true (backing.Block s) k = record { search = k.search; read = k.read }
tallied_write t false (backing.Slot s) k = let some = more_some t.paging_writes.failed in record { search = λ h. omega (arith, some); read = k.read }
tallied_write t false (backing.Block s) k = let some = more_some t.file_writes.failed in record { search = λ h. omega (arith, some); read = k.read }

-- ---- requests that are not the line's own

-- a request that is not the line's own, by its frame
pub other_request : (own : Option Frame) (f : Frame) → own ≢ Some f → own_is own f.0 ≡ false
other_request None f other = refl
other_request (Some g) f other = by (g.0 == f.0) refl
  where
    by : (b : Bool) → (g.0 == f.0) ≡ b → b ≡ false
    by true e = absurd (other (ap (λ (x : ℕ). Some (record { 0 = x })) (eqb-true g.0 f.0 e)))
    by false e = refl
