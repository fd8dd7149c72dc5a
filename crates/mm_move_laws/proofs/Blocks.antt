-- Keys keep their blocks, and no two have one.
use Rattle.std.proofs.Common.{◌≡◌, ◌≢◌, ◌⊎◌, ℕ, ◌<◌, Bool, true, false, cond, not, List, [], ◌∷◌, length, Option, Some, None, refl, sym, ap, ◌∙◌, subst, inl, inr, arith, get_or-set_same, get_or-set_other, length-set, ◌+◌, ◌≤◌}
use Rattle.std.specs.Prelude.{is_some, slice_set, ◌==◌, ◌&&◌, nat_le}
use Rattle.std.proofs.lemmas.Bool.{and_parts, eqb-true, cases_lt, ltb-true, not-true}
use Rattle.std.proofs.lemmas.List.{get_or_past}
use Rattle.mm_types.proofs.Cells.{same_or_not}
use Rattle.mm_types.specs.{Frame, Key, Block, Place, Record, Backing, Held, LineKind, Move}
use Rattle.mm_move_rules.specs.{FrameTable, blank, record_at, without_slot, with_record, off_lists, to_free, settled, has_request, is_again, taken_for_read}
use Rattle.mm_move_rules.specs.{given, being_read, being_written, shared, unshared, disowned, soiled, read_done, write_done, write_lost, after_clear}
use Rattle.mm_move_rules.specs.{after_steal, after_give, after_read, after_bad, after_map, after_unmap, after_soil, after_write, after_drop, FrameLife}
use Rattle.mm_move_rules.specs.{same_key, changed, is_dead, IsLegal, is_stored, is_block, after_move, after_at, after_add, dropped_at, after_unmap_at}
use Rattle.mm_move_rules.specs.{homed, home_at, backing_of, unstarted, is_live, is_legal_kind, is_valid_machine, Replays}
use Rattle.mm_move_laws.specs.{is_home_for, is_backing_for, block_of, block_in, block_held, frame, owner_at, is_file_key, IsAdded}
use Rattle.mm_move_laws.specs.Sound.{Sound}
use Rattle.mm_move_laws.proofs.Taking.{first_zeroed, fresh_read}
use Rattle.mm_move_laws.proofs.Owners.{key_or_not, changed_here, changed_else, paged_unblocked}
use Rattle.mm_move_laws.proofs.Requests.{zero_is}
use Rattle.mm_move_laws.proofs.KeyMoves.{dead_is}
use Rattle.mm_move_laws.proofs.Sound.{owner_passes}
use Rattle.mm_move_rules.proofs.Records.{records_taken, records_settled}
use Rattle.mm_move_laws.proofs.Parts.{four_parts, three_parts}
use Rattle.std.specs.Cmp.{unsigned_Decides}
use Rattle.mm_move_laws.proofs.Moved.{dropped_as, unmapped_as, along}
use Rattle.mm_move_laws.proofs.Kept.{sound_unstarted, keeps}
use Rattle.mm_move_laws.proofs.FileKeys.{line_rises, file_step}
use Rattle.mm_types.specs.declared.frames.Backing.TheVariants as backing
use Rattle.mm_types.specs.declared.frames.Request.TheVariants as request
use Rattle.mm_types.specs.declared.frames.Held.TheVariants as held
use Rattle.mm_types.specs.declared.moves.LineKind.TheVariants as kind
use Rattle.mm_types.specs.declared.moves.Stored.TheVariants as stored
use Rattle.mm_types.specs.declared.moves.Move.TheVariants as move

-- ---- blocks of backings

without_slot_block : (b : Backing) → block_of (without_slot b) ≡ block_of b
without_slot_block backing.None = refl
without_slot_block _ = refl

home_block : (d : FrameTable) (b : Backing) → block_in d (home_at b) ≡ block_of b
home_block d backing.None = refl
home_block d _ = refl

stored_block : (d : FrameTable) (h : Held) → is_stored h ≡ true → block_of (backing_of h) ≡ block_in d h
stored_block d (held.Slot s) e = refl
stored_block d _ e = cc

is_block_is : (b : Block) (x : Backing) → is_block b.0 x ≡ true → Some b.0 ≡ block_of x
is_block_is b (backing.Block c) e = ap (λ (n : ℕ). Some n) (sym (eqb-true c.0 b.0 e))
is_block_is b _ e = cc

soiled_block : (r : Record) → block_of (soiled r).backing ≡ block_of r.backing
soiled_block r = at (has_request r.request)
  where
    at : (b : Bool) → block_of (cond b (record r { request = request.WriteAgain }) (record r { changed = true; backing = without_slot r.backing })).backing ≡ block_of r.backing
    at true = refl
    at false = without_slot_block r.backing

write_done_block : (r : Record) → block_of (write_done r).backing ≡ block_of r.backing
write_done_block r = at (is_again r.request)
  where
    at : (b : Bool) → block_of (cond b (record r { request = request.None; backing = without_slot r.backing }) (record r { request = request.None; changed = false })).backing ≡ block_of r.backing
    at true = without_slot_block r.backing
    at false = refl

-- ---- blocks of frames

record_set : (d : FrameTable) (f g : ℕ) (r : Record) → ((g ≡ f) × (record_at (with_record d f r) g ≡ r)) ⊎ (record_at (with_record d f r) g ≡ record_at d g)
record_set d f g r = elim (same_or_not g f) [
  | inl e ↦ elim (cases_lt f (length d.records)) [
    | inl low ↦ inl (e, ap (λ (n : ℕ). record_at (with_record d f r) n) e ∙ get_or-set_same d.records f r blank low)
    | inr high ↦ inr (
        get_or_past (slice_set d.records f r) g blank (let size = length-set d.records f r in omega (arith, high, e, size))
        ∙ sym (get_or_past d.records g blank (omega (arith, high, e))))
  ]
  | inr n ↦ inr (get_or-set_other d.records f g r blank n)
]

with_block : (d : FrameTable) (f : ℕ) (r : Record) → block_of r.backing ≡ block_of (record_at d f).backing → (g : ℕ) → block_of (record_at (with_record d f r) g).backing ≡ block_of (record_at d g).backing
with_block d f r e g = elim (record_set d f g r) [
  | inl h ↦ ap (λ (x : Record). block_of x.backing) h.1 ∙ (e ∙ ap (λ (n : ℕ). block_of (record_at d n).backing) (sym h.0))
  | inr h ↦ ap (λ (x : Record). block_of x.backing) h
]

settled_record : (d : FrameTable) (f g : ℕ) → record_at (settled d f) g ≡ record_at d g
settled_record d f g = ap (λ (rs : List Record). record_at (record d { records = rs }) g) (records_settled (record_at d f) d f)

settles_block : (d : FrameTable) (f : ℕ) (r : Record) → block_of r.backing ≡ block_of (record_at d f).backing → (g : ℕ) → block_of (record_at (settled (with_record d f r) f) g).backing ≡ block_of (record_at d g).backing
settles_block d f r e g = ap (λ (x : Record). block_of x.backing) (settled_record (with_record d f r) f g) ∙ with_block d f r e g

free_else : (d : FrameTable) (f g : ℕ) → g ≢ f → record_at (to_free d f) g ≡ record_at d g
free_else d f g n = get_or-set_other d.records f g blank blank n

-- ---- blocks of keys

in_same : (d d' : FrameTable) → ((g : ℕ) → block_of (record_at d' g).backing ≡ block_of (record_at d g).backing) → (h : Held) → block_in d' h ≡ block_in d h
in_same d d' e (held.Frame f) = e f.0
in_same d d' e _ = refl

in_other : (d d' : FrameTable) (f : ℕ) → ((g : ℕ) → g ≢ f → record_at d' g ≡ record_at d g) → (h : Held) → ((g : Frame) → h ≡ held.Frame g → g.0 ≢ f) → block_in d' h ≡ block_in d h
in_other d d' f e (held.Frame g) n = ap (λ (x : Record). block_of x.backing) (e g.0 (n g refl))
in_other d d' f e _ n = refl

dead_block : (d : FrameTable) (h : Held) → is_dead h ≡ true → block_in d h ≡ None
dead_block d held.Dead e = refl
dead_block d _ e = cc

module _ (l : FrameLife) (s : Sound l) where
  -- a key that is not in a frame without an owner, or of another
  apart_from : (f : ℕ) (k : Key) → owner_at l.frames f ≢ Some k → (g : Frame) → l.stands k ≡ held.Frame g → g.0 ≢ f
  apart_from f k n g e z = n (ap (owner_at l.frames) (sym z) ∙ s.owned.owner k g e)

  pub paging_block : (k : Key) → l.paging k ≡ true → block_held l k ≡ None
  paging_block k p = at (l.stands k) refl
    where
      at : (h : Held) → l.stands k ≡ h → block_in l.frames h ≡ None
      at (held.Frame f) e = paged_unblocked (l.paging k) (record_at l.frames f.0).backing p (s.homed.backing f.0 k (s.owned.owner k f e))
      at (held.Block b) e = let bad : not (l.paging k) ≡ true = ap (is_home_for (l.paging k)) (sym e) ∙ s.homed.home k in let low : false ≡ true = sym (ap not p) ∙ bad in cc
      at _ e = refl

  -- the owner of a frame goes home to the frame's backing
  goes_home : (d' : FrameTable) (f : ℕ) (k : Key) (o : Option Key) → owner_at l.frames f ≡ o → ((g : ℕ) → g ≢ f → record_at d' g ≡ record_at l.frames g) → block_in d' (homed l o (record_at l.frames f).backing k) ≡ block_held l k
  goes_home d' f k None e others = in_other l.frames d' f others (l.stands k) (apart_from f k (λ z. let bad : None ≡ Some k = sym e ∙ z in cc))
  goes_home d' f k (Some j) e others = elim (key_or_not k j) [
    | inl same ↦
        let frame_is : l.stands k ≡ held.Frame (frame f) = ap l.stands same.0 ∙ s.owned.owned f j e in
        ap (block_in d') (ap (changed same_key l.stands j (home_at (record_at l.frames f).backing)) same.0 ∙ changed_here l.stands j (home_at (record_at l.frames f).backing))
        ∙ (home_block d' (record_at l.frames f).backing ∙ sym (ap (block_in l.frames) frame_is))
    | inr other ↦
        ap (block_in d') (changed_else l.stands j k (home_at (record_at l.frames f).backing) other.0)
        ∙ in_other l.frames d' f others (l.stands k) (apart_from f k (λ z. other.0 (let both : Some j ≡ Some k = sym e ∙ z in let same : j ≡ k = cc in sym same)))
  ]

  -- a request ends: the frame settles, or without an owner is free
  ends : (f : ℕ) (new : Record) (k : Key) → block_of new.backing ≡ block_of (record_at l.frames f).backing → block_in (cond (is_some (record_at l.frames f).owner) (settled (with_record l.frames f new) f) (to_free l.frames f)) (l.stands k) ≡ block_held l k
  ends f new k e = at (record_at l.frames f).owner refl
    where
      at : (o : Option Key) → (record_at l.frames f).owner ≡ o → block_in (cond (is_some o) (settled (with_record l.frames f new) f) (to_free l.frames f)) (l.stands k) ≡ block_held l k
      at (Some j) h = in_same l.frames (settled (with_record l.frames f new) f) (settles_block l.frames f new e) (l.stands k)
      at None h = in_other l.frames (to_free l.frames f) f (free_else l.frames f) (l.stands k) (apart_from f k (λ z. let bad : None ≡ Some k = sym h ∙ z in cc))

  -- a key that is brought into a frame without an owner
  comes_in : (d' : FrameTable) (f : ℕ) (k j : Key) (new : Record) → owner_at l.frames f ≡ None → record_at d' f ≡ new → block_of new.backing ≡ block_held l j → ((g : ℕ) → g ≢ f → record_at d' g ≡ record_at l.frames g) → block_in d' (changed same_key l.stands j (held.Frame (frame f)) k) ≡ block_held l k
  comes_in d' f k j new bare here e others = elim (key_or_not k j) [
    | inl same ↦
        ap (block_in d') (ap (changed same_key l.stands j (held.Frame (frame f))) same.0 ∙ changed_here l.stands j (held.Frame (frame f)))
        ∙ (ap (λ (x : Record). block_of x.backing) here ∙ (e ∙ ap (block_held l) (sym same.0)))
    | inr other ↦
        ap (block_in d') (changed_else l.stands j k (held.Frame (frame f)) other.0)
        ∙ in_other l.frames d' f others (l.stands k) (apart_from f k (λ z. let bad : None ≡ Some k = sym bare ∙ z in cc))
  ]

  -- a key without a block stands elsewhere, without one
  without_block : (d' : FrameTable) (j k : Key) (v : Held) → block_held l j ≡ None → block_in d' v ≡ None → (k ≢ j → block_in d' (l.stands k) ≡ block_held l k) → block_in d' (changed same_key l.stands j v k) ≡ block_held l k
  without_block d' j k v was now others = elim (key_or_not k j) [
    | inl same ↦
        ap (block_in d') (ap (changed same_key l.stands j v) same.0 ∙ changed_here l.stands j v) ∙ (now ∙ (sym was ∙ ap (block_held l) (sym same.0)))
    | inr other ↦ ap (block_in d') (changed_else l.stands j k v other.0) ∙ others other.0
  ]

  drops : (j k : Key) (h : Held) → l.paging j ≡ true → l.stands j ≡ h → block_held (dropped_at h l j) k ≡ block_held l k
  drops j k (held.Frame f) p e =
      let mine = s.owned.owner j f e in
      let others = dropped_else (has_request (record_at l.frames f.0).request) in
      without_block (after_drop l.frames f.0) j k held.Dead (paging_block j p) refl
      (λ n. in_other l.frames (after_drop l.frames f.0) f.0 others (l.stands k) (apart_from f.0 k (λ z. n (let both : Some j ≡ Some k = sym mine ∙ z in let same : j ≡ k = cc in sym same))))
    where
      dropped_else : (b : Bool) → (g : ℕ) → g ≢ f.0 → record_at (cond b (with_record l.frames f.0 (disowned (record_at l.frames f.0))) (to_free (off_lists l.frames f.0) f.0)) g ≡ record_at l.frames g
      dropped_else true g n = get_or-set_other l.frames.records f.0 g (disowned (record_at l.frames f.0)) blank n
      dropped_else false g n = get_or-set_other l.frames.records f.0 g blank blank n
  drops j k _ p e = without_block l.frames j k held.Dead (paging_block j p) refl (λ n. refl)

  unmaps : (o : Option Frame) (place : Place) (k : Key) → block_held (after_unmap_at o l place) k ≡ block_held l k
  unmaps None place k = refl
  unmaps (Some f) place k = in_same l.frames (after_unmap l.frames f.0) (settles_block l.frames f.0 (unshared (record_at l.frames f.0)) refl) (l.stands k)

  gives : (f : Frame) (j k : Key) → IsLegal (move.Give f j) l → block_held (after_move l (move.Give f j)) k ≡ block_held l k
  gives f j k h =
      let parts = three_parts _ _ _ h in
      let bare = first_zeroed l.frames l.flight f.0 s.standing parts.0 in
      let was : block_held l j ≡ None = ap (block_in l.frames) (zero_is (l.stands j) parts.1) in
      let here : block_of (record_at (after_give l.frames f.0 j) f.0).backing ≡ None = elim (record_set l.frames f.0 f.0 (given j)) [
        | inl e ↦ ap (λ (r : Record). block_of r.backing) e.1
        | inr e ↦ ap (λ (r : Record). block_of r.backing) (e ∙ bare)
      ] in
      without_block (after_give l.frames f.0 j) j k (held.Frame f) was here
      (λ n. in_other l.frames (after_give l.frames f.0 j) f.0 (λ g m. get_or-set_other l.frames.records f.0 g (given j) blank m) (l.stands k) (apart_from f.0 k (λ z. let bad : None ≡ Some k = sym (ap (λ (r : Record). r.owner) bare) ∙ z in cc)))

  reads : (f : Frame) (j k : Key) → IsLegal (move.Read f j) l → block_held (after_move l (move.Read f j)) k ≡ block_held l k
  reads f j k h =
      let parts = three_parts _ _ _ h in
      let known = fresh_read l.frames l.flight f.0 s.standing parts.0 in
      let same = records_taken l.frames in
      comes_in (after_read l.frames f.0 j (backing_of (l.stands j))) f.0 k j (being_read j (backing_of (l.stands j))) (ap (λ (r : Record). r.owner) known.bare)
      (get_or-set_same (taken_for_read l.frames).records f.0 (being_read j (backing_of (l.stands j))) blank (subst (λ (rs : List Record). f.0 < length rs) (sym same) known.low))
      (stored_block l.frames (l.stands j) parts.1)
      (λ g n. get_or-set_other (taken_for_read l.frames).records f.0 g (being_read j (backing_of (l.stands j))) blank n ∙ ap (λ (rs : List Record). record_at (record l.frames { records = rs }) g) same)

  adds_zero : (j k : Key) → IsLegal (move.Add j None) l → block_held (after_add l j None) k ≡ block_held l k
  adds_zero j k h =
      without_block l.frames j k held.Zero (dead_block l.frames (l.stands j) (dead_is (l.stands j) (three_parts _ _ _ h).0)) refl (λ n. refl)

-- ---- a move that adds no block, and is no line of a machine

abbrev pub adds_block : Move → Bool
adds_block (move.Add k (Some b)) = true
adds_block _ = false

abbrev pub makes_machine : Move → Bool
makes_machine (move.At n (kind.Machine frames slots depth blocks)) = true
makes_machine _ = false

lines : (l : FrameLife) (n : ℕ) (kd : LineKind) (k : Key) → makes_machine (move.At n kd) ≡ false → block_held (after_at l n kd) k ≡ block_held l k
lines l n (kind.Machine frames slots depth blocks) k e = cc
lines l n _ k e = refl

pub block_stays : (x : Move) (l : FrameLife) → Sound l → IsLegal x l → adds_block x ≡ false → makes_machine x ≡ false → (k : Key) → block_held (after_move l x) k ≡ block_held l k
block_stays (move.At n kd) l s h a m k = lines l n kd k m
block_stays (move.Add j None) l s h a m k = adds_zero l s j k h
block_stays (move.Add j (Some b)) l s h a m k = cc
block_stays (move.Drop j) l s h a m k =
    drops l s j k (l.stands j) (three_parts _ _ _ h).1 refl
block_stays (move.Clear f) l s h a m k = in_same l.frames (after_clear l.frames f.0) (λ g. refl) (l.stands k)
block_stays (move.Steal f) l s h a m k = goes_home l s (after_steal l.frames f.0) f.0 k (record_at l.frames f.0).owner refl (λ g n. get_or-set_other l.frames.records f.0 g blank blank n)
block_stays (move.Give f j) l s h a m k = gives l s f j k h
block_stays (move.Read f j) l s h a m k = reads l s f j k h
block_stays (move.Got f) l s h a m k = ends l s f.0 (read_done (record_at l.frames f.0)) k refl
block_stays (move.Bad f) l s h a m k = goes_home l s (after_bad l.frames f.0) f.0 k (record_at l.frames f.0).owner refl (free_else l.frames f.0)
block_stays (move.Map f place) l s h a m k = in_same l.frames (after_map l.frames f.0) (with_block (off_lists l.frames f.0) f.0 (shared (record_at l.frames f.0)) refl) (l.stands k)
block_stays (move.Unmap place) l s h a m k = unmaps l s (l.valid place) place k
block_stays (move.Soil f) l s h a m k = in_same l.frames (after_soil l.frames f.0) (with_block l.frames f.0 (soiled (record_at l.frames f.0)) (soiled_block (record_at l.frames f.0))) (l.stands k)
block_stays (move.Write f (stored.Slot t)) l s h a m k =
    let owner = owner_passes l.paging (record_at l.frames f.0) (four_parts _ _ _ _ h).1 in
    let was = paged_unblocked (l.paging owner.key) (record_at l.frames f.0).backing owner.passes (s.homed.backing f.0 owner.key owner.is) in
    in_same l.frames (after_write l.frames f.0 (backing.Slot t)) (with_block (off_lists l.frames f.0) f.0 (being_written (backing.Slot t) (record_at l.frames f.0)) (sym was)) (l.stands k)
block_stays (move.Write f (stored.Block b)) l s h a m k =
    let same = is_block_is b (record_at l.frames f.0).backing (and_parts _ _ (and_parts _ _ h).0).1 in
    in_same l.frames (after_write l.frames f.0 (backing.Block b)) (with_block (off_lists l.frames f.0) f.0 (being_written (backing.Block b) (record_at l.frames f.0)) same) (l.stands k)
block_stays (move.Wrote f) l s h a m k = ends l s f.0 (write_done (record_at l.frames f.0)) k (write_done_block (record_at l.frames f.0))
block_stays (move.Lost f) l s h a m k = ends l s f.0 (write_lost (record_at l.frames f.0)) k (without_slot_block (record_at l.frames f.0).backing)

-- ---- no two keys have one block, and a file key keeps its block along a replay

pub record Apart (l : FrameLife) : Type 0 where
  pub one : (j k : Key) (b : ℕ) → block_held l j ≡ Some b → block_held l k ≡ Some b → j ≡ k
  pub there : (k : Key) (b : ℕ) → block_held l k ≡ Some b → IsAdded l b

-- no key has a block
none_apart : (l : FrameLife) → ((k : Key) → block_held l k ≡ None) → Apart l
none_apart l none = record {
  one = λ j k b e g. let bad : None ≡ Some b = sym (none j) ∙ e in cc;
  there = λ k b e. let bad : None ≡ Some b = sym (none k) ∙ e in cc;
}

-- each key has the block that it had
same_apart : (l m : FrameLife) → ((k : Key) → block_held m k ≡ block_held l k) → m.machine.blocks ≡ l.machine.blocks → m.added ≡ l.added → Apart l → Apart m
same_apart l m same blocks added a = record {
  one = λ j k b e g. a.one j k b (sym (same j) ∙ e) (sym (same k) ∙ g);
  there = λ k b e.
      let was = a.there k b (sym (same k) ∙ e) in
      record { there = omega (arith, was.there, blocks); added = ap (λ (f : ℕ → Bool). f b) added ∙ was.added };
}

-- a key comes to be on a block that no key ever had
added_apart : (l : FrameLife) (j : Key) (b : Block) → IsLegal (move.Add j (Some b)) l → Apart l → Apart (after_move l (move.Add j (Some b)))
added_apart l j b h a =
    let low = ltb-true b.0 l.machine.blocks (and_parts _ _ (and_parts _ _ h).0).1 in
    let here_is : (k : Key) (n : ℕ) → k ≡ j → block_in l.frames (changed same_key l.stands j (held.Block b) k) ≡ Some n → n ≡ b.0 = λ k n z e.
    let at : Some b.0 ≡ Some n = sym (ap (block_in l.frames) (changed_here l.stands j (held.Block b))) ∙ (ap (λ (y : Key). block_in l.frames (changed same_key l.stands j (held.Block b) y)) (sym z) ∙ e) in
    cc in
    let else_is : (k : Key) → k ≢ j → block_in l.frames (changed same_key l.stands j (held.Block b) k) ≡ block_held l k = λ k n. ap (block_in l.frames) (changed_else l.stands j k (held.Block b) n) in
    let clash : (k : Key) (n : ℕ) → n ≡ b.0 → block_held l k ≡ Some n → ⊥ = λ k n e g.
    let was = (a.there k n g).added in
    let bad : false ≡ true = sym (not-true (l.added b.0) (and_parts _ _ h).1) ∙ (ap l.added (sym e) ∙ was) in cc in
    record {
      one = λ i k n e g. elim (key_or_not i j) [
        | inl x ↦ elim (key_or_not k j) [
          | inl y ↦ x.0 ∙ sym y.0
          | inr y ↦ absurd (clash k n (here_is i n x.0 e) (sym (else_is k y.0) ∙ g))
        ]
        | inr x ↦ elim (key_or_not k j) [
          | inl y ↦ absurd (clash i n (here_is k n y.0 g) (sym (else_is i x.0) ∙ e))
          | inr y ↦ a.one i k n (sym (else_is i x.0) ∙ e) (sym (else_is k y.0) ∙ g)
        ]
      ];
      there = λ k n e. elim (key_or_not k j) [
        | inl y ↦
            let is = here_is k n y.0 e in
            record { there = omega (arith, low, is); added = ap (λ t. cond t true (l.added n)) ((unsigned_Decides n b.0).1 is) }
        | inr y ↦ (
            let was = a.there k n (sym (else_is k y.0) ∙ e) in
            record { there = was.there; added = either (n == b.0) (l.added n) was.added })
      ];
    }
  where
    either : (t x : Bool) → x ≡ true → cond t true x ≡ true
    either true x e = refl
    either false x e = e

pub apart_step : (x : Move) (l : FrameLife) → Sound l → IsLegal x l → Apart l → Apart (after_move l x)
apart_step (move.At n (kind.Machine frames slots depth blocks)) l s h a = none_apart (after_move l (move.At n (kind.Machine frames slots depth blocks))) (λ k. refl)
apart_step (move.Add k (Some b)) l s h a = added_apart l k b h a
apart_step (move.Drop k) l s h a = same_apart l (after_move l (move.Drop k)) (block_stays (move.Drop k) l s h refl refl) (ap (λ (m : FrameLife). m.machine.blocks) (dropped_as (l.stands k) l k)) (ap (λ (m : FrameLife). m.added) (dropped_as (l.stands k) l k)) a
apart_step (move.Unmap place) l s h a = same_apart l (after_move l (move.Unmap place)) (block_stays (move.Unmap place) l s h refl refl) (ap (λ (m : FrameLife). m.machine.blocks) (unmapped_as (l.valid place) l place)) (ap (λ (m : FrameLife). m.added) (unmapped_as (l.valid place) l place)) a
apart_step (move.Write f (stored.Slot t)) l s h a = same_apart l (after_move l (move.Write f (stored.Slot t))) (block_stays (move.Write f (stored.Slot t)) l s h refl refl) refl refl a
apart_step x l s h a = same_apart l (after_move l x) (block_stays x l s h refl refl) refl refl a

pub replay_apart : (xs : List Move) (l : FrameLife) → Replays xs unstarted l → Apart l
replay_apart xs l r = (along (λ m. Sound m × Apart m) (λ x m p h. (keeps x m p.0 h, apart_step x m p.0 h p.1)) xs unstarted l (sound_unstarted, (none_apart unstarted (λ k. refl))) r).1

-- ---- a file key and its block

pub file_has_block : (l : FrameLife) → Sound l → (k : Key) → is_file_key l k ≡ true → is_some (block_held l k) ≡ true
file_has_block l s k file = at (l.stands k) refl
  where
    parts : (is_live l k ≡ true) × (l.paging k ≡ false)
    parts = let p = and_parts (is_live l k) (not (l.paging k)) file in (p.0, not-true (l.paging k) p.1)

    on_block : (b : Backing) → is_backing_for (l.paging k) b ≡ true → is_some (block_of b) ≡ true
    on_block (backing.Block b) e = refl
    on_block _ e = let bad : false ≡ true = sym parts.1 ∙ e in cc

    at : (h : Held) → l.stands k ≡ h → is_some (block_in l.frames h) ≡ true
    at (held.Frame f) e = on_block (record_at l.frames f.0).backing (s.homed.backing f.0 k (s.owned.owner k f e))
    at (held.Block b) e = refl
    at held.Dead e = let bad : false ≡ true = ap (λ (h : Held). not (is_dead h)) (sym e) ∙ parts.0 in cc
    at _ e = let bad : false ≡ true = sym parts.1 ∙ (ap (is_home_for (l.paging k)) (sym e) ∙ s.homed.home k) in cc

-- a move of a line that is not the first
file_block_step : (x : Move) (l : FrameLife) → Sound l → 1 ≤ l.line → IsLegal x l → (k : Key) → is_file_key l k ≡ true → block_held (after_move l x) k ≡ block_held l k
file_block_step (move.At n kd) l s on h k file = block_stays (move.At n kd) l s h refl (no_machine kd (and_parts ((n == l.line + 1) && nat_le (length l.flight) l.machine.depth) (is_legal_kind l kd) h).1) k
  where
    no_machine : (kd : LineKind) → is_legal_kind l kd ≡ true → makes_machine (move.At n kd) ≡ false
    no_machine (kind.Machine frames slots depth blocks) e =
        let p = and_parts (l.line == 0) (is_valid_machine (record { frames = frames; slots = slots; depth = depth; blocks = blocks })) e in
        let z = eqb-true l.line 0 p.0 in absurd (omega (arith, on, z))
    no_machine _ e = refl
file_block_step (move.Add j None) l s on h k file = block_stays (move.Add j None) l s h refl refl k
file_block_step (move.Add j (Some b)) l s on h k file =
    let dead = dead_is (l.stands j) (and_parts _ _ (and_parts _ _ (and_parts _ _ h).0).0).1 in
    let lives = (and_parts (is_live l k) (not (l.paging k)) file).0 in
    ap (block_in l.frames) (changed_else l.stands j k (held.Block b) (λ e. let bad : false ≡ true = sym (ap not dead) ∙ (ap (is_live l) (sym e) ∙ lives) in cc))
file_block_step (move.Drop j) l s on h k file = block_stays (move.Drop j) l s h refl refl k
file_block_step x l s on h k file = block_stays x l s h refl refl k

pub file_block_along : (xs : List Move) (l m : FrameLife) → Sound l → 1 ≤ l.line → Replays xs l m → (k : Key) → is_file_key l k ≡ true → block_held m k ≡ block_held l k
file_block_along [] l m s on e k file = ap (λ (x : FrameLife). block_held x k) e
file_block_along (x ∷ xs) l m s on r k file =
    let up = line_rises x l r.0 in
    file_block_along xs (after_move l x) m (keeps x l s r.0) (omega (arith, on, up)) r.1 k (file_step l k on file x r.0) ∙ file_block_step x l s on r.0 k file
