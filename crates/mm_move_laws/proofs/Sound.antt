-- What holds of each state that a replay reaches, and what moves of one frame keep of it.
use Rattle.std.proofs.Common.{◌≡◌, ℕ, ◌≤◌, Bool, true, false, List, [], ◌∷◌, ◌++◌, length, Option, Some, None, refl, sym, ap, ◌∙◌, inl, inr, arith}
use Rattle.std.proofs.lemmas.List.{length_push}
use Rattle.std.specs.Prelude.{is_some, nat_lt, option_map, unwrap_or, ◌&&◌, ◌||◌}
use Rattle.std.proofs.lemmas.Bool.{ltb-false, ltb-true}
use Rattle.mm_types.specs.{Key, Record, Held}
use Rattle.mm_types.proofs.Booleans.{not_true}
use Rattle.mm_types.proofs.Options.{some_found, none_of}
use Rattle.mm_move_rules.specs.{FrameTable, record_at, without, FrameLife, same_key, changed, is_access, is_call, owner_is, is_first, is_empty, is_stored}
use Rattle.mm_move_rules.specs.{is_thread, is_writer, is_on, has_depth, may_write_block}
use Rattle.mm_move_laws.specs.{holding, is_backing_for, Fit, owner_at, Owned, SlotsHeld, Homed, may_begin}
use Rattle.mm_move_laws.specs.Sound.{Sound}
use Rattle.mm_move_laws.proofs.Tallies.{length-without}
use Rattle.mm_move_laws.proofs.Taking.{Changes, stands_kept}
use Rattle.mm_move_laws.proofs.Owners.{owned_same, homed_frame}
use Rattle.mm_move_laws.proofs.PlaceCounts.{shown_same}

-- the owner, if any, that passes a test
pub record OwnerPasses (test : Key → Bool) (r : Record) : Type 0 where
  pub key : Key
  pub is : r.owner ≡ Some key
  pub passes : test key ≡ true

pub owner_passes : (test : Key → Bool) (r : Record) → owner_is test r ≡ true → OwnerPasses test r
owner_passes test r e = at r.owner refl e
  where
    at : (o : Option Key) → r.owner ≡ o → unwrap_or (option_map test o) false ≡ true → OwnerPasses test r
    at None h e = cc
    at (Some k) h e = record { key = k; is = h; passes = e }

pub some_owner : (r : Record) → is_some r.owner ≡ true → (k : Key) × (r.owner ≡ Some k)
some_owner r e = some_found r.owner e

pub no_owner : (r : Record) → is_some r.owner ≡ false → r.owner ≡ None
no_owner r e = none_of r.owner e

pub ended_few : (q : List ℕ) (f : ℕ) → length (without f q) ≤ length q
ended_few q f = let h = length-without f q in omega (arith, h)

-- ---- what begins a request may begin one

begin_thread : (x a c t w d : Bool) → (x && (a || (t && d))) ≡ true → ((a || c) || ((t || w) && d)) ≡ true
begin_thread true true c t w d e = refl
begin_thread true false true t w d e = refl
begin_thread true false false true w true e = refl
begin_thread _ _ _ _ _ _ e = cc

begin_writer : (x a c t w d : Bool) → (x && (a || (w && d))) ≡ true → ((a || c) || ((t || w) && d)) ≡ true
begin_writer true true c t w d e = refl
begin_writer true false true t w d e = refl
begin_writer true false false true true true e = refl
begin_writer true false false false true true e = refl
begin_writer _ _ _ _ _ _ e = cc

begin_block : (x on a c t w d : Bool) → (x && (((on && a) || (on && w && d)) || c)) ≡ true → ((a || c) || ((t || w) && d)) ≡ true
begin_block true on true c t w d e = refl
begin_block true on false true t w d e = refl
begin_block true true false false true true true e = refl
begin_block true true false false false true true e = refl
begin_block _ _ _ _ _ _ _ e = cc

in_depth : (a c x d : Bool) → ((a || c) || (x && d)) ≡ true → a ≡ false → c ≡ false → d ≡ true
in_depth false false true true e f g = refl
in_depth _ _ _ _ e f g = cc

module _ (l : FrameLife) where
  pub begins_read : (f : ℕ) (k : Key) → (((is_first f l.frames.free || (is_empty l.frames.free && is_first f l.frames.zeroed)) && is_stored (l.stands k)) && (is_access l.kind || (is_thread l.kind && has_depth l))) ≡ true → may_begin l ≡ true
  begins_read f k h = begin_thread _ (is_access l.kind) (is_call l.kind) (is_thread l.kind) (is_writer l.kind) (has_depth l) h

  pub begins_slot : (a : Bool) → (a && (is_access l.kind || (is_writer l.kind && has_depth l))) ≡ true → may_begin l ≡ true
  begins_slot a h = begin_writer a (is_access l.kind) (is_call l.kind) (is_thread l.kind) (is_writer l.kind) (has_depth l) h

  pub begins_block : (a : Bool) (f : ℕ) → (a && may_write_block l f) ≡ true → may_begin l ≡ true
  begins_block a f h = begin_block a (is_on f l.frames.modified) (is_access l.kind) (is_call l.kind) (is_thread l.kind) (is_writer l.kind) (has_depth l) h

  -- and is within the depth, but in a plain access or a call
  pub begun_few : (f : ℕ) → may_begin l ≡ true → is_access l.kind ≡ false → is_call l.kind ≡ false → length (l.flight ++ f ∷ []) ≤ l.machine.depth
  begun_few f h a c =
      let deep = in_depth (is_access l.kind) (is_call l.kind) _ (has_depth l) h a c in
      omega (arith, ltb-true (length l.flight) l.machine.depth deep, length_push l.flight f)

-- no shares where there is no owner
pub orphan_unshared : (r : Record) → Fit r → r.owner ≡ None → r.shares ≡ 0
orphan_unshared r f o =
    let none = not_true (nat_lt 0 r.shares) (λ e. let bad : false ≡ true = sym (ap is_some o) ∙ f.shown e in cc) in
    omega (arith, ltb-false 0 r.shares none)

-- ---- a move that changes one frame, and neither its owner nor its shares

module _ (l : FrameLife) (s : Sound l) (d' : FrameTable) (q' : List ℕ) (free' : List Bool) (f : ℕ) (r : Record) (c : Changes l.frames d' l.flight q' f r) where
  pub sound_frame :
      r.owner ≡ owner_at l.frames f → r.shares ≡ (record_at l.frames f).shares
      → ((k : Key) → r.owner ≡ Some k → is_backing_for (l.paging k) (record_at l.frames f).backing ≡ true → is_backing_for (l.paging k) r.backing ≡ true)
      → SlotsHeld free' (holding d' l.stands) → length free' ≡ length l.free_slots
      → (is_access l.kind ≡ false → is_call l.kind ≡ false → length q' ≤ l.machine.depth)
      → Sound (record l { frames = d'; free_slots = free'; flight = q' })
  sound_frame owner shares backing slots size few = assumption (
    stands_kept l.frames d' l.flight q' f r c s.standing,
    owned_same l.frames d' l.flight q' f r c l.stands s.owned owner,
    shown_same l.frames d' l.flight q' f r c l.valid l.sets s.shown shares (inl owner),
    homed_frame l.frames d' l.flight q' f r c l.paging l.stands (λ k e. backing k e (s.homed.backing f k (sym owner ∙ e))) s.homed,
    c.size ∙ s.framed,
    size ∙ s.slotted,
  )

  -- the same, where the frame had no shares and a key stands elsewhere now
  pub sound_key :
      (k : Key) (v : Held) → r.shares ≡ 0 → (record_at l.frames f).shares ≡ 0
      → Owned d' (changed same_key l.stands k v) → Homed l.paging d' (changed same_key l.stands k v)
      → SlotsHeld free' (holding d' (changed same_key l.stands k v)) → length free' ≡ length l.free_slots
      → (is_access l.kind ≡ false → is_call l.kind ≡ false → length q' ≤ l.machine.depth)
      → Sound (record l { frames = d'; free_slots = free'; flight = q'; stands = changed same_key l.stands k v })
  sound_key k v now was owned homed slots size few = assumption (
    stands_kept l.frames d' l.flight q' f r c s.standing,
    shown_same l.frames d' l.flight q' f r c l.valid l.sets s.shown (now ∙ sym was) (inr was),
    c.size ∙ s.framed,
    size ∙ s.slotted,
  )
