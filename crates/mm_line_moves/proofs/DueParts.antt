-- What legality and the tables say of the move that is due: lists, tests, aims.
use Rattle.std.proofs.Common.{◌≡◌, ℕ, Bool, true, false, cond, List, [], ◌∷◌, Option, Some, None, refl, sym, ap, ◌∙◌, arith}
use Rattle.std.proofs.lemmas.Bool.{eqb-true, ltb-true}
use Rattle.std.specs.Prelude.{IsTrue, not, ◌&&◌, ◌||◌, ◌==◌, is_some, option_map, unwrap_or}
use Rattle.mm_types.proofs.{parts}
use Rattle.mm_types.specs.{Frame, Held, Key, LineKind, Move, Place}
use Rattle.mm_types.specs.declared.frames.Held.TheVariants as held
use Rattle.mm_types.specs.declared.moves.LineKind.TheVariants as kind
use Rattle.mm_types.specs.declared.moves.Move.TheVariants as move
use Rattle.mm_move_rules.specs.{ResidentSet, FrameLife, is_first, is_empty, is_live, is_dead, is_zero, is_access, is_thread, is_touch, is_zeroer, is_io, is_writer, is_call}
use Rattle.mm_move_rules.specs.{is_at_max, is_below_max, frame_of}
use Rattle.mm_world.specs.{Need}
use Rattle.mm_store.specs.{is_framed, wants_frame, is_copied}
use Rattle.mm_line_moves.specs.{TheMove, Seeks, first_given, with_free, with_zeroed}

-- ---- tests

pub first_part : (a b : Bool) → IsTrue (a && b) → a ≡ true
first_part a b h = (parts a b h).0

pub last_part : (a b : Bool) → IsTrue (a && b) → b ≡ true
last_part a b h = (parts a b h).1

pub not_so : (b : Bool) → not b ≡ true → b ≡ false
not_so false h = refl
not_so true h = cc

pub not_both : (b : Bool) → b ≡ true → b ≡ false → ⊥
not_both true p q = cc
not_both false p q = cc

pub last_of_two : (z t e : Bool) → z ≡ false → (z || (t && e)) ≡ true → e ≡ true
last_of_two false true true p q = refl
last_of_two _ _ _ p q = cc

-- ---- kinds of lines

pub touch_not_zeroer : (k : LineKind) → is_touch k ≡ true → is_zeroer k ≡ false
touch_not_zeroer kind.Zeroer e = cc
touch_not_zeroer _ e = refl

pub touch_not_io : (k : LineKind) → is_touch k ≡ true → is_io k ≡ false
touch_not_io kind.Io e = cc
touch_not_io _ e = refl

pub touch_not_writer : (k : LineKind) → is_touch k ≡ true → is_writer k ≡ false
touch_not_writer kind.Writer e = cc
touch_not_writer _ e = refl

pub touch_not_call : (k : LineKind) → is_touch k ≡ true → is_call k ≡ false
touch_not_call kind.Call e = cc
touch_not_call _ e = refl

pub thread_not_access : (k : LineKind) → is_thread k ≡ true → is_access k ≡ false
thread_not_access (kind.Access p) e = cc
thread_not_access _ e = refl

pub thread_touches : (k : LineKind) → is_thread k ≡ true → is_touch k ≡ true
thread_touches (kind.Thread p) e = refl
thread_touches (kind.Access p) e = refl
thread_touches _ e = cc

pub access_touches : (k : LineKind) → is_access k ≡ true → is_touch k ≡ true
access_touches (kind.Access p) e = refl
access_touches _ e = cc

-- ---- frames on lists

is_frame_of : (f : Frame) (n : ℕ) → (n == f.0) ≡ true → frame_of n ≡ f
is_frame_of f n e = let same = eqb-true n f.0 e in (λ i. record { 0 = same i })

module _ (last : Frame → Move) where
  pub used_now : (zs fs ss : List ℕ) (f : Frame) → is_first f.0 zs ≡ true → with_zeroed last zs fs ss ≡ TheMove (last f)
  used_now [] fs ss f e = cc
  used_now (z ∷ zs) fs ss f e = ap (λ (g : Frame). TheMove (last g)) (is_frame_of f z e)

  pub cleared_now : (zs fs ss : List ℕ) (f : Frame) → is_first f.0 fs ≡ true → is_empty zs ≡ true → with_zeroed last zs fs ss ≡ TheMove (move.Clear f)
  cleared_now (z ∷ zs) fs ss f e none = cc
  cleared_now [] [] ss f e none = cc
  cleared_now [] (x ∷ fs) ss f e none = ap (λ (g : Frame). TheMove (move.Clear g)) (is_frame_of f x e)

  pub stolen_to_zero : (zs fs ss : List ℕ) (f : Frame) → is_first f.0 ss ≡ true → is_empty zs ≡ true → is_empty fs ≡ true → with_zeroed last zs fs ss ≡ TheMove (move.Steal f)
  stolen_to_zero (z ∷ zs) fs ss f e none lacks = cc
  stolen_to_zero [] (x ∷ fs) ss f e none lacks = cc
  stolen_to_zero [] [] [] f e none lacks = cc
  stolen_to_zero [] [] (x ∷ ss) f e none lacks = ap (λ (g : Frame). TheMove (move.Steal g)) (is_frame_of f x e)

  pub sought_to_zero : (zs fs ss : List ℕ) → (is_empty zs && is_empty fs && is_empty ss) ≡ true → with_zeroed last zs fs ss ≡ Seeks
  sought_to_zero [] [] [] e = refl
  sought_to_zero [] [] (s ∷ ss) e = cc
  sought_to_zero [] (f ∷ fs) ss e = cc
  sought_to_zero (z ∷ zs) fs ss e = cc

module _ (k : Key) where
  pub read_now : (zs fs ss : List ℕ) (f : Frame) → (is_first f.0 fs || (is_empty fs && is_first f.0 zs)) ≡ true → with_free k fs zs ss ≡ TheMove (move.Read f k)
  read_now zs (x ∷ fs) ss f e = ap (λ (g : Frame). TheMove (move.Read g k)) (is_frame_of f x (first_only (x == f.0) e))
    where
      first_only : (b : Bool) → (b || (false && is_first f.0 zs)) ≡ true → b ≡ true
      first_only true h = refl
      first_only false h = cc
  read_now [] [] ss f e = cc
  read_now (z ∷ zs) [] ss f e = ap (λ (g : Frame). TheMove (move.Read g k)) (is_frame_of f z e)

  pub stolen_to_read : (zs fs ss : List ℕ) (f : Frame) → is_first f.0 ss ≡ true → is_empty zs ≡ true → is_empty fs ≡ true → with_free k fs zs ss ≡ TheMove (move.Steal f)
  stolen_to_read zs (x ∷ fs) ss f e none lacks = cc
  stolen_to_read (z ∷ zs) [] ss f e none lacks = cc
  stolen_to_read [] [] [] f e none lacks = cc
  stolen_to_read [] [] (x ∷ ss) f e none lacks = ap (λ (g : Frame). TheMove (move.Steal g)) (is_frame_of f x e)

  pub sought_to_read : (zs fs ss : List ℕ) → (is_empty zs && is_empty fs && is_empty ss) ≡ true → with_free k fs zs ss ≡ Seeks
  sought_to_read [] [] [] e = refl
  sought_to_read [] [] (s ∷ ss) e = cc
  sought_to_read [] (f ∷ fs) ss e = cc
  sought_to_read (z ∷ zs) [] ss e = cc
  sought_to_read (z ∷ zs) (f ∷ fs) ss e = cc

  pub given_now : (zs : List ℕ) (f : Frame) → is_first f.0 zs ≡ true → first_given k zs ≡ TheMove (move.Give f k)
  given_now [] f e = cc
  given_now (z ∷ zs) f e = ap (λ (g : Frame). TheMove (move.Give g k)) (is_frame_of f z e)

-- ---- working sets

pub below_not_full : (o : Option ResidentSet) → is_below_max o ≡ true → is_at_max o ≡ false
below_not_full None e = refl
below_not_full (Some s) e = at (s.resident == s.max) refl
  where
    at : (b : Bool) → (s.resident == s.max) ≡ b → b ≡ false
    at false h = refl
    at true h = let same = eqb-true s.resident s.max h in let less = ltb-true s.resident s.max e in absurd (omega (arith, same, less))

-- ---- where keys stand

pub dead_held : (h : Held) → not (is_dead h) ≡ false → h ≡ held.Dead
dead_held held.Dead e = refl
dead_held _ e = cc

pub zero_held : (h : Held) → is_zero h ≡ true → h ≡ held.Zero
zero_held held.Zero e = refl
zero_held _ e = cc

pub zero_lives : (l : FrameLife) (k : Key) → l.stands k ≡ held.Zero → is_live l k ≡ true
zero_lives l k e = ap (λ (h : Held). not (is_dead h)) e

-- ---- what an access wants

pub wants_unmapped : (n : Need) (p : Place) (l : FrameLife) → l.valid p ≡ None → wants_frame n p l ≡ true → is_framed (l.stands n.key) ≡ false
wants_unmapped n p l e h =
    not_so (is_framed (l.stands n.key)) (sym (ap (λ (o : Option Frame). cond (is_some o) (unwrap_or (option_map (λ k. not (is_live l k)) n.copy) false) (not (is_framed (l.stands n.key)))) e) ∙ h)

-- the copy that has not come to be
pub record Lacks (n : Need) (l : FrameLife) : Type 0 where
  pub key : Key
  pub is : n.copy ≡ Some key
  pub dead : l.stands key ≡ held.Dead

lacks_by : (n : Need) (l : FrameLife) (o : Option Key) → n.copy ≡ o → unwrap_or (option_map (λ k. not (is_live l k)) o) false ≡ true → Lacks n l
lacks_by n l None e h = cc
lacks_by n l (Some k) e h = record { key = k; is = e; dead = dead_held (l.stands k) (not_so (is_live l k) h) }

pub wants_mapped : (n : Need) (p : Place) (l : FrameLife) (f : Frame) → l.valid p ≡ Some f → wants_frame n p l ≡ true → Lacks n l
wants_mapped n p l f e h =
    lacks_by n l n.copy refl (sym (ap (λ (o : Option Frame). cond (is_some o) (unwrap_or (option_map (λ k. not (is_live l k)) n.copy) false) (not (is_framed (l.stands n.key)))) e) ∙ h)

-- the copy, which has come to be
pub record Copied (n : Need) (l : FrameLife) : Type 0 where
  pub key : Key
  pub is : n.copy ≡ Some key
  pub live : is_live l key ≡ true

copied_by : (n : Need) (l : FrameLife) (o : Option Key) → n.copy ≡ o → unwrap_or (option_map (λ k. is_live l k) o) false ≡ true → Copied n l
copied_by n l None e h = cc
copied_by n l (Some k) e h = record { key = k; is = e; live = h }

pub is_copied_one : (n : Need) (l : FrameLife) → is_copied n l ≡ true → Copied n l
is_copied_one n l h = copied_by n l n.copy refl h

pub copied_is : (n : Need) (l : FrameLife) (k : Key) → n.copy ≡ Some k → is_copied n l ≡ is_live l k
copied_is n l k e = ap (λ (o : Option Key). unwrap_or (option_map (λ k. is_live l k) o) false) e
