-- The moves of an access in two pieces.
use Rattle.std.proofs.Common.{◌≡◌, Bool, true, false, List, [], ◌∷◌, ◌++◌, Some, None, refl, inl, inr}
use Rattle.mm_types.specs.{Move, Frame, Place}
use Rattle.mm_types.specs.declared.moves.Move.TheVariants as move
use Rattle.mm_move_rules.specs.{Walk, walked, walked_all, Through, IsWriteEnded}
use Rattle.mm_store.specs.{Aim, AccessMove, ByCopy, FromFull, InShortage, IsGivenAtOnce, IsGivenNext, IsUsedNext, IsGiven, IsReadEnded, IsMapped, PageGoes, ReadFails}

pub through_then : (P : Walk → Move → List Move → Type 0) → ((w : Walk) (m : Move) (ms ys : List Move) → P w m ms → P w m (ms ++ ys)) → (xs ys : List Move) (w : Walk) → Through P w xs → Through P (walked_all w xs) ys → Through P w (xs ++ ys)
through_then P more [] ys w p q = q
through_then P more (x ∷ xs) ys w p q = (more w x xs ys p.0, through_then P more xs ys (walked w x) p.1 q)

pub walked_then : (xs ys : List Move) (w : Walk) → walked_all w (xs ++ ys) ≡ walked_all (walked_all w xs) ys
walked_then [] ys w = refl
walked_then (x ∷ xs) ys w = walked_then xs ys (walked w x)

once_more : (f : Frame) (ms ys : List Move) → IsGivenAtOnce f ms → IsGivenAtOnce f (ms ++ ys)
once_more f [] ys h = absurd h
once_more f (move.Give g k ∷ ms) ys h = h
once_more f (_ ∷ ms) ys h = absurd h

given_more : (f : Frame) (ms ys : List Move) → IsGivenNext f ms → IsGivenNext f (ms ++ ys)
given_more f [] ys h = absurd h
given_more f (move.Give g k ∷ ms) ys h = h
given_more f (move.Add k b ∷ ms) ys h = once_more f ms ys h
given_more f (_ ∷ ms) ys h = absurd h

used_more : (f : Frame) (ms ys : List Move) → IsUsedNext f ms → IsUsedNext f (ms ++ ys)
used_more f [] ys h = absurd h
used_more f (move.Clear g ∷ ms) ys h = h
used_more f (move.Read g k ∷ ms) ys h = h
used_more f (_ ∷ ms) ys h = absurd h

-- a fact of the first of some moves
first_more : (P : List Move → Type 0) → (P [] → ⊥) → ((m : Move) (ms ys : List Move) → P (m ∷ ms) → P (m ∷ (ms ++ ys))) → (ms ys : List Move) → P ms → P (ms ++ ys)
first_more P none more [] ys h = absurd (none h)
first_more P none more (m ∷ ms) ys h = more m ms ys h

goes_more : (a : Aim) (w : Walk) (p : Place) (ms ys : List Move) → PageGoes a w p ms → PageGoes a w p (ms ++ ys)
goes_more a w p ms ys (ByCopy e c shows next) = ByCopy e c shows (first_more (IsMapped a.place) (λ h. h) (λ m ms ys h. h) ms ys next)
goes_more a w p ms ys (FromFull e none full old next) = FromFull e none full old (first_more (IsMapped a.place) (λ h. h) (λ m ms ys h. h) ms ys next)
goes_more a w p ms ys (InShortage x s n v) = InShortage x s n v

pub access_more : (a : Aim) (w : Walk) (m : Move) (ms ys : List Move) → AccessMove a w m ms → AccessMove a w m (ms ++ ys)
access_more a w (move.At n k) ms ys h = absurd h
access_more a w (move.Add k None) ms ys h = (h.0, h.1, first_more (IsGiven k) (λ g. g) (λ m ms ys g. g) ms ys h.2)
access_more a w (move.Add k (Some b)) ms ys h = absurd h
access_more a w (move.Drop k) ms ys h = absurd h
access_more a w (move.Clear f) ms ys h = (h.0, given_more f ms ys h.1)
access_more a w (move.Steal f) ms ys h = (h.0, used_more f ms ys h.1)
access_more a w (move.Read f k) ms ys h = (h.0, h.1, h.2, λ e. first_more (IsReadEnded f) (λ g. g) (λ m ms ys g. g) ms ys (h.3 e))
access_more a w (move.Unmap p) ms ys h = goes_more a w p ms ys h
access_more a w (move.Write f s) ms ys h = (h.0, h.1, first_more (IsWriteEnded f) (λ g. g) (λ m ms ys g. g) ms ys h.2)
access_more a w _ ms ys h = h

-- an access goes on
pub accesses_then : (a : Aim) (xs ys : List Move) (w : Walk) → Through (AccessMove a) w xs → Through (AccessMove a) (walked_all w xs) ys → Through (AccessMove a) w (xs ++ ys)
accesses_then a xs ys w p q = through_then (AccessMove a) (access_more a) xs ys w p q

-- nothing stands behind a read that failed
pub fails_then : (failed : Bool) (xs ys : List Move) → ReadFails false xs → ReadFails failed ys → ReadFails failed (xs ++ ys)
fails_then failed [] ys p q = q
fails_then failed (move.Bad f ∷ xs) ys p q = let bad : false ≡ true = p.0 in cc
fails_then failed (_ ∷ xs) ys p q = fails_then failed xs ys p q
