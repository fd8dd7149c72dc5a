-- A move whose class is told when the next one is known.
use Rattle.std.proofs.Common.{◌≡◌, ℕ, Bool, true, false, ◌&&◌, List, ◌∷◌, ◌++◌, Option, Some, refl, ap}
use Rattle.std.specs.Prelude.{not, ◌==◌, if◌then◌else◌}
use Rattle.std.proofs.lemmas.Bool.{eq-eqb}
use Rattle.mm_types.specs.{Place, Move}
use Rattle.mm_types.specs.declared.moves.Move.TheVariants as move
use Rattle.mm_move_rules.specs.{FrameLife, set_of, is_access, is_unbind, touches, is_at_max, is_short, after_move}
use Rattle.mm_move_classes.specs.{MarksOf, marks_after, class_of, is_trim, makes_way, maps_into, next_of, classes_from, Class}
use Rattle.mm_move_classes.specs.declared.classes.Class.TheVariants as class
use Rattle.mm_log_walk.specs.{pending_class, classed, class_then, move_of, class_list, classes_rest, Pending}

same_true : (n : ℕ) → (n == n) ≡ true
same_true n = eq-eqb n n refl

-- all that the class of an `unmap` has of the next move is whether that maps into the same working set
abbrev unmap_class : FrameLife → Place → Bool → Class
unmap_class l place maps =
    if is_unbind l.kind then class.PlaceEnds
    else if is_trim l.kind then class.Trimmed
    else if makes_way l place then class.MakesWayForCopy
    else if is_access l.kind && is_short l && not (touches place.pid.0 l.kind && is_at_max (set_of l place.pid.0) && maps)
    then class.TrimmedForWantOfFrames
    else class.Replaced

by_next : (l : FrameLife) (place : Place) (maps there : Bool) → there ≡ true
    → (if maps then Some (unmap_class l place there) else Some (unmap_class l place false)) ≡ Some (unmap_class l place maps)
by_next l place true there e = ap (λ b. Some (unmap_class l place b)) e
by_next l place false there e = refl

pub class_known : (l : FrameLife) (v : MarksOf) (before : Option Move) (m : Move) (next : Option Move) → (classed (pending_class l v before m) next).class ≡ class_of l v before m next
class_known l v before (move.At n k) next = refl
class_known l v before (move.Add k b) next = refl
class_known l v before (move.Drop k) next = refl
class_known l v before (move.Clear f) next = refl
class_known l v before (move.Steal f) next = refl
class_known l v before (move.Give f k) next = refl
class_known l v before (move.Read f k) next = refl
class_known l v before (move.Got f) next = refl
class_known l v before (move.Bad f) next = refl
class_known l v before (move.Map f p) next = refl
class_known l v before (move.Unmap p) next = by_next l p (maps_into p.pid.0 next) (p.pid.0 == p.pid.0) (same_true p.pid.0)
class_known l v before (move.Soil f) next = refl
class_known l v before (move.Write f s) next = refl
class_known l v before (move.Wrote f) next = refl
class_known l v before (move.Lost f) next = refl

-- the classes that come, where one more move was taken
pub classes_taken : (l : FrameLife) (v : MarksOf) (p : Option Pending) (m : Move) (ms : List Move)
    → class_list (class_then p (Some m)) ++ classes_rest (marks_after v m) (Some (pending_class l v (move_of p) m)) (after_move l m) ms ≡ classes_rest v p l (m ∷ ms)
classes_taken l v p m ms =
    ap (λ (c : Option Class). class_list (class_then p (Some m)) ++ (c ∷ classes_from (after_move l m) (marks_after v m) (Some m) ms)) (class_known l v (move_of p) m (next_of ms))
