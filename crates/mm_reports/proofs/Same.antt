-- What is counted of a move does not depend on the move after it.
use Rattle.std.proofs.Common.{◌≡◌, Bool, true, false, List, ◌∷◌, Option, Some, None, refl, sym, ap, ◌∙◌}
use Rattle.std.specs.Prelude.{not, ◌&&◌, if◌then◌else◌}
use Rattle.mm_types.specs.{Place, Move}
use Rattle.mm_types.specs.declared.moves.Move.TheVariants as move
use Rattle.mm_move_rules.specs.{FrameLife, unstarted, is_access, is_unbind, is_short, after_move}
use Rattle.mm_move_classes.specs.{class_of, is_trim, makes_way, makes_room, next_of, MarksOf, marks_after, no_marks}
use Rattle.mm_move_classes.specs.declared.classes.Class.TheVariants as class
use Rattle.mm_reports.specs.{FaultTally, no_tally, with_class, tally_after, tally_from, fault_tally, fault_rows, tally_said, Style}

-- no end of a place is a fault
plain : (t : FaultTally) (ends trimmed way short : Bool)
    → with_class t (Some (if ends then class.PlaceEnds else if trimmed then class.Trimmed else if way then class.MakesWayForCopy else if short then class.TrimmedForWantOfFrames else class.Replaced)) ≡ t
plain t true trimmed way short = refl
plain t false true way short = refl
plain t false false true short = refl
plain t false false false true = refl
plain t false false false false = refl

unmap_plain : (t : FaultTally) (l : FrameLife) (v : MarksOf) (before : Option Move) (p : Place) (next : Option Move)
    → tally_after t l (move.Unmap p) (class_of l v before (move.Unmap p) next) ≡ t
unmap_plain t l v before p next =
    plain t (is_unbind l.kind) (is_trim l.kind) (makes_way l p) (is_access l.kind && is_short l && not (makes_room l p.pid.0 next))

same : (t : FaultTally) (l : FrameLife) (v : MarksOf) (before : Option Move) (m : Move) (next : Option Move)
    → tally_after t l m (class_of l v before m None) ≡ tally_after t l m (class_of l v before m next)
same t l v before (move.At n k) next = refl
same t l v before (move.Add k b) next = refl
same t l v before (move.Drop k) next = refl
same t l v before (move.Clear f) next = refl
same t l v before (move.Steal f) next = refl
same t l v before (move.Give f k) next = refl
same t l v before (move.Read f k) next = refl
same t l v before (move.Got f) next = refl
same t l v before (move.Bad f) next = refl
same t l v before (move.Map f p) next = refl
same t l v before (move.Unmap p) next = unmap_plain t l v before p None ∙ sym (unmap_plain t l v before p next)
same t l v before (move.Soil f) next = refl
same t l v before (move.Write f s) next = refl
same t l v before (move.Wrote f) next = refl
same t l v before (move.Lost f) next = refl

-- one more move was taken
pub fault_taken : (s : Style) (t t' : FaultTally) (l : FrameLife) (v v' : MarksOf) (before before' : Option Move) (m : Move)
    → t' ≡ tally_after t l m (class_of l v before m None) → v' ≡ marks_after v m → before' ≡ Some m → (whole : Bool) (ms : List Move)
    → tally_said s whole (tally_from t' (after_move l m) v' before' ms) ≡ tally_said s whole (tally_from t l v before (m ∷ ms))
fault_taken s t t' l v v' before before' m count marks last whole ms =
    ap (λ (u : FaultTally). tally_said s whole (tally_from u (after_move l m) v' before' ms)) (count ∙ same t l v before m (next_of ms))
    ∙ ap (λ (w : MarksOf). tally_said s whole (tally_from (tally_after t l m (class_of l v before m (next_of ms))) (after_move l m) w before' ms)) marks
    ∙ ap (λ (b : Option Move). tally_said s whole (tally_from (tally_after t l m (class_of l v before m (next_of ms))) (after_move l m) (marks_after v m) b ms)) last

-- nothing was counted
pub fault_none : (s : Style) (t : FaultTally) (v : MarksOf) (before : Option Move) → t ≡ no_tally → v ≡ no_marks → before ≡ None → (whole : Bool) (moves : List Move)
    → tally_said s whole (tally_from t unstarted v before moves) ≡ fault_rows s whole moves
fault_none s t v before none marks last whole moves =
    ap (λ (u : FaultTally). tally_said s whole (tally_from u unstarted v before moves)) none
    ∙ ap (λ (w : MarksOf). tally_said s whole (tally_from no_tally unstarted w before moves)) marks
    ∙ ap (λ (b : Option Move). tally_said s whole (tally_from no_tally unstarted no_marks b moves)) last
