-- The events that are still to come, where one more move was taken.
use Rattle.std.proofs.Common.{◌≡◌, Bool, true, false, List, [], ◌∷◌, ◌++◌, Option, Some, None, sym, ap, ◌∙◌, append_assoc}
use Rattle.mm_types.specs.{Text, Move}
use Rattle.mm_types.proofs.{append_nil}
use Rattle.mm_move_rules.specs.{FrameLife, unstarted, after_move}
use Rattle.mm_move_classes.specs.{MarksOf, no_marks, marks_after, next_of, Class}
use Rattle.mm_csv.specs.{head_left}
use Rattle.mm_log_walk.specs.{pending_class, class_then, move_of, Pending, Beside}
use Rattle.mm_log_walk.proofs.{class_known}
use Rattle.mm_transcripts.specs.{AgesOf, no_ages_known, ages_then}
use Rattle.mm_events.specs.{class_row, event_head, events_from, events_still, event_noted, waiting_event_row, Noted}

module _ (b : Beside) (begun : Bool) (l : FrameLife) (v : MarksOf) (p : Option Pending) (x : Option Noted) (a : AgesOf) (m : Move) where
  -- its row waits now, and that of the move before it was written
  row_waits : (text : Text) (ms : List Move)
      → ((text ++ head_left begun event_head) ++ waiting_event_row x (class_then p (Some m)) l)
      ++ events_still b true (marks_after v m) (Some (pending_class l v (move_of p) m)) (Some (event_noted b a l m)) (ages_then b m a) (after_move l m) ms
      ≡ text ++ events_still b begun v p x a l (m ∷ ms)
  row_waits text ms =
      let h : Text = head_left begun event_head in
      let w : Text = waiting_event_row x (class_then p (Some m)) l in
      let come : Text = events_from b (after_move l m) (marks_after v m) (ages_then b m a) (Some m) ms in
      let rest : Text = events_from b l v a (move_of p) (m ∷ ms) in
      ap (λ (c : Option Class). ((text ++ h) ++ w) ++ (class_row (event_noted b a l m) c (after_move l m) ++ come)) (class_known l v (move_of p) m (next_of ms))
      ∙ append_assoc (text ++ h) w rest ∙ append_assoc text h (w ++ rest)

  pub row_taken : (v' : MarksOf) (p' : Option Pending) (x' : Option Noted) (a' : AgesOf) (text text1 text2 : Text)
      → text1 ≡ text ++ head_left begun event_head → text2 ≡ text1 ++ waiting_event_row x (class_then p (Some m)) l
      → v' ≡ marks_after v m → p' ≡ Some (pending_class l v (move_of p) m) → x' ≡ Some (event_noted b a l m) → a' ≡ ages_then b m a → (ms : List Move)
      → text2 ++ events_still b true v' p' x' a' (after_move l m) ms ≡ text ++ events_still b begun v p x a l (m ∷ ms)
  row_taken v' p' x' a' text text1 text2 e1 e2 ev ep ex ea ms =
      let l' : FrameLife = after_move l m in
      let w : Text = waiting_event_row x (class_then p (Some m)) l in
      let told : Text = (text ++ head_left begun event_head) ++ w in
      ap (λ t. t ++ events_still b true v' p' x' a' l' ms) (e2 ∙ ap (λ t. t ++ w) e1)
      ∙ ap (λ (u : MarksOf). told ++ events_still b true u p' x' a' l' ms) ev
      ∙ ap (λ (q : Option Pending). told ++ events_still b true (marks_after v m) q x' a' l' ms) ep
      ∙ ap (λ (y : Option Noted). told ++ events_still b true (marks_after v m) (Some (pending_class l v (move_of p) m)) y a' l' ms) ex
      ∙ ap (λ (o : AgesOf). told ++ events_still b true (marks_after v m) (Some (pending_class l v (move_of p) m)) (Some (event_noted b a l m)) o l' ms) ea
      ∙ row_waits text ms

-- no move comes
pub row_last : (b : Beside) (begun : Bool) (v : MarksOf) (p : Option Pending) (x : Option Noted) (a : AgesOf) (l : FrameLife) (text text1 text2 : Text)
    → text1 ≡ text ++ head_left begun event_head → text2 ≡ text1 ++ waiting_event_row x (class_then p None) l → text2 ≡ text ++ events_still b begun v p x a l []
row_last b begun v p x a l text text1 text2 e1 e2 =
    let h : Text = head_left begun event_head in
    let w : Text = waiting_event_row x (class_then p None) l in
    e2 ∙ ap (λ t. t ++ w) e1 ∙ append_assoc text h w ∙ ap (λ t. text ++ (h ++ t)) (sym (append_nil w))

-- nothing was told
pub row_first : (b : Beside) (v : MarksOf) (p : Option Pending) (a : AgesOf) → v ≡ no_marks → p ≡ None → a ≡ no_ages_known
    → (ms : List Move) → events_still b false v p None a unstarted ms ≡ event_head ++ events_from b unstarted no_marks no_ages_known None ms
row_first b v p a ev ep ea ms =
    ap (λ (q : Option Pending). events_still b false v q None a unstarted ms) ep
    ∙ ap (λ (u : MarksOf). event_head ++ events_from b unstarted u a None ms) ev
    ∙ ap (λ (o : AgesOf). event_head ++ events_from b unstarted no_marks o None ms) ea
