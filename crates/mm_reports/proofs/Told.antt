-- What was told of a history, and what is still to come.
use Rattle.std.proofs.Common.{◌≡◌, Bool, List, ◌∷◌, ◌++◌, Option, Some, None, ap, ◌∙◌, append_assoc}
use Rattle.mm_types.specs.{Text, Move}
use Rattle.mm_move_rules.specs.{FrameLife, unstarted, after_move}
use Rattle.mm_move_classes.specs.{class_of, next_of, MarksOf, marks_after, no_marks, Class}
use Rattle.mm_log_walk.specs.{pending_class, class_then, move_of, Pending}
use Rattle.mm_log_walk.proofs.{class_known}
use Rattle.mm_csv.specs.{head_left}
use Rattle.mm_reports.specs.{history_head, history, move_row, history_row, history_rows_from, noted, waiting_row, Noted, Subject}

-- the row of a move that waited is the row of the move
row_known : (s : Subject) (l : FrameLife) (v : MarksOf) (before : Option Move) (m : Move) (next : Option Move)
    → waiting_row s (Some (noted l m)) (class_then (Some (pending_class l v before m)) next) (after_move l m) ≡ move_row s l m (class_of l v before m next) (after_move l m)
row_known s l v before m next =
    ap (λ (c : Option Class). history_row s l.line (noted l m).was c (noted l m).facts (after_move l m)) (class_known l v before m next)

-- one more move was taken
pub history_taken : (s : Subject) (begun : Bool) (waiting waiting' : Option Noted) (p p' : Option Pending) (v v' : MarksOf) (text text1 text2 : Text) (l : FrameLife) (m : Move)
    → ((ms : List Move) → text1 ≡ text ++ head_left begun (history_head s (m ∷ ms))) → text2 ≡ text1 ++ waiting_row s waiting (class_then p (Some m)) l
    → waiting' ≡ Some (noted l m) → p' ≡ Some (pending_class l v (move_of p) m) → v' ≡ marks_after v m → (whole : Bool) (ms : List Move)
    → text2 ++ (waiting_row s waiting' (class_then p' (next_of ms)) (after_move l m) ++ history_rows_from s whole (after_move l m) v' (move_of p') ms)
    ≡ text ++ (head_left begun (history_head s (m ∷ ms)) ++ (waiting_row s waiting (class_then p (Some m)) l ++ history_rows_from s whole l v (move_of p) (m ∷ ms)))
history_taken s begun waiting waiting' p p' v v' text text1 text2 l m e1 e2 w pend marks whole ms =
    let a : Text = head_left begun (history_head s (m ∷ ms)) in
    let b : Text = waiting_row s waiting (class_then p (Some m)) l in
    let come : Text = history_rows_from s whole (after_move l m) (marks_after v m) (Some m) ms in
    let c : Text = move_row s l m (class_of l v (move_of p) m (next_of ms)) (after_move l m) in
    ap (λ (x : Option Noted). text2 ++ (waiting_row s x (class_then p' (next_of ms)) (after_move l m) ++ history_rows_from s whole (after_move l m) v' (move_of p') ms)) w
    ∙ ap (λ (q : Option Pending). text2 ++ (waiting_row s (Some (noted l m)) (class_then q (next_of ms)) (after_move l m) ++ history_rows_from s whole (after_move l m) v' (move_of q) ms)) pend
    ∙ ap (λ (u : MarksOf). text2 ++ (waiting_row s (Some (noted l m)) (class_then (Some (pending_class l v (move_of p) m)) (next_of ms)) (after_move l m) ++ history_rows_from s whole (after_move l m) u (Some m) ms)) marks
    ∙ ap (λ t. text2 ++ (t ++ come)) (row_known s l v (move_of p) m (next_of ms))
    ∙ ap (λ t. t ++ (c ++ come)) (e2 ∙ ap (λ t. t ++ b) (e1 ms))
    ∙ append_assoc (text ++ a) b (c ++ come) ∙ append_assoc text a (b ++ (c ++ come))

-- nothing was told
pub history_none : (s : Subject) (p : Option Pending) (v : MarksOf) → v ≡ no_marks → p ≡ None → (whole : Bool) (moves : List Move)
    → history_head s moves ++ history_rows_from s whole unstarted v (move_of p) moves ≡ history s whole moves
history_none s p v marks pend whole moves =
    ap (λ (u : MarksOf). history_head s moves ++ history_rows_from s whole unstarted u (move_of p) moves) marks
    ∙ ap (λ (q : Option Pending). history_head s moves ++ history_rows_from s whole unstarted no_marks (move_of q) moves) pend
