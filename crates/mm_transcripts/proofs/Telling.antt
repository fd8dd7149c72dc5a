-- The transcript that is still to come, where one more move was taken.
use Rattle.std.proofs.Common.{◌≡◌, ℕ, Bool, List, [], ◌∷◌, ◌++◌, Option, Some, None, sym, ap, ◌∙◌, append_assoc}
use Rattle.mm_types.specs.{Text, Move}
use Rattle.mm_move_rules.specs.{FrameLife, unstarted, after_move}
use Rattle.mm_move_classes.specs.{MarksOf, no_marks, marks_after, class_of, next_of, Class}
use Rattle.mm_sentences.specs.declared.facts.Facts.{Facts}
use Rattle.mm_sentences.specs.{facts_of}
use Rattle.mm_transcripts.specs.{AgesOf, no_ages_known, Reason, row_unless_folded, first_then, first_behind, ending_text, ages_then, reason_then, transcript_rows_from}
use Rattle.mm_transcripts.specs.{classed_row, rows_rest, unwritten_before, unwritten_end, writes_left}
use Rattle.mm_log_walk.specs.{Beside, pending_class, class_then, move_of, Pending}
use Rattle.mm_log_walk.proofs.{class_known}

module _ (b : Beside) (whole : Bool) (l : FrameLife) (v : MarksOf) (p : Option Pending) (f : Option Move) (x : Facts) (r : Option Reason) (a : AgesOf) (w : ℕ) (m : Move) where
  -- the first of the moves whose rows are one with that of this move
  abbrev pub first_now : Option Move
  first_now = first_behind (class_then p (Some m)) (Some m) f

  -- the row of the move before it
  abbrev pub row_now : Text
  row_now = classed_row b f (Some m) (class_then p (Some m)) x r l

  -- its own row and those behind, where its class is this one
  abbrev pub rows_behind : List Move → Option Class → Text
  rows_behind ms c =
      row_unless_folded b first_now (next_of ms) m c (facts_of l m) (reason_then b a l m) (after_move l m)
      ++ transcript_rows_from b whole (after_move l m) (marks_after v m) (ages_then b m a) (writes_left b.script w m) (Some m) (first_then c m (next_of ms) first_now) ms

  -- its row waits now, and what stands before it was written
  row_waits : (text : Text) (ms : List Move)
      → ((text ++ row_now) ++ unwritten_before w l m)
      ++ rows_rest b whole (marks_after v m) (Some (pending_class l v (move_of p) m)) first_now (facts_of l m) (reason_then b a l m) (ages_then b m a) (writes_left b.script w m) (after_move l m) ms
      ≡ text ++ rows_rest b whole v p f x r a w l (m ∷ ms)
  row_waits text ms =
      let next : Option Move = next_of ms in
      ap (λ (c : Option Class). ((text ++ row_now) ++ unwritten_before w l m) ++ rows_behind ms c) (class_known l v (move_of p) m next)
      ∙ append_assoc (text ++ row_now) (unwritten_before w l m) (rows_behind ms (class_of l v (move_of p) m next))
      ∙ append_assoc text row_now (transcript_rows_from b whole l v a w (move_of p) first_now (m ∷ ms))

  pub row_taken : (v' : MarksOf) (p' : Option Pending) (f' : Option Move) (x' : Facts) (r' : Option Reason) (a' : AgesOf) (w' : ℕ) (text row done : Text)
      → row ≡ text ++ row_now → done ≡ row ++ unwritten_before w l m → v' ≡ marks_after v m → p' ≡ Some (pending_class l v (move_of p) m) → f' ≡ first_now
      → x' ≡ facts_of l m → r' ≡ reason_then b a l m → a' ≡ ages_then b m a → w' ≡ writes_left b.script w m → (ms : List Move)
      → done ++ rows_rest b whole v' p' f' x' r' a' w' (after_move l m) ms ≡ text ++ rows_rest b whole v p f x r a w l (m ∷ ms)
  row_taken v' p' f' x' r' a' w' text row done et eu ev ep ef ex er ea ew ms =
      let l' : FrameLife = after_move l m in
      let told : Text = (text ++ row_now) ++ unwritten_before w l m in
      ap (λ t. t ++ rows_rest b whole v' p' f' x' r' a' w' l' ms) (eu ∙ ap (λ t. t ++ unwritten_before w l m) et)
      ∙ ap (λ (u : MarksOf). told ++ rows_rest b whole u p' f' x' r' a' w' l' ms) ev
      ∙ ap (λ (q : Option Pending). told ++ rows_rest b whole (marks_after v m) q f' x' r' a' w' l' ms) ep
      ∙ ap (λ (g : Option Move). told ++ rows_rest b whole (marks_after v m) (Some (pending_class l v (move_of p) m)) g x' r' a' w' l' ms) ef
      ∙ ap (λ (y : Facts). told ++ rows_rest b whole (marks_after v m) (Some (pending_class l v (move_of p) m)) first_now y r' a' w' l' ms) ex
      ∙ ap (λ (s : Option Reason). told ++ rows_rest b whole (marks_after v m) (Some (pending_class l v (move_of p) m)) first_now (facts_of l m) s a' w' l' ms) er
      ∙ ap (λ (o : AgesOf). told ++ rows_rest b whole (marks_after v m) (Some (pending_class l v (move_of p) m)) first_now (facts_of l m) (reason_then b a l m) o w' l' ms) ea
      ∙ ap (λ (n : ℕ). told ++ rows_rest b whole (marks_after v m) (Some (pending_class l v (move_of p) m)) first_now (facts_of l m) (reason_then b a l m) (ages_then b m a) n l' ms) ew
      ∙ row_waits text ms

-- no move comes
pub row_last : (b : Beside) (whole : Bool) (v : MarksOf) (p : Option Pending) (f : Option Move) (x : Facts) (r : Option Reason) (a : AgesOf) (w : ℕ) (l : FrameLife) (text row left done : Text)
    → row ≡ text ++ classed_row b f None (class_then p None) x r l → left ≡ row ++ unwritten_end whole w l → done ≡ left ++ ending_text b whole l.line
    → done ≡ text ++ rows_rest b whole v p f x r a w l []
row_last b whole v p f x r a w l text row left done e u end =
    let told : Text = classed_row b f None (class_then p None) x r l in
    end ∙ ap (λ t. t ++ ending_text b whole l.line) (u ∙ ap (λ t. t ++ unwritten_end whole w l) e)
    ∙ append_assoc (text ++ told) (unwritten_end whole w l) (ending_text b whole l.line)
    ∙ append_assoc text told (unwritten_end whole w l ++ ending_text b whole l.line)

-- nothing was told
pub row_first : (b : Beside) (whole : Bool) (v : MarksOf) (p : Option Pending) (f : Option Move) (x : Facts) (r : Option Reason) (a : AgesOf) (w : ℕ) → v ≡ no_marks → p ≡ None → f ≡ None → a ≡ no_ages_known → w ≡ 0
    → (ms : List Move) → rows_rest b whole v p f x r a w unstarted ms ≡ transcript_rows_from b whole unstarted no_marks no_ages_known 0 None None ms
row_first b whole v p f x r a w ev ep ef ea ew ms =
    ap (λ (q : Option Pending). rows_rest b whole v q f x r a w unstarted ms) ep
    ∙ ap (λ (u : MarksOf). transcript_rows_from b whole unstarted u a w None None ms) ev
    ∙ ap (λ (o : AgesOf). transcript_rows_from b whole unstarted no_marks o w None None ms) ea
    ∙ ap (λ (n : ℕ). transcript_rows_from b whole unstarted no_marks no_ages_known n None None ms) ew
