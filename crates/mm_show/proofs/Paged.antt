-- The page that is still to come, where one more move was taken and where none comes.
use Rattle.std.proofs.Common.{◌≡◌, Bool, true, false, List, [], ◌∷◌, ◌++◌, Option, Some, refl, sym, ap, ◌∙◌, append_assoc}
use Rattle.mm_types.specs.{Text, Move}
use Rattle.mm_move_rules.specs.{FrameLife, after_move}
use Rattle.mm_move_classes.specs.{MarksOf, marks_after, marks_of, class_of, next_of, Class, move_data, data_from, mark_before}
use Rattle.mm_log_walk.specs.{pending_class, class_then, move_of, Pending}
use Rattle.mm_show.specs.{classed_data, data_rest, page_rest, PageTeller}
use Rattle.mm_log_walk.proofs.{class_known}

-- the data that comes
module _ (l : FrameLife) (v : MarksOf) (p : Option Pending) (m : Move) where
  data_taken : (known behind : Text) (ms : List Move)
      → ((known ++ classed_data (class_then p (Some m))) ++ mark_before l m) ++ (data_rest (marks_after v m) (Some (pending_class l v (move_of p) m)) (after_move l m) ms ++ behind)
      ≡ known ++ (data_rest v p l (m ∷ ms) ++ behind)
  data_taken known behind ms =
      let a : Text = classed_data (class_then p (Some m)) in
      let b : Text = mark_before l m in
      let d : Text = data_from (after_move l m) (marks_after v m) (Some m) ms in
      let y : Text = move_data (class_of l v (move_of p) m (next_of ms)) m ++ d in
      ap (λ (c : Option Class). ((known ++ a) ++ b) ++ ((move_data c m ++ d) ++ behind)) (class_known l v (move_of p) m (next_of ms))
      ∙ append_assoc (known ++ a) b (y ++ behind)
      ∙ append_assoc known a (b ++ (y ++ behind))
      ∙ ap (λ xs. known ++ xs) (sym (append_assoc a (b ++ y) behind ∙ ap (λ xs. a ++ xs) (append_assoc b y behind)))

data_moved : (known known' behind : Text) (l : FrameLife) (v v' : MarksOf) (p p' : Option Pending) (m : Move) → known' ≡ (known ++ classed_data (class_then p (Some m))) ++ mark_before l m
    → v' ≡ marks_after v m → p' ≡ Some (pending_class l v (move_of p) m) → (ms : List Move)
    → known' ++ (data_rest v' p' (after_move l m) ms ++ behind) ≡ known ++ (data_rest v p l (m ∷ ms) ++ behind)
data_moved known known' behind l v v' p p' m e marks pend ms =
    ap (λ xs. xs ++ (data_rest v' p' (after_move l m) ms ++ behind)) e
    ∙ ap (λ (w : MarksOf). ((known ++ classed_data (class_then p (Some m))) ++ mark_before l m) ++ (data_rest w p' (after_move l m) ms ++ behind)) marks
    ∙ ap (λ (q : Option Pending). ((known ++ classed_data (class_then p (Some m))) ++ mark_before l m) ++ (data_rest (marks_after v m) q (after_move l m) ms ++ behind)) pend
    ∙ data_taken l v p m known behind ms

-- one more move was taken
pub page_taken : (t t' : PageTeller) (l : FrameLife) (m : Move) → t'.front.items ≡ t.front.items → t'.behind.items ≡ t.behind.items
    → t'.written.items ≡ (t.written.items ++ classed_data (class_then t.classifier.pending (Some m))) ++ mark_before l m
    → marks_of t'.classifier.marks ≡ marks_after (marks_of t.classifier.marks) m
    → t'.classifier.pending ≡ Some (pending_class l (marks_of t.classifier.marks) (move_of t.classifier.pending) m)
    → (whole : Bool) (ms : List Move) → page_rest t' whole (after_move l m) ms ≡ page_rest t whole l (m ∷ ms)
page_taken t t' l m front behind known marks pend false ms = refl
page_taken t t' l m front behind known marks pend true ms =
    let come : Text = data_rest (marks_of t'.classifier.marks) t'.classifier.pending (after_move l m) ms in
    ap (λ xs. xs ++ (t'.written.items ++ (come ++ t'.behind.items))) front
    ∙ ap (λ xs. t.front.items ++ (t'.written.items ++ (come ++ xs))) behind
    ∙ ap (λ xs. t.front.items ++ xs)
    (data_moved t.written.items t'.written.items t.behind.items l (marks_of t.classifier.marks) (marks_of t'.classifier.marks) t.classifier.pending t'.classifier.pending m known marks pend ms)
