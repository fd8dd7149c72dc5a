-- Numbers of classes and of kinds, where one more is counted.
use Rattle.std.proofs.Common.{◌≡◌, ℕ, zero, suc, ◌+◌, ◌<◌, ◌≤◌, Bool, true, false, cond, List, [], ◌∷◌, ◌++◌, length, get_or, set, replicate, Option, Some, None, refl, sym, ap, ◌∙◌, arith, zero-add, append_assoc, subst, get_or-set_same, get_or-set_other}
use Rattle.std.specs.Prelude.{◌==◌, slice_index, slice_set, count_by}
use Rattle.std.proofs.lemmas.List.Sums.{sum_by-cons}
use Rattle.std.proofs.lemmas.Bool.{eqb-true, eqb-false}
use Rattle.mm_types.specs.{Text, Move, LineKind}
use Rattle.mm_types.specs.declared.moves.Move.TheVariants as move
use Rattle.mm_move_rules.specs.{FrameLife, unstarted, after_move}
use Rattle.mm_move_classes.specs.{MarksOf, no_marks, marks_after, classes, is_class, class_count, kind_code, code_of, Class}
use Rattle.mm_log_walk.specs.{pending_class, class_then, move_of, class_list, classes_rest, Pending}
use Rattle.mm_show.specs.{is_kind, class_sums, kind_sums, sums_text, code_count, sums_left, of_class, of_kind, AreBounded}
use Rattle.mm_log_walk.proofs.{classes_taken}

bumped : (xs : List ℕ) (i k : ℕ) → i < length xs → get_or (set xs i (get_or xs i 0 + 1)) k 0 ≡ cond (i == k) 1 0 + get_or xs k 0
bumped xs i k h = pick (i == k) refl
  where
    pick : (b : Bool) → (i == k) ≡ b → get_or (set xs i (get_or xs i 0 + 1)) k 0 ≡ cond b 1 0 + get_or xs k 0
    pick true e =
        let same : i ≡ k = eqb-true i k e in
        subst (λ (j : ℕ). get_or (set xs i (get_or xs i 0 + 1)) j 0 ≡ 1 + get_or xs j 0) same (omega (arith, get_or-set_same xs i (get_or xs i 0 + 1) 0 h))
    pick false e = omega (arith, get_or-set_other xs i k (get_or xs i 0 + 1) 0 (λ q. eqb-false i k e (sym q)))

one_at_most : (b : Bool) → cond b 1 0 ≤ 1
one_at_most true = omega arith
one_at_most false = omega arith

pub few_more : (xs : List ℕ) (i : ℕ) → i < length xs → (k : ℕ) → slice_index (slice_set xs i (slice_index xs i + 1)) k ≤ slice_index xs k + 1
few_more xs i h k = omega (arith, bumped xs i k h, one_at_most (i == k))

pub class_more : (xs : List ℕ) (d : Class) → code_of d < length xs → (cs : List (Option Class)) (c : Class)
    → of_class (slice_set xs (code_of d) (slice_index xs (code_of d) + 1)) cs c ≡ of_class xs (Some d ∷ cs) c
class_more xs d h cs c = omega (arith, bumped xs (code_of d) (code_of c) h, sum_by-cons (λ x. cond (is_class c x) 1 0) (Some d) cs)

pub class_none : (xs : List ℕ) (cs : List (Option Class)) (c : Class) → of_class xs cs c ≡ of_class xs (None ∷ cs) c
class_none xs cs c = omega (arith, sum_by-cons (λ x. cond (is_class c x) 1 0) None cs)

pub kind_more : (xs : List ℕ) (n : ℕ) (kd : LineKind) → kind_code kd < length xs → (ms : List Move) (k : ℕ)
    → of_kind (slice_set xs (kind_code kd) (slice_index xs (kind_code kd) + 1)) ms k ≡ of_kind xs (move.At n kd ∷ ms) k
kind_more xs n kd h ms k = omega (arith, bumped xs (kind_code kd) k h, sum_by-cons (λ x. cond (is_kind k x) 1 0) (move.At n kd) ms)

-- one more move was taken
pub sums_taken : (classes' classes0 kinds' kinds0 : List ℕ) (l : FrameLife) (v : MarksOf) (p : Option Pending) (m : Move)
    → ((cs : List (Option Class)) (c : Class) → of_class classes' cs c ≡ of_class classes0 (class_list (class_then p (Some m)) ++ cs) c)
    → ((ms : List Move) (k : ℕ) → of_kind kinds' ms k ≡ of_kind kinds0 (m ∷ ms) k) → (ms : List Move)
    → class_sums (of_class classes' (classes_rest (marks_after v m) (Some (pending_class l v (move_of p) m)) (after_move l m) ms)) ++ kind_sums (of_kind kinds' ms)
    ≡ class_sums (of_class classes0 (classes_rest v p l (m ∷ ms))) ++ kind_sums (of_kind kinds0 (m ∷ ms))
sums_taken classes' classes0 kinds' kinds0 l v p m byclass bykind ms =
    let come = classes_rest (marks_after v m) (Some (pending_class l v (move_of p) m)) (after_move l m) ms in
    let f : of_class classes' come ≡ of_class classes0 (classes_rest v p l (m ∷ ms)) =
    λ i. λ c. (byclass come c ∙ ap (λ (cs : List (Option Class)). of_class classes0 cs c) (classes_taken l v p m ms)) i in
    let g : of_kind kinds' ms ≡ of_kind kinds0 (m ∷ ms) = λ i. λ k. bykind ms k i in
    ap (λ (h : Class → ℕ). class_sums h ++ kind_sums (of_kind kinds' ms)) f
    ∙ ap (λ (h : ℕ → ℕ). class_sums (of_class classes0 (classes_rest v p l (m ∷ ms))) ++ kind_sums h) g

-- nothing was counted
none_yet : (n k : ℕ) → slice_index (replicate n 0) k ≡ 0
none_yet zero k = refl
none_yet (suc n) zero = refl
none_yet (suc n) (suc k) = none_yet n k

-- no move comes
same_number : (xs : List ℕ) (c : Class) → code_count xs c ≡ of_class xs [] c
same_number xs c = omega arith

same_kind : (xs : List ℕ) (k : ℕ) → slice_index xs k ≡ of_kind xs [] k
same_kind xs k = omega arith

pub sums_ended : (classes' classes0 kinds0 : List ℕ) (l : FrameLife) (v : MarksOf) (p : Option Pending)
    → ((cs : List (Option Class)) (c : Class) → of_class classes' cs c ≡ of_class classes0 (class_list (class_then p None) ++ cs) c)
    → class_sums (code_count classes') ≡ class_sums (of_class classes0 (classes_rest v p l []))
sums_ended classes' classes0 kinds0 l v p byclass =
    let f : code_count classes' ≡ of_class classes0 (classes_rest v p l []) = λ i. λ c. (same_number classes' c ∙ byclass [] c) i in
    ap class_sums f

kinds_ended : (kinds0 : List ℕ) → kind_sums (slice_index kinds0) ≡ kind_sums (of_kind kinds0 [])
kinds_ended kinds0 =
    let f : slice_index kinds0 ≡ of_kind kinds0 [] = λ i. λ k. same_kind kinds0 k i in
    ap kind_sums f

pub few_none : (xs ys : List ℕ) → xs ≡ replicate 256 0 → ys ≡ replicate 256 0 → AreBounded xs ys 0
few_none xs ys e f = record {
  classes_few = λ k. omega (arith, ap (λ (zs : List ℕ). slice_index zs k) e, none_yet 256 k);
  kinds_few = λ k. omega (arith, ap (λ (zs : List ℕ). slice_index zs k) f, none_yet 256 k);
  few = omega arith;
}

pub sums_none : (moves : List Move) → class_sums (of_class (replicate 256 0) (classes_rest no_marks None unstarted moves)) ++ kind_sums (of_kind (replicate 256 0) moves) ≡ sums_text moves
sums_none moves =
    let f : of_class (replicate 256 0) (classes_rest no_marks None unstarted moves) ≡ (λ c. class_count c (classes moves)) =
    λ i. λ c. (ap (λ (n : ℕ). n + class_count c (classes moves)) (none_yet 256 (code_of c)) ∙ zero-add (class_count c (classes moves))) i in
    let g : of_kind (replicate 256 0) moves ≡ (λ k. count_by (is_kind k) moves) =
    λ i. λ k. (ap (λ (n : ℕ). n + count_by (is_kind k) moves) (none_yet 256 k) ∙ zero-add (count_by (is_kind k) moves)) i in
    ap (λ (h : Class → ℕ). class_sums h ++ kind_sums (of_kind (replicate 256 0) moves)) f
    ∙ ap (λ (h : ℕ → ℕ). class_sums (λ c. class_count c (classes moves)) ++ kind_sums h) g

-- one more move was taken by the teller
pub sum_taken : (classes0 classes' kinds0 kinds' : List ℕ) (v v' : MarksOf) (p p' : Option Pending) (l : FrameLife) (m : Move)
    → ((cs : List (Option Class)) (c : Class) → of_class classes' cs c ≡ of_class classes0 (class_list (class_then p (Some m)) ++ cs) c)
    → ((ms : List Move) (k : ℕ) → of_kind kinds' ms k ≡ of_kind kinds0 (m ∷ ms) k)
    → v' ≡ marks_after v m → p' ≡ Some (pending_class l v (move_of p) m)
    → (whole : Bool) (ms : List Move) → sums_left classes' kinds' v' p' whole (after_move l m) ms ≡ sums_left classes0 kinds0 v p whole l (m ∷ ms)
sum_taken classes0 classes' kinds0 kinds' v v' p p' l m byclass bykind marks pend false ms = refl
sum_taken classes0 classes' kinds0 kinds' v v' p p' l m byclass bykind marks pend true ms =
    ap (λ (w : MarksOf). class_sums (of_class classes' (classes_rest w p' (after_move l m) ms)) ++ kind_sums (of_kind kinds' ms)) marks
    ∙ ap (λ (q : Option Pending). class_sums (of_class classes' (classes_rest (marks_after v m) q (after_move l m) ms)) ++ kind_sums (of_kind kinds' ms)) pend
    ∙ sums_taken classes' classes0 kinds' kinds0 l v p m byclass bykind ms

-- no move comes
pub sum_ended : (classes0 kinds0 : List ℕ) (v : MarksOf) (p : Option Pending) (l : FrameLife) (classes' : List ℕ) (text text1 text2 : Text)
    → ((cs : List (Option Class)) (c : Class) → of_class classes' cs c ≡ of_class classes0 (class_list (class_then p None) ++ cs) c)
    → text1 ≡ text ++ class_sums (code_count classes') → text2 ≡ text1 ++ kind_sums (slice_index kinds0) → text2 ≡ text ++ sums_left classes0 kinds0 v p true l []
sum_ended classes0 kinds0 v p l classes' text text1 text2 byclass e1 e2 =
    let b : Text = kind_sums (of_kind kinds0 []) in
    e2 ∙ ap (λ xs. text1 ++ xs) (kinds_ended kinds0) ∙ ap (λ xs. xs ++ b) e1 ∙ append_assoc text (class_sums (code_count classes')) b
    ∙ ap (λ xs. text ++ (xs ++ b)) (sums_ended classes' classes0 kinds0 l v p byclass)

pub sum_none : (classes0 kinds0 : List ℕ) (v : MarksOf) (p : Option Pending) → classes0 ≡ replicate 256 0 → kinds0 ≡ replicate 256 0 → v ≡ no_marks → p ≡ None
    → (moves : List Move) → sums_left classes0 kinds0 v p true unstarted moves ≡ sums_text moves
sum_none classes0 kinds0 v p c k marks pend moves =
    ap (λ (xs : List ℕ). class_sums (of_class xs (classes_rest v p unstarted moves)) ++ kind_sums (of_kind kinds0 moves)) c
    ∙ ap (λ (xs : List ℕ). class_sums (of_class (replicate 256 0) (classes_rest v p unstarted moves)) ++ kind_sums (of_kind xs moves)) k
    ∙ ap (λ (w : MarksOf). class_sums (of_class (replicate 256 0) (classes_rest w p unstarted moves)) ++ kind_sums (of_kind (replicate 256 0) moves)) marks
    ∙ ap (λ (q : Option Pending). class_sums (of_class (replicate 256 0) (classes_rest no_marks q unstarted moves)) ++ kind_sums (of_kind (replicate 256 0) moves)) pend
    ∙ sums_none moves

pub ruleset summed = (few_more, class_more, class_none, kind_more)
