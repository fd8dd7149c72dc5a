-- The numbers of classes against the counts of a log.
use Rattle.std.proofs.Common.{◌≡◌, ℕ, ◌+◌, Bool, true, false, cond, List, [], ◌∷◌, Option, Some, None, refl, ap, ◌∙◌, arith}
use Rattle.std.proofs.lemmas.List.Sums.{sum_by-cons}
use Rattle.std.specs.Prelude.{◌&&◌, ◌||◌, ◌==◌, not, count_by, option_map}
use Rattle.mm_types.specs.{Move}
use Rattle.mm_types.specs.declared.moves.Move.TheVariants as move
use Rattle.mm_move_rules.specs.{record_at, is_on, FrameLife, unstarted, after_move, is_give, is_read_in, is_steal, is_wrote, brought_in, soft_fault}
use Rattle.mm_move_rules.specs.{soft_faults_from, counts_of_log}
use Rattle.mm_move_classes.specs.{MarksOf, marks_after, no_marks, class_of, classes_from, classes, class_of_soft, next_of, MoveWord, Give, Read, Map, Steal}
use Rattle.mm_move_classes.specs.{Wrote, word_of, word_of_move, is_class, class_count, CountsAgree, Class}
use Rattle.mm_move_classes.specs.declared.classes.Class.TheVariants as class
use Rattle.mm_move_classes.proofs.Fits.{word_fits, of_two, of_soft}

abbrev one : Bool → ℕ
one b = cond b 1 0

abbrev gives : Option MoveWord → Bool
gives (Some Give) = true
gives _ = false

abbrev reads : Option MoveWord → Bool
reads (Some Read) = true
reads _ = false

abbrev steals : Option MoveWord → Bool
steals (Some Steal) = true
steals _ = false

abbrev writes : Option MoveWord → Bool
writes (Some Wrote) = true
writes _ = false

abbrev maps : Option MoveWord → Bool
maps (Some Map) = true
maps _ = false

-- ---- each class counts in one sum, or in none

given : (o : Option Class) → one (is_class class.DemandZeroFault o) + one (is_class class.FrameForCopy o) ≡ one (gives (option_map word_of o))
given (Some class.DemandZeroFault) = refl
given o = refl

was_read : (o : Option Class) → one (is_class class.HardFaultFromPagingFile o) + one (is_class class.HardFaultFromFile o) ≡ one (reads (option_map word_of o))
was_read (Some class.HardFaultFromFile) = refl
was_read o = refl

stolen : (o : Option Class) → one (is_class class.StandbyRepurposed o) ≡ one (steals (option_map word_of o))
stolen (Some class.StandbyRepurposed) = refl
stolen o = refl

written : (o : Option Class) → one (is_class class.WriteDone o) + one (is_class class.WriteDoneChanged o) + one (is_class class.WriteDoneDeleted o) ≡ one (writes (option_map word_of o))
written (Some class.WriteDone) = refl
written o = refl

abbrev is_found : Option Class → Bool
is_found o = maps (option_map word_of o) && not (is_class class.MadeValid o)

was_found : (o : Option Class) → one (is_class class.FirstUse o) + one (is_class class.SoftFaultFromStandby o) + one (is_class class.SoftFaultFromModified o) + one (is_class class.SoftFaultInTransition o) + one (is_class class.SoftFaultShared o) ≡ one (is_found o)
was_found (Some class.FirstUse) = refl
was_found o = refl

-- ---- by the words of the moves

give_word : (m : Move) → gives (word_of_move m) ≡ is_give m
give_word (move.Give f k) = refl
give_word _ = refl

read_word : (m : Move) → reads (word_of_move m) ≡ is_read_in m
read_word (move.Read f k) = refl
read_word _ = refl

steal_word : (m : Move) → steals (word_of_move m) ≡ is_steal m
steal_word (move.Steal f) = refl
steal_word _ = refl

wrote_word : (m : Move) → writes (word_of_move m) ≡ is_wrote m
wrote_word (move.Wrote f) = refl
wrote_word _ = refl

module _ (l : FrameLife) (v : MarksOf) (before : Option Move) (m : Move) (after : Option Move) where
  gave : one (is_class class.DemandZeroFault (class_of l v before m after)) + one (is_class class.FrameForCopy (class_of l v before m after)) ≡ one (is_give m)
  gave = given (class_of l v before m after) ∙ ap (λ (w : Option MoveWord). one (gives w)) (word_fits l v before m after) ∙ ap one (give_word m)

  read_in : one (is_class class.HardFaultFromPagingFile (class_of l v before m after)) + one (is_class class.HardFaultFromFile (class_of l v before m after)) ≡ one (is_read_in m)
  read_in = was_read (class_of l v before m after) ∙ ap (λ (w : Option MoveWord). one (reads w)) (word_fits l v before m after) ∙ ap one (read_word m)

  stole : one (is_class class.StandbyRepurposed (class_of l v before m after)) ≡ one (is_steal m)
  stole = stolen (class_of l v before m after) ∙ ap (λ (w : Option MoveWord). one (steals w)) (word_fits l v before m after) ∙ ap one (steal_word m)

  wrote : one (is_class class.WriteDone (class_of l v before m after)) + one (is_class class.WriteDoneChanged (class_of l v before m after)) + one (is_class class.WriteDoneDeleted (class_of l v before m after)) ≡ one (is_wrote m)
  wrote = written (class_of l v before m after) ∙ ap (λ (w : Option MoveWord). one (writes w)) (word_fits l v before m after) ∙ ap one (wrote_word m)

-- ---- soft faults

-- the frames in the list are the fresh ones
abbrev AreFresh : MarksOf → List ℕ → Type 0
AreFresh v frames = (f : ℕ) → v.fresh f ≡ is_on f frames

one_more : (a b c : Bool) → b ≡ c → cond a true b ≡ (a || c)
one_more true b c e = refl
one_more false b c e = e

stay_fresh : (v : MarksOf) (frames : List ℕ) (m : Move) → AreFresh v frames → AreFresh (marks_after v m) (brought_in frames m)
stay_fresh v frames (move.At n k) h f = refl
stay_fresh v frames (move.Give g k) h f = one_more (g.0 == f) (v.fresh f) (is_on f frames) (h f)
stay_fresh v frames (move.Got g) h f = one_more (g.0 == f) (v.fresh f) (is_on f frames) (h f)
stay_fresh v frames _ h f = h f

first_use : (arrived : Bool) (c : Class) → is_class class.MadeValid (Some c) ≡ false → is_class class.MadeValid (Some (cond arrived class.FirstUse c)) ≡ false
first_use a c e = of_two (λ (d : Class). is_class class.MadeValid (Some d)) false a class.FirstUse c refl e

mapped : (fresh on : Bool) (c : Class) → fresh ≡ on → is_class class.MadeValid (Some c) ≡ false → one (not (is_class class.MadeValid (Some (cond fresh class.MadeValid c)))) ≡ cond on 0 1
mapped true true c e n = refl
mapped false false c e n = ap (λ (b : Bool). one (not b)) n
mapped true false c e n = cc
mapped false true c e n = cc

found_as : (l : FrameLife) (v : MarksOf) (before : Option Move) (m : Move) (after : Option Move) (frames : List ℕ) → AreFresh v frames
    → one (maps (word_of_move m) && not (is_class class.MadeValid (class_of l v before m after))) ≡ soft_fault frames m
found_as l v before (move.Map f p) after frames h =
    mapped (v.fresh f.0) (is_on f.0 frames) _ (h f.0)
    (first_use (v.arrived f.0) (class_of_soft l f.0 (record_at l.frames f.0))
    (of_soft (λ (d : Class). is_class class.MadeValid (Some d)) false refl refl refl refl l f.0 (record_at l.frames f.0)))
found_as l v before _ after frames h = refl

found : (l : FrameLife) (v : MarksOf) (before : Option Move) (m : Move) (after : Option Move) (frames : List ℕ) → AreFresh v frames
    → one (is_found (class_of l v before m after)) ≡ soft_fault frames m
found l v before m after frames h =
    ap (λ (w : Option MoveWord). one (maps w && not (is_class class.MadeValid (class_of l v before m after)))) (word_fits l v before m after)
    ∙ found_as l v before m after frames h

-- ---- the sums of a log, move by move

count_cons : {A : Type 0} (p : A → Bool) (x : A) (xs : List A) → count_by p (x ∷ xs) ≡ one (p x) + count_by p xs
count_cons p x xs = sum_by-cons (λ y. one (p y)) x xs

one_step : (p : Option Class → Bool) (r : Move → Bool) (o : Option Class) (os : List (Option Class)) (m : Move) (ms : List Move) → one (p o) ≡ one (r m)
    → count_by p os ≡ count_by r ms → count_by p (o ∷ os) ≡ count_by r (m ∷ ms)
one_step p r o os m ms here later = omega (arith, here, later, count_cons p o os, count_cons r m ms)

two_step : (p q : Option Class → Bool) (r : Move → Bool) (o : Option Class) (os : List (Option Class)) (m : Move) (ms : List Move) → one (p o) + one (q o) ≡ one (r m)
    → count_by p os + count_by q os ≡ count_by r ms → count_by p (o ∷ os) + count_by q (o ∷ os) ≡ count_by r (m ∷ ms)
two_step p q r o os m ms here later = omega (arith, here, later, count_cons p o os, count_cons q o os, count_cons r m ms)

three_step : (p q s : Option Class → Bool) (r : Move → Bool) (o : Option Class) (os : List (Option Class)) (m : Move) (ms : List Move)
    → one (p o) + one (q o) + one (s o) ≡ one (r m) → count_by p os + count_by q os + count_by s os ≡ count_by r ms
    → count_by p (o ∷ os) + count_by q (o ∷ os) + count_by s (o ∷ os) ≡ count_by r (m ∷ ms)
three_step p q s r o os m ms here later = omega (arith, here, later, count_cons p o os, count_cons q o os, count_cons s o os, count_cons r m ms)

abbrev soft_here : Option Class → ℕ
soft_here o =
    one (is_class class.FirstUse o) + one (is_class class.SoftFaultFromStandby o) + one (is_class class.SoftFaultFromModified o) + one (is_class class.SoftFaultInTransition o)
    + one (is_class class.SoftFaultShared o)

abbrev soft_of : List (Option Class) → ℕ
soft_of cs =
    class_count class.FirstUse cs + class_count class.SoftFaultFromStandby cs + class_count class.SoftFaultFromModified cs + class_count class.SoftFaultInTransition cs
    + class_count class.SoftFaultShared cs

soft_step : (o : Option Class) (os : List (Option Class)) (here later : ℕ) → soft_here o ≡ here → soft_of os ≡ later → soft_of (o ∷ os) ≡ here + later
soft_step o os here later p q =
    omega (
      arith,
      p,
      q,
      count_cons (is_class class.FirstUse) o os,
      count_cons (is_class class.SoftFaultFromStandby) o os,
      count_cons (is_class class.SoftFaultFromModified) o os,
      count_cons (is_class class.SoftFaultInTransition) o os,
      count_cons (is_class class.SoftFaultShared) o os,
    )

zero_sum : (l : FrameLife) (v : MarksOf) (before : Option Move) (ms : List Move) → class_count class.DemandZeroFault (classes_from l v before ms) + class_count class.FrameForCopy (classes_from l v before ms) ≡ count_by is_give ms
zero_sum l v before [] = refl
zero_sum l v before (m ∷ ms) =
    two_step (is_class class.DemandZeroFault) (is_class class.FrameForCopy) is_give (class_of l v before m (next_of ms)) (classes_from (after_move l m) (marks_after v m) (Some m) ms) m ms (gave l v before m (next_of ms)) (zero_sum (after_move l m) (marks_after v m) (Some m) ms)

hard_sum : (l : FrameLife) (v : MarksOf) (before : Option Move) (ms : List Move) → class_count class.HardFaultFromPagingFile (classes_from l v before ms) + class_count class.HardFaultFromFile (classes_from l v before ms) ≡ count_by is_read_in ms
hard_sum l v before [] = refl
hard_sum l v before (m ∷ ms) =
    two_step (is_class class.HardFaultFromPagingFile) (is_class class.HardFaultFromFile) is_read_in (class_of l v before m (next_of ms)) (classes_from (after_move l m) (marks_after v m) (Some m) ms) m ms (read_in l v before m (next_of ms)) (hard_sum (after_move l m) (marks_after v m) (Some m) ms)

steal_sum : (l : FrameLife) (v : MarksOf) (before : Option Move) (ms : List Move) → class_count class.StandbyRepurposed (classes_from l v before ms) ≡ count_by is_steal ms
steal_sum l v before [] = refl
steal_sum l v before (m ∷ ms) =
    one_step (is_class class.StandbyRepurposed) is_steal (class_of l v before m (next_of ms)) (classes_from (after_move l m) (marks_after v m) (Some m) ms) m ms (stole l v before m (next_of ms)) (steal_sum (after_move l m) (marks_after v m) (Some m) ms)

write_sum : (l : FrameLife) (v : MarksOf) (before : Option Move) (ms : List Move)
    → class_count class.WriteDone (classes_from l v before ms) + class_count class.WriteDoneChanged (classes_from l v before ms) + class_count class.WriteDoneDeleted (classes_from l v before ms) ≡ count_by is_wrote ms
write_sum l v before [] = refl
write_sum l v before (m ∷ ms) =
    three_step (is_class class.WriteDone) (is_class class.WriteDoneChanged) (is_class class.WriteDoneDeleted) is_wrote (class_of l v before m (next_of ms)) (classes_from (after_move l m) (marks_after v m) (Some m) ms) m ms
    (wrote l v before m (next_of ms)) (write_sum (after_move l m) (marks_after v m) (Some m) ms)

soft_sum : (l : FrameLife) (v : MarksOf) (before : Option Move) (frames : List ℕ) (ms : List Move) → AreFresh v frames → soft_of (classes_from l v before ms) ≡ soft_faults_from frames ms
soft_sum l v before frames [] h = refl
soft_sum l v before frames (m ∷ ms) h =
    soft_step (class_of l v before m (next_of ms)) (classes_from (after_move l m) (marks_after v m) (Some m) ms) (soft_fault frames m) (soft_faults_from (brought_in frames m) ms)
    (was_found (class_of l v before m (next_of ms)) ∙ found l v before m (next_of ms) frames h)
    (soft_sum (after_move l m) (marks_after v m) (Some m) (brought_in frames m) ms (stay_fresh v frames m h))

pub agrees : (moves : List Move) → CountsAgree (classes moves) (counts_of_log moves)
agrees moves = record {
  zero_fills = zero_sum unstarted no_marks None moves;
  hard_faults = hard_sum unstarted no_marks None moves;
  soft_faults = soft_sum unstarted no_marks None [] moves (λ f. refl);
  steals = steal_sum unstarted no_marks None moves;
  write_outs = write_sum unstarted no_marks None moves;
}
