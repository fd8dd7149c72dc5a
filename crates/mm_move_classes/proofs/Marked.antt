-- The marks of frames, as they are set one by one.
use Rattle.std.proofs.Common.{◌≡◌, ℕ, zero, suc, ◌+◌, ◌≤◌, ◌<◌, false, List, [], ◌∷◌, ◌++◌, replicate, refl, ◌∙◌, arith}
use Rattle.std.specs.Prelude.{◌==◌}
use Rattle.mm_move_classes.specs.{FrameMark, AreMarkedBefore, marks_in, mark_at, unmarked, no_marks}

-- room behind the marks shows no mark
unmarked_behind : (n f : ℕ) → mark_at (replicate n unmarked) f ≡ unmarked
unmarked_behind zero f = refl
unmarked_behind (suc n) zero = refl
unmarked_behind (suc n) (suc f) = unmarked_behind n f

pub marks_reached : (xs : List FrameMark) (n f : ℕ) → mark_at (xs ++ replicate n unmarked) f ≡ mark_at xs f
marks_reached [] n f = unmarked_behind n f
marks_reached (x ∷ xs) n zero = refl
marks_reached (x ∷ xs) n (suc f) = marks_reached xs n f

-- ---- one mark is set

-- ---- frames that are brought in

-- ---- a page that is made valid

-- ---- a line begins

none_marked : (g : ℕ) → ((mark_at [] g).line == 1) ≡ false
none_marked g = refl

pub new_marks : marks_in 1 [] ≡ no_marks
new_marks = λ i. record { fresh = λ g. none_marked g i; arrived = λ g. false }

pub new_earlier : AreMarkedBefore 1 []
new_earlier = record { begun = omega arith; earlier = λ g. omega arith }

pub ruleset marked = (marks_reached, new_marks, new_earlier)
