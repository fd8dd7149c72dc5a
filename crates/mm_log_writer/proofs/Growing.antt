-- A log that grows by what a sink took.
use Rattle.std.proofs.Common.{◌≡◌, ℕ, ◌≤◌, ◌<◌, Bool, true, false, List, [], ◌∷◌, ◌++◌, Option, Some, None, length, refl, sym, ap, subst, ◌∙◌, inl, inr, arith, length-append}
use Rattle.mm_types.specs.{Rose, Appended}
use Rattle.mm_types.proofs.{append_nil}
use Rattle.mm_io.specs.{IsCut, Wrote, GivesOn}
use Rattle.mm_move_rules.specs.{Log, LogGrew, Grew}
use Rattle.mm_move_rules.proofs.{gave_nothing}
use Rattle.mm_log_writer.specs.{FailsExactly}

no_more : (xs ys : List ℕ) → xs ≡ xs ++ ys → ys ≡ []
no_more xs [] e = refl
no_more xs (y ∷ ys) e = absurd (omega (arith, ap length e, length-append xs (y ∷ ys)))

told_of : (a b : Option (List ℕ)) (line text : List ℕ) (was now failed : Bool) → line ≡ text → was ≡ false → now ≡ failed → Wrote a b line failed → LogGrew a b text was now
told_of None None line text was now failed same fresh is w = tt
told_of None (Some b) line text was now failed same fresh is w = w.written
told_of (Some a) None line text was now failed same fresh is w = w.written
told_of (Some a) (Some b) line text was now failed same fresh is w = record {
  front = w.front;
  behind = w.rest;
  whole = sym same ∙ w.whole;
  written = w.written;
  all = λ h. no_more w.front w.rest (w.all (sym is ∙ h) ∙ w.whole);
  none = λ h. cc;
}

-- of a log that had not failed: a line that is this text was written, or a front of it
pub grew_line : (a b c d : Option (List ℕ)) (m n : ℕ) (line text : List ℕ) (was now failed : Bool) → line ≡ text → was ≡ false → now ≡ failed → Wrote a b line failed → GivesOn c d a b → m ≤ n → (failed ≡ true → Rose m n) → (failed ≡ false → n ≡ m)
    → Grew (record { bytes = a; given = c; failed = was; faults = m }) (record { bytes = b; given = d; failed = now; faults = n }) text
grew_line a b c d m n line text was now failed same fresh is w gives later rose stays = record {
  later = later;
  stays = λ h. cc;
  cause = λ h. inr (rose (sym is ∙ h));
  same = λ h. stays (sym is ∙ h);
  told = told_of a b line text was now failed same fresh is w;
  gave = record { grows = gives.grows; front = gives.front };
}

-- and it fails exactly where the line is cut
pub exact_line : (a b c d : Option (List ℕ)) (m n : ℕ) (line text : List ℕ) (was now failed : Bool) → line ≡ text → was ≡ false → now ≡ failed → Wrote a b line failed → (failed ≡ true → IsCut a b line)
    → FailsExactly (record { bytes = a; given = c; failed = was; faults = m }) (record { bytes = b; given = d; failed = now; faults = n }) text
exact_line a b c d m n line text was now failed same fresh is w cut = record {
  cut = λ h. subst (IsCut a b) same (cut (sym is ∙ h));
  fresh = λ h. fresh;
  whole = λ h. subst (Appended a b) (w.all (sym is ∙ h) ∙ same) w.written;
}

-- ---- after a failure nothing is written

cut_all : (a : Option (List ℕ)) (text : List ℕ) → 0 < length text → IsCut a a text
cut_all None text some = tt
cut_all (Some a) text some = omega arith

pub exact_failed : (a : Log) (text : List ℕ) → a.failed ≡ true → 0 < length text → FailsExactly a a text
exact_failed a text e some = record {
  cut = λ h. cut_all a.bytes text some;
  fresh = λ h. cc;
  whole = λ h. let bad : true ≡ false = sym e ∙ h in cc;
}

told_failed : (a : Option (List ℕ)) (text : List ℕ) → LogGrew a a text true true
told_failed None text = tt
told_failed (Some a) text = record { front = []; behind = text; whole = refl; written = sym (append_nil a); all = λ h. cc; none = λ h. refl }

pub grew_failed : (a : Log) (text : List ℕ) → a.failed ≡ true → Grew a a text
grew_failed a text e = record {
  later = omega arith;
  stays = λ h. h;
  cause = λ h. inl h;
  same = λ h. refl;
  told = subst (λ (b : Bool). LogGrew a.bytes a.bytes text b b) (sym e) (told_failed a.bytes text);
  gave = gave_nothing a;
}

pub ruleset growing = (grew_failed, exact_failed)
