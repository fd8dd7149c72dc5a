-- Texts that were written, one behind the other.
use Rattle.std.specs.Prelude.{Result, Ok, Err, MatchResult, OnOk}
use Rattle.std.proofs.Common.{◌≡◌, Bool, false, [], ◌++◌, Option, refl, sym, ap, subst, ◌∙◌, append_assoc}
use Rattle.mm_types.specs.{Appended, Text}
use Rattle.mm_types.proofs.{append_nil, appended_then}
use Rattle.mm_io.specs.{Wrote}
use Rattle.mm_run.specs.{TornText}

pub wrote_whole : (a b : Option Text) (text : Text) → Wrote a b text false → Appended a b text
wrote_whole a b text w = subst (λ (t : Text). Appended a b t) (w.all refl) w.written

pub wrote_torn : (a b : Option Text) (text : Text) (failed : Bool) → Wrote a b text failed → TornText a b text
wrote_torn a b text failed w = record { front = w.front; back = w.rest; whole = w.whole; wrote = w.written }

module _ (a b : Option Text) (s t : Text) where
  pub torn_before : TornText a b s → TornText a b (s ++ t)
  torn_before u = record { front = u.front; back = u.back ++ t; whole = ap (λ xs. xs ++ t) u.whole ∙ append_assoc u.front u.back t; wrote = u.wrote }

module _ (a b c : Option Text) (s t : Text) (u : Appended a b s) where
  pub both_whole : Wrote b c t false → Appended a c (s ++ t)
  both_whole w = appended_then a b c s t u (wrote_whole b c t w)

  pub torn_behind : (failed : Bool) → Wrote b c t failed → TornText a c (s ++ t)
  torn_behind failed w = record {
    front = s ++ w.front;
    back = w.rest;
    whole = ap (λ xs. s ++ xs) w.whole ∙ sym (append_assoc s w.front w.rest);
    wrote = appended_then a b c s w.front u w.written;
  }

-- and given on, as far as the sink did not fail
pub flushed_either : {T E : Type 0} (r : Result T E) (a b c given : Option Text) (text : Text) → Appended a b text → c ≡ b → OnOk r (given ≡ c)
    → MatchResult r (λ _. Appended a c text × (given ≡ c)) (λ _. TornText a c text)
flushed_either (Ok x) a b c given text u same all = (subst (λ (t : Option Text). Appended a t text) (sym same) u, all)
flushed_either (Err e) a b c given text u same all =
    record { front = text; back = []; whole = sym (append_nil text); wrote = subst (λ (t : Option Text). Appended a t text) (sym same) u }
