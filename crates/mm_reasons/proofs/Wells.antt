-- A sink goes on well, one piece after another.
use Rattle.std.proofs.Common.{◌≡◌, ◌≢◌, ◌⊎◌, inl, inr, refl, sym, ◌∙◌, ℕ, Option}
use Rattle.mm_types.specs.{Text, Rose}
use Rattle.mm_names.specs.{Ending}
use Rattle.mm_names.specs.declared.endings.Ending.TheVariants as ending
use Rattle.mm_reasons.specs.{GoesWell}
use Rattle.mm_io.specs.{SinkSeen}

pub well_here : (a : SinkSeen) → GoesWell a a
well_here a = record { same = refl; gave = λ e. e }

pub well_then : (a b c : SinkSeen) → GoesWell a b → GoesWell b c → GoesWell a c
well_then a b c u v = record { same = v.same ∙ u.same; gave = λ e. v.gave (u.gave e) }

-- all was given on
pub well_given : (a b : SinkSeen) → b.faults ≡ a.faults → b.gave ≡ b.took → GoesWell a b
well_given a b s g = record { same = s; gave = λ e. g }

-- a run whose words are a form does not end as one whose words are none
pub told_form : (e d : Ending) (x y : ℕ) → (e ≡ d) ⊎ ((e ≡ ending.OutFault) × Rose x y) → d ≢ ending.Usage → e ≢ ending.Usage
told_form e d x y (inl h) n q = n (sym h ∙ q)
told_form e d x y (inr h) n q = let bad : ending.OutFault ≡ ending.Usage = sym h.0 ∙ q in cc

pub ruleset wells = (well_here, well_then, well_given, told_form)
