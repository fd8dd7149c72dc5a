-- Steps of a run, one after another.
use Rattle.std.specs.Prelude.{Result, Ok, Err, Some, None}
use Rattle.std.proofs.Common.{◌≡◌, ℕ, [], Option, refl, subst, ◌∙◌, arith}
use Rattle.mm_types.specs.{Text}
use Rattle.mm_run.specs.{Ending, FaultCounts, IsBlamed, stand, Input, Moment, moment, GoesOn, EndsRun, GoesOnOrEnds, FindsLine, outside_of}
use Rattle.mm_run.specs.{fault_counts_of, ComesTo, begun_at, Setting}
use Rattle.mm_run.proofs.Stories.{comes_here, went_none, went_then, went_came}
use Rattle.mm_run.proofs.Ends.{blamed_beside}

-- ---- counts of faults that stayed before

pub blamed_then : (e : Ending) (opening : Type 0) (c m d : FaultCounts) → m ≡ c → IsBlamed e opening m d → IsBlamed e opening c d
blamed_then e opening c m d same b = subst (λ (k : FaultCounts). IsBlamed e opening k d) same b

-- ---- a step, and then another

pub goes_here : (held : Text) (n : ℕ) (a : Moment) → GoesOn held n held n a a
goes_here held n a = record {
  went = went_none (outside_of a) (stand held n a.stage) (stand held n a.stage) refl;
  faults = refl;
  idle = omega arith;
}

module _ {held mid held' : Text} {n m n' : ℕ} {a b c : Moment} (first : GoesOn held n mid m a b) where
  pub goes_then : GoesOn mid m held' n' b c → GoesOn held n held' n' a c
  goes_then h = record {
    went = went_then (outside_of a) (outside_of b) (outside_of c) (stand held n a.stage) (stand mid m b.stage) (stand held' n' c.stage) first.went h.went;
    faults = h.faults ∙ first.faults;
    idle = let i = first.idle in let j = h.idle in omega arith;
  }

module _ {held mid : Text} {n m : ℕ} {a b : Moment} (first : GoesOn held n mid m a b) where
  pub goes_ends : {c : Moment} (e : Ending) → EndsRun mid m b c e → EndsRun held n a c e
  goes_ends {c} e h = record {
    came = went_came (outside_of a) (outside_of b) (outside_of c) (stand held n a.stage) (stand mid m b.stage) c.stage e first.went h.came;
    faults = blamed_then e ⊥ (fault_counts_of a) (fault_counts_of b) (fault_counts_of c) first.faults h.faults;
    idle = let i = first.idle in let j = h.idle in omega arith;
    form = h.form;
  }

  pub steps_then : (c : Moment) (held' : Text) (n' : ℕ) (r : Option Ending) → GoesOnOrEnds r mid m held' n' b c → GoesOnOrEnds r held n held' n' a c
  steps_then c held' n' None h = goes_then first h
  steps_then c held' n' (Some e) h = goes_ends e h

module _ {held mid : Text} {n : ℕ} {a b : Moment} (first : GoesOn held n mid n a b) where
  pub finds_then : (c : Moment) (held' : Text) (r : Result ℕ Ending) → FindsLine r mid n held' b c → FindsLine r held n held' a c
  finds_then c held' (Ok len) h = goes_then first h
  finds_then c held' (Err e) h = goes_ends first e h

-- ---- before the first line

-- no byte was held; some were read
module _ {held : Text} (none : held ≡ []) (a : Setting) (input : Input) (e : Ending) where
  -- and the run ends
  pub begins_ends : EndsRun held 0 (moment a.input a.output a.kept (begun_at a.left)) (moment input a.output a.kept (begun_at a.left)) e → ComesTo [] a (record a { input = input }) e
  begins_ends h = subst (λ (xs : Text). ComesTo xs a (record a { input = input }) e) none (record {
    came = comes_here _ _ _ e _ a.left refl refl refl h.came;
    faults = blamed_beside e _ _ _ h.faults;
    idle = h.idle;
  })

  -- or goes on
  pub begins_then : {mid : Text} (b : Setting) → GoesOn held 0 mid 0 (moment a.input a.output a.kept (begun_at a.left)) (moment input a.output a.kept (begun_at a.left)) → ComesTo mid (record a { input = input }) b e → ComesTo [] a b e
  begins_then {mid} b first h = subst (λ (xs : Text). ComesTo xs a b e) none (record {
    came = record { end = h.came.end; came = went_came _ _ _ (stand held 0 (begun_at a.left)) (stand mid 0 (begun_at a.left)) h.came.end e first.went h.came.came; leaves = h.came.leaves };
    faults = blamed_then e _ _ _ _ first.faults h.faults;
    idle = let i = first.idle in let j = h.idle in omega arith;
  })
