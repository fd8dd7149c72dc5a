-- Outcomes that are decided step by step.
use Rattle.std.proofs.Common.{◌≡◌, ◌≤◌, ◌<◌, ℕ, Bool, true, false, Option, Some, ap, is_some, nat_le, arith}
use Rattle.std.proofs.lemmas.Bool.{leb-true, le-leb}
use Rattle.mm_types.specs.{Code}
use Rattle.mm_types.specs.declared.codes.Code.TheVariants as code
use Rattle.mm_world.specs.{ProcessOf, WorldOf, process_of, charge, limit, OutcomeOf, refused, need, find_or, with_process, within_limit}
use Rattle.mm_types.proofs.{not_true, none_of}

module _ {B : Type 0} (w : WorldOf B) where
  pub at_alive : (pid : ℕ) (p : ProcessOf B) (f : ProcessOf B → OutcomeOf B) → process_of w pid ≡ Some p → with_process w pid f ≡ f p
  at_alive pid p f e = ap (λ o. find_or w code.InvalidHandle o f) e

  pub at_met : (why : Code) (b : Bool) (o : OutcomeOf B) → b ≡ true → need w why b o ≡ o
  at_met why b o e = ap (λ b. need w why b o) e

  pub at_unmet : (why : Code) (b : Bool) (o : OutcomeOf B) → b ≡ false → need w why b o ≡ refused w why
  at_unmet why b o e = ap (λ b. need w why b o) e

  pub at_found : {A : Type 0} (why : Code) (x : Option A) (a : A) (f : A → OutcomeOf B) → x ≡ Some a → find_or w why x f ≡ f a
  at_found why x a f e = ap (λ x. find_or w why x f) e

  pub at_missing : {A : Type 0} (why : Code) (x : Option A) (f : A → OutcomeOf B) → is_some x ≡ false → find_or w why x f ≡ refused w why
  at_missing why x f e = ap (λ x. find_or w why x f) (none_of x e)

  pub at_room : (o : OutcomeOf B) → charge o.world ≤ limit o.world → within_limit w o ≡ o
  at_room o h = at_met code.CommitmentLimit (nat_le (charge o.world) (limit o.world)) o (le-leb _ _ h)

  pub at_limit : (o : OutcomeOf B) → limit o.world < charge o.world → within_limit w o ≡ refused w code.CommitmentLimit
  at_limit o h = at_unmet code.CommitmentLimit (nat_le (charge o.world) (limit o.world)) o (not_true (nat_le (charge o.world) (limit o.world)) (λ e. absurd (omega (arith, leb-true _ _ e, h))))
