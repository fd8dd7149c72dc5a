-- A property of a call's outcome, from one of each of its cases: one lemma for each word that tables of cases are made of.
use Rattle.std.proofs.Common.{◌≡◌, ℕ, ◌≤◌, Bool, true, false, Option, Some, None, refl, cond, leb}
use Rattle.std.proofs.lemmas.Bool.{leb-true}
use Rattle.mm_types.specs.{Code, page_of, Answer}
use Rattle.mm_types.specs.declared.codes.Code.TheVariants as code
use Rattle.mm_types.specs.declared.codes.Raise.TheVariants as raise
use Rattle.mm_world.specs.{StackOf, ProcessOf, WorldOf, process_of, stack_by, Committed, committed_at, probe, probe_at, probe_in, probe_of, charge}
use Rattle.mm_world.specs.{limit, OutcomeOf, done, refused, need, find_or, within_limit}
use Rattle.mm_types.specs.declared.answers.Answer.TheVariants as answer

-- a property of an outcome, under a name that a search can see
pub record Holds {B : Type 0} (P : OutcomeOf B → Type 0) (o : OutcomeOf B) : Type 0 where
  pub it : P o

module _ {B : Type 0} {P : OutcomeOf B → Type 0} where
  pub met : {o : OutcomeOf B} → P o → Holds P o
  met h = record { it = h }

  pub at_need : (w : WorldOf B) (why : Code) (b : Bool) (o : OutcomeOf B) → Holds P (refused w why) → (b ≡ true → Holds P o) → Holds P (need w why b o)
  at_need w why true o refuse go = go refl
  at_need w why false o refuse go = refuse

  pub at_find : {A : Type 0} (w : WorldOf B) (why : Code) (x : Option A) (f : A → OutcomeOf B) → Holds P (refused w why) → ((a : A) → x ≡ Some a → Holds P (f a)) → Holds P (find_or w why x f)
  at_find w why None f refuse go = refuse
  at_find w why (Some a) f refuse go = go a refl

  pub at_if : (b : Bool) (o p : OutcomeOf B) → (b ≡ true → Holds P o) → (b ≡ false → Holds P p) → Holds P (cond b o p)
  at_if true o p h k = h refl
  at_if false o p h k = k refl

  at_test : (w : WorldOf B) (o : OutcomeOf B) (b : Bool) → leb (charge o.world) (limit o.world) ≡ b → Holds P (refused w code.CommitmentLimit) → (charge o.world ≤ limit o.world → Holds P o) → Holds P (need w code.CommitmentLimit b o)
  at_test w o true e refuse go = go (leb-true _ _ e)
  at_test w o false e refuse go = refuse

  pub at_limit : (w : WorldOf B) (o : OutcomeOf B) → Holds P (refused w code.CommitmentLimit) → (charge o.world ≤ limit o.world → Holds P o) → Holds P (within_limit w o)
  at_limit w o refuse go = at_test w o _ refl refuse go

  pub at_world : (b : Bool) (a : Answer) (v w : WorldOf B) → Holds P (done a v) → Holds P (done a w) → Holds P (done a (cond b v w))
  at_world true a v w h k = h
  at_world false a v w h k = k

-- a probe answers by the committed page that it touches
module _ {B : Type 0} {P : OutcomeOf B → Type 0} (fill : ℕ → B) (w : WorldOf B) (tid addr : ℕ) (nothing : Holds P (done answer.Nothing w)) (violation : Holds P (done (answer.Raised raise.AccessViolation) w)) (touched : (s : StackOf) (p : ProcessOf B) (c : Committed B) → stack_by w tid ≡ Some s → process_of w s.pid ≡ Some p → committed_at w p.regions (page_of addr) ≡ Some c → Holds P (probe_at fill w tid p s (page_of addr) (Some c))) where
  at_page : (s : StackOf) (p : ProcessOf B) (c : Option (Committed B)) → stack_by w tid ≡ Some s → process_of w s.pid ≡ Some p → committed_at w p.regions (page_of addr) ≡ c → Holds P (probe_at fill w tid p s (page_of addr) c)
  at_page s p None has lives committed = violation
  at_page s p (Some c) has lives committed = touched s p c has lives committed

  at_process : (s : StackOf) (p : Option (ProcessOf B)) → stack_by w tid ≡ Some s → process_of w s.pid ≡ p → Holds P (probe_in fill w tid s (page_of addr) p)
  at_process s None has lives = nothing
  at_process s (Some p) has lives = at_page s p _ has lives refl

  at_stack : (s : Option StackOf) → stack_by w tid ≡ s → Holds P (probe_of fill w tid (page_of addr) s)
  at_stack None has = nothing
  at_stack (Some s) has = at_process s _ has refl

  pub at_probe : Holds P (probe fill w tid addr)
  at_probe = at_stack (stack_by w tid) refl

pub ruleset tables = (at_need, at_find, at_if, at_limit, at_world)
