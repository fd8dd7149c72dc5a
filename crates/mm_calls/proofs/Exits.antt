-- How a call ends: refused, at the limit of the charge, out of memory, or done.
use Rattle.std.proofs.Common.{◌≡◌, ◌≤◌, ◌+◌, ◌^◌, ℕ, zero, suc, Bool, true, false, Some, refl, sym, ◌∙◌, ap, arith, is_some}
use Rattle.std.specs.Prelude.{Result, Ok, Err, IsOk, OnErr, nat_le, IfOk}
use Rattle.std.proofs.lemmas.Bool.{leb-true, leb-false}
use Rattle.mm_types.specs.{Answer, Code, NoMemory, Pid, Range}
use Rattle.mm_types.proofs.{on_err, some_found}
use Rattle.mm_types.specs.declared.answers.Answer.TheVariants as answer
use Rattle.mm_types.specs.declared.codes.Code.TheVariants as code
use Rattle.mm_world.specs.{ProcessOf, charge, limit, Tables, blank, process_of, OutcomeOf, done, is_success, refused, within_limit}
use Rattle.mm_world.specs.Alloc.{commit_pages}
use Rattle.mm_world.proofs.{at_room, at_limit}
use Rattle.mm_store.specs.{Ghosts as PageStoreGhosts, Turn, Makes}
use Rattle.mm_store.proofs.{turns_same}
use Rattle.mm_object_tables.specs.{FitsTables, Settled, PassesAs, MakesPages, MakesWithin, SettlesTables, StaysIdle, Called}
use Rattle.mm_object_tables.proofs.{settled_same, called_by}
use Rattle.mm_calls.specs.{CommitsRange, DecidesIn, LacksMemory, LosesPages, MakesIn, AnswersCall}

pub some_marks : (n : ℕ) → (n ≡ 0 → ⊥) → 1 ≤ n
some_marks zero h = absurd (h refl)
some_marks (suc n) h = omega arith

-- ---- the first tests are passed

-- a process that lives, and parameters that are right
pub record IsRight (t : Tables) (pid : ℕ) (right : Bool) : Type 0 where
  pub process : ProcessOf (Unit {0})
  pub lives : process_of t pid ≡ Some process
  pub parameters : right ≡ true

pub is_right : {t : Tables} {pid : ℕ} {has test right : Bool} → has ≡ is_some (process_of t pid) → has ≡ true → test ≡ right → test ≡ true → IsRight t pid right
is_right {t = t} {pid = pid} there has told test =
    let p = some_found (process_of t pid) (sym there ∙ has) in
    record { process = p.0; lives = p.1; parameters = sym told ∙ test }

-- ---- the limit is asked

-- what was decided is a change that is charged `n` pages, where the limit allows it
pub record ChangesWithin (q : OutcomeOf (Unit {0})) (t : Tables) (n : ℕ) (a : Answer) (after : Tables) : Type 0 where
  pub is : q ≡ within_limit t (done a after)
  pub total : charge after ≡ charge t + n
  pub same_limit : limit after ≡ limit t

module _ {q : OutcomeOf (Unit {0})} {t : Tables} {n : ℕ} {a : Answer} {after : Tables} (c : ChangesWithin q t n a after) {allowed : Bool} (told : allowed ≡ nat_le (charge t + n) (limit t)) where
  pub past_limit : allowed ≡ false → q ≡ refused t code.CommitmentLimit
  past_limit e = c.is ∙ at_limit t (done a after) (omega (arith, leb-false _ _ (sym told ∙ e), c.total, c.same_limit))

  within_room : allowed ≡ true → q ≡ done a after
  within_room e = c.is ∙ at_room t (done a after) (omega (arith, leb-true _ _ (sym told ∙ e), c.total, c.same_limit))

  -- the change was made, and answered
  pub then_made : allowed ≡ true → {b : Answer} → b ≡ a → {made : Tables} → made ≡ after → q ≡ record { answer = b; world = made }
  then_made e answered is = within_room e ∙ (λ i. done (sym answered i) (sym is i))

  pub then_succeeds : allowed ≡ true → is_success q.answer ≡ is_success a
  then_succeeds e = ap (λ (o : OutcomeOf (Unit {0})). is_success o.answer) (within_room e)

  pub then_charged : allowed ≡ true → charge q.world ≡ charge t + n
  then_charged e = ap (λ (o : OutcomeOf (Unit {0})). charge o.world) (within_room e) ∙ c.total

-- no memory is refused where that has what cannot be
pub ok_unless : {T E : Type 0} (r : Result T E) {P : Type 0} → OnErr r P → (P → false ≡ true) → IsOk r
ok_unless (Ok x) h refuted = refl
ok_unless (Err e) h refuted = refuted h

module _ {G : Type 0} (p : PageStoreGhosts G) where
  -- ---- nothing has changed

  pub stays_idle : (g : G) → StaysIdle p g g
  stays_idle g = record { passes = λ turn. turns_same p.unpaged turn (p.store g) (p.behind g); loans = refl }

  pub makes_none : {T : Type 0} (r : Result T NoMemory) (g : G) → MakesPages p r g g
  makes_none r g = record { passes = (stays_idle g).passes Makes; idle = on_err r (stays_idle g).passes; loans = refl }

  pub loses_none : (pid : Pid) (t : Tables) (g : G) → LosesPages p pid t t g g
  loses_none pid t g = record { passes = (stays_idle g).passes _; loans = refl }

  module _ {t : Tables} {g : G} (fits : FitsTables t (p.contents g) (p.store g)) where
    pub stays_settled : {T : Type 0} (r : Result T NoMemory) → SettlesTables p r t t g g
    stays_settled r = record { err = on_err r (refl, refl); settled = settled_same t (p.contents g) (p.store g) fits }

    pub decides_same : (pid : Pid) (q : ProcessOf (Unit {0}) → OutcomeOf (Unit {0})) (a : Answer) → ((x : ProcessOf (Unit {0})) → process_of t pid.0 ≡ Some x → q x ≡ record { answer = a; world = t }) → DecidesIn p pid q t g a t g
    decides_same pid q a is = record { outcome = is; settled = settled_same t (p.contents g) (p.store g) fits }

    pub makes_same : (pid : Pid) (q : ProcessOf (Unit {0}) → OutcomeOf (Unit {0})) (a : Answer) → ((x : ProcessOf (Unit {0})) → process_of t pid.0 ≡ Some x → q x ≡ record { answer = a; world = t }) → MakesIn p pid q (Ok a) t g t g
    makes_same pid q a is = record { done = decides_same pid q a is; broke = tt; succeeds = tt }

    pub commits_none : (pid : Pid) (range : Range) (prot : ℕ) (why : Code) → ((x : ProcessOf (Unit {0})) → process_of t pid.0 ≡ Some x → commit_pages blank t pid.0 x range prot ≡ refused t why) → CommitsRange p pid range prot (Ok (answer.Error why)) t g t g
    commits_none pid range prot why is =
        let r : Result Answer NoMemory = Ok (answer.Error why) in
        record { done = decides_same pid _ _ is; broke = tt; enough = λ room. refl; charges = tt; makes = makes_none r g }

  -- ---- memory ran out

  pub lacks : {T : Type 0} {e : NoMemory} {t after : Tables} {g h : G} → SettlesTables p {T = T} (Err e) t after g h → LacksMemory p t g after h
  lacks s = record { tables = s.err.0; contents = s.err.1; settled = s.settled }

  -- ---- something is made

  pub makes_some : {pid : Pid} {q : ProcessOf (Unit {0}) → OutcomeOf (Unit {0})} {a : Answer} {t after : Tables} {g h : G} → Settled after (p.contents g) (p.contents h) (p.store g) (p.store h) → ((x : ProcessOf (Unit {0})) → process_of t pid.0 ≡ Some x → q x ≡ record { answer = a; world = after }) → MakesIn p pid q (Ok a) t g after h
  makes_some s is = record { done = record { outcome = is; settled = s }; broke = tt; succeeds = tt }

  pub makes_broke : {pid : Pid} {q : ProcessOf (Unit {0}) → OutcomeOf (Unit {0})} {T : Type 0} {e : NoMemory} {t after : Tables} {g h : G} → SettlesTables p {T = T} (Err e) t after g h → ((x : ProcessOf (Unit {0})) → process_of t pid.0 ≡ Some x → is_success (q x).answer ≡ true) → MakesIn p pid q (Err e) t g after h
  makes_broke s succeeds = record { done = tt; broke = lacks s; succeeds = succeeds }

  -- pages that come to be between any bounds in which they stand
  pub makes_within : {Stand : ℕ → ℕ → Type 0} {T U : Type 0} {r : Result T NoMemory} (q : Result U NoMemory) {g h : G} → MakesWithin p Stand r g h → Stand 0 (2 ^ 32) → OnErr q ((turn : Turn) → PassesAs p turn g h) → MakesPages p q g h
  makes_within q m stands idle = record { passes = m.passes 0 (2 ^ 32) stands; idle = idle; loans = m.loans }

  -- the same of an answer, or of what is handed on
  pub makes_as : {T U : Type 0} {r : Result T NoMemory} (q : Result U NoMemory) {g h : G} → MakesPages p r g h → OnErr q ((turn : Turn) → PassesAs p turn g h) → MakesPages p q g h
  makes_as q m idle = record { passes = m.passes; idle = idle; loans = m.loans }

  -- ---- pages are committed, of which `n` are charged

  module _ {t : Tables} {g : G} (fits : FitsTables t (p.contents g) (p.store g)) (pid : Pid) (range : Range) (prot : ℕ) where
    pub commits_some : {a : Answer} {after : Tables} {h : G} → Settled after (p.contents g) (p.contents h) (p.store g) (p.store h) → ((x : ProcessOf (Unit {0})) → process_of t pid.0 ≡ Some x → commit_pages blank t pid.0 x range prot ≡ record { answer = a; world = after }) → MakesPages p {T = Answer} (Ok a) g h → CommitsRange p pid range prot (Ok a) t g after h
    commits_some s is makes = record { done = record { outcome = is; settled = s }; broke = tt; enough = λ room. refl; charges = tt; makes = makes }

    pub commits_broke : {e : NoMemory} {after : Tables} {h : G} (n : ℕ) {allowed : Bool} → allowed ≡ nat_le (charge t + n) (limit t) → allowed ≡ true → n ≤ range.count → (charge t + n ≤ (p.store g).room → false ≡ true) → ((x : ProcessOf (Unit {0})) → process_of t pid.0 ≡ Some x → charge (commit_pages blank t pid.0 x range prot).world ≡ charge t + n)
        → SettlesTables p {T = Unit {0}} (Err e) t after g h → MakesPages p {T = Answer} (Err e) g h → CommitsRange p pid range prot (Err e) t g after h
    commits_broke n told room few enough charged s makes =
        record {
          done = tt;
          broke = lacks s;
          enough = λ all. enough (omega (arith, all, few, leb-true _ _ (sym told ∙ room)));
          charges = λ x lives. omega (arith, charged x lives, some_marks n (λ none. let bad = enough (omega (arith, none, fits.room)) in cc));
          makes = makes;
        }

-- ---- a call's promise, from its parts

module _ {G : Type 0} (p : PageStoreGhosts G) (o : OutcomeOf (Unit {0})) (t : Tables) (g : G) (fits : FitsTables t (p.contents g) (p.store g)) where
  -- by what was decided
  pub answers : (a : Answer) (after : Tables) (h : G) → Settled after (p.contents g) (p.contents h) (p.store g) (p.store h) → o ≡ record { answer = a; world = after } → AnswersCall p o t g a after h
  answers a after h s is =
      record { called = called_by o t after (p.contents g) (p.contents h) (p.store g) (p.store h) a is fits s; fits = s.fits; beside = s.rest }

  -- by what a last step decided, of this process
  pub answers-by : (pid : Pid) (x : ProcessOf (Unit {0})) (q : ProcessOf (Unit {0}) → OutcomeOf (Unit {0})) → process_of t pid.0 ≡ Some x → o ≡ q x → (r : Result Answer NoMemory) (after : Tables) (h : G) → IfOk r (λ a. DecidesIn p pid q t g a after h) → IfOk r (λ a. AnswersCall p o t g a after h)
  answers-by pid x q lives is (Ok a) after h did = answers a after h did.settled (is ∙ did.outcome x lives)
  answers-by pid x q lives is (Err e) after h did = tt

  -- by what a step told of bytes too
  pub answers-if : (r : Result Answer NoMemory) (after : Tables) (h : G) → Settled after (p.contents g) (p.contents h) (p.store g) (p.store h) → IfOk r (λ a. Called o t (p.contents g) a after (p.contents h)) → IfOk r (λ a. AnswersCall p o t g a after h)
  answers-if (Ok a) after h s did = record { called = did; fits = s.fits; beside = s.rest }
  answers-if (Err e) after h s did = tt
