-- Accesses of threads that are ready, or wait, and waits that are forgotten.
use Rattle.std.proofs.Common.{◌≡◌, ◌⊎◌, ℕ, Bool, true, false, Option, Some, None, refl, sym, ◌∙◌, ap, subst, inl, inr, is_some, option_map, cond, ◌≢◌, ◌<◌, ◌+◌, arith, length, nat_lt, ◌&&◌}
use Rattle.std.specs.Prelude.{◌==◌}
use Rattle.std.specs.Cmp.{unsigned_Decides}
use Rattle.mm_types.specs.{Answer, Key, Place, Wait, Pid}
use Rattle.mm_world.specs.{Page, Attempt, Tables, Need, pending, access_fails, need_at, wait_failed, KeptOf, keep, tables_of, world_with, kept_by}
use Rattle.mm_world.specs.{threads}
use Rattle.mm_world.specs.World.{World}
use Rattle.mm_world.specs.Report.{Report}
use Rattle.mm_store.specs.{StoreOf, Served, started, begun, waits_at_once, Forgets, PassesIn}
use Rattle.mm_move_rules.specs.{same_place}
use Rattle.mm_move_rules.specs.{changed}
use Rattle.mm_world.proofs.{tables_back, numbered_inside}
use Rattle.mm_object_tables.specs.{MadeAtMost, FitsTables, key_at}
use Rattle.mm_dispatch.specs.{waited, Accessed, IsHad, AccessMade, KeepsTables, is_of_process, waits_but, Forgot, EndsWaits, Decided, idle_but, IdlesBut}
use Rattle.mm_dispatch.specs.{Idles}
use Rattle.mm_store.proofs.{served_nothing, served_then}
use Rattle.mm_line_moves.proofs.{not_pending}
use Rattle.mm_dispatch.proofs.Fitting.{fits_beside, names_either}
use Rattle.std.proofs.lemmas.Bool.{lt-ltb, ltb-true, le-ltb}
use Rattle.mm_types.proofs.{differ, same_found, same_or_not, same_tests}
use Rattle.mm_move_rules.specs.{Idle}
use Rattle.mm_store.specs.Behind.{Behind}
use Rattle.mm_types.specs.declared.answers.Wait.TheVariants as wait
use Rattle.mm_types.specs.declared.events.Event.TheVariants as event

module _ (s z : StoreOf) (e : z ≡ started s z) where
  pub served_started : Served s z
  served_started =
      served_nothing s z (ap (λ (s : StoreOf). s.paging_device) e) (ap (λ (s : StoreOf). s.file_device) e)
      (ap (λ (s : StoreOf). s.report.paging_reads) e) (ap (λ (s : StoreOf). s.report.paging_writes) e)
      (ap (λ (s : StoreOf). s.report.file_reads) e) (ap (λ (s : StoreOf). s.report.file_writes) e)

  pub keeps_started : (t : Tables) (c : Key → Option Page) (place : Place) (k : Key) → KeepsTables t c s → key_at t place ≡ Some k → (z.names ≡ s.names) ⊎ (z.names ≡ changed same_place s.names place (Some k)) → KeepsTables t c z
  keeps_started t c place k keeps at names =
      let f = keeps.fits in
      subst (λ (z : StoreOf). KeepsTables t c z) (sym e)
      (record {
        fits = fits_beside t c s f z.names z.ready (started s z).report (names_either t c s f z.names place k at names);
        few = keeps.few;
      })

-- an access that was ready, and was made
pub went : (u : Bool) (depth : ℕ) (w : World) (pid addr : ℕ) (what : Attempt) (need : Need) (s m z : StoreOf) (a : Answer) (v : World) → need_at w pid addr what ≡ Some need → waits_at_once depth need.key s.report ≡ None → m ≡ started s m → IsHad need z.report → Accessed u w pid addr what m z a v → AccessMade depth w pid addr what s z a v
went u depth w pid addr what need s m z a v needs at_once begun had h =
    let same : h.need ≡ need = same_found (need_at w pid addr what) h.need need h.needs needs in
    record {
      need = need;
      needs = needs;
      ready = not_pending depth need s.report z.report at_once had.framed;
      outcome = h.had (subst (λ (n : Need). access_fails n z.report ≡ false) (sym same) had.fine);
      served = served_then s m z (served_started s m begun) h.served;
    }

-- ---- an access of a thread was begun

module _ (t : Tables) (c d : Key → Option Page) (s z : StoreOf) (same : d ≡ c) (e : z ≡ started s z) where
  pub keeps_start : (place at : Place) (k : Key) → place ≡ at → KeepsTables t c s → key_at t at ≡ Some k → (z.names ≡ s.names) ⊎ (z.names ≡ changed same_place s.names place (Some k)) → KeepsTables t d z
  keeps_start place at k is keeps there names =
      subst (λ (c : Key → Option Page). KeepsTables t c z) (sym same) (keeps_started s z e t c place k keeps (ap (key_at t) is ∙ there) names)

-- ---- what a thread keeps

pub kept_told : {A B : Type 0} (f : A → B) (o : Option A) (k : Option B) → option_map f o ≡ k → is_some k ≡ is_some o
kept_told f None k e = ap is_some (sym e)
kept_told f (Some x) k e = ap is_some (sym e)

made_kept : (n : ℕ) (t : Tables) (tid : ℕ) (k : Option KeptOf) → MadeAtMost n t → MadeAtMost n (keep t tid k)
made_kept n t tid k h = record { sections = h.sections; areas = h.areas; handles = h.handles }

pub keeps_kept : (t after : Tables) (c : Key → Option Page) (s : StoreOf) (tid : ℕ) (k : Option KeptOf) → KeepsTables t c s → after ≡ keep t tid k → FitsTables after c s → KeepsTables after c s
keeps_kept t after c s tid k keeps is fits =
    record { fits = fits; few = subst (λ (t : Tables). MadeAtMost s.line t) (sym is) (made_kept s.line t tid k keeps.few) }

-- the world tells its tables
pub tables_same : (t u : Tables) (b c : Key → Page) → world_with t b ≡ world_with u c → t ≡ u
tables_same t u b c e = sym (tables_back b t) ∙ ap tables_of e ∙ tables_back c u

-- ---- a thread's wait is forgotten

pub rest_forgot : (y z : StoreOf) (f : ℕ → Wait) → z ≡ record y { report = record (y.report) { wait = f } } → z ≡ waited y z
rest_forgot y z f e = e ∙ ap (λ (g : ℕ → Wait). record y { report = record (y.report) { wait = g } }) (sym (ap (λ (s : StoreOf). s.report.wait) e))

module _ (m y z : StoreOf) (e : z ≡ waited y z) where
  pub served_forgot : Served m y → Served m z
  served_forgot h =
      subst (λ (z : StoreOf). Served m z) (sym e)
      (record {
        paging_calls = h.paging_calls;
        file_calls = h.file_calls;
        paging = h.paging;
        files = h.files;
        paging_reads = h.paging_reads;
        paging_writes = h.paging_writes;
        file_reads = h.file_reads;
        file_writes = h.file_writes;
      })

  pub went_forgot : (depth : ℕ) (w : World) (pid addr : ℕ) (what : Attempt) (a : Answer) (v : World) → AccessMade depth w pid addr what m y a v → AccessMade depth w pid addr what m z a v
  went_forgot depth w pid addr what a v h =
      record { need = h.need; needs = h.needs; ready = ap (λ (z : StoreOf). pending depth h.need m.report z.report) e ∙ h.ready; outcome = h.outcome; served = served_forgot h.served }

-- of a thread that waits for nothing
pub idle_now : (waits : ℕ → Wait) (tid : ℕ) → changed ◌==◌ waits tid wait.None tid ≡ wait.None
idle_now waits tid = ap (λ (b : Bool). cond b wait.None (waits tid)) ((unsigned_Decides tid tid).1 refl)

-- over a store whose threads wait for nothing no wait has failed
pub none_failed : (s m : StoreOf) (tid : ℕ) → m.report ≡ begun s.report → s.report.wait tid ≡ wait.None → wait_failed (m.report.wait tid) ≡ true → ⊥
none_failed s m tid began idle fails =
    let fine : wait_failed (m.report.wait tid) ≡ false = ap wait_failed (ap (λ (r : Report). r.wait tid) began ∙ idle) in
    let bad : true ≡ false = sym fails ∙ fine in cc

-- ---- one thread more

module _ {A : Type 0} (none : A) (t : Tables) (pid : ℕ) (w y z : ℕ → A) (i : ℕ) where
  abbrev of : ℕ → Bool
  of tid = is_of_process pid (kept_by t tid)

  -- those below a number whose access is of the process have none
  abbrev left : ℕ → (ℕ → A) → ℕ → A
  left end f tid = cond (nat_lt tid end && of tid) none (f tid)

  at_it : (b : Bool) → b ≡ of i → z ≡ cond b (changed ◌==◌ y i none) y → y i ≡ left i w i → z i ≡ cond b none (w i)
  at_it true e is before = ap (λ (f : ℕ → A). f i) is ∙ ap (λ c. cond c none (y i)) ((unsigned_Decides i i).1 refl)
  at_it false e is before = ap (λ (f : ℕ → A). f i) is ∙ before ∙ ap (λ c. cond (c && of i) none (w i)) (le-ltb i i (omega arith))

  at_other : (tid : ℕ) → tid ≢ i → (b : Bool) → z ≡ cond b (changed ◌==◌ y i none) y → z tid ≡ y tid
  at_other tid other true is = ap (λ (f : ℕ → A). f tid) is ∙ ap (λ c. cond c none (y tid)) (differ tid i other)
  at_other tid other false is = ap (λ (f : ℕ → A). f tid) is

  same_test : (tid : ℕ) → tid ≢ i → nat_lt tid i ≡ nat_lt tid (i + 1)
  same_test tid other = same_tests (nat_lt tid i) (nat_lt tid (i + 1)) (λ e. lt-ltb tid (i + 1) (omega (arith, ltb-true tid i e))) (λ e. lt-ltb tid i (omega (arith, ltb-true tid (i + 1) e, other)))

  pub left_one_more : ((tid : ℕ) → y tid ≡ left i w tid) → z ≡ cond (of i) (changed ◌==◌ y i none) y → (tid : ℕ) → z tid ≡ left (i + 1) w tid
  left_one_more before is tid = elim (same_or_not tid i) [
    | inl e ↦
        subst (λ (k : ℕ). z k ≡ left (i + 1) w k) (sym e)
        (at_it (of i) refl is (before i) ∙ ap (λ c. cond (c && of i) none (w i)) (sym (lt-ltb i (i + 1) (omega arith))))
    | inr other ↦
        at_other tid other (of i) is ∙ before tid ∙ ap (λ c. cond (c && of tid) none (w tid)) (same_test tid other)
  ]

-- ---- all threads

module _ (t : Tables) (pid : ℕ) (s : StoreOf) where
  pub forgot-none : Forgot t pid 0 s s
  forgot-none = record { waits = λ tid. ap (λ c. cond (c && is_of_process pid (kept_by t tid)) wait.None (s.report.wait tid)) (sym (le-ltb tid 0 (omega arith))); rest = refl }

  pub forgot-more : (i : ℕ) (y z : StoreOf) → Forgot t pid i s y → z ≡ waited y z → z.report.wait ≡ waits_but t pid i y.report.wait → Forgot t pid (i + 1) s z
  forgot-more i y z h rest waits = record {
    waits = left_one_more wait.None t pid s.report.wait y.report.wait z.report.wait i h.waits waits;
    rest = rest ∙ ap (λ (y : StoreOf). waited y z) h.rest;
  }

-- ---- what stands behind the store

-- one thread more
pub idles-one : (u : Bool) (t : Tables) (pid tid : ℕ) (s z : StoreOf) (b c : Behind) (found : Bool) → found ≡ is_of_process pid (kept_by t tid) → found ≡ true → PassesIn u (Forgets tid) s z b c → u ≡ false → IdlesBut t pid tid b c
idles-one true t pid tid s z b c found is on p paging = cc
idles-one false t pid tid s z b c found is on p paging =
    let e : true ≡ is_of_process pid (kept_by t tid) = sym on ∙ is in
    p.that.same ∙ (λ i. record b { waits = cond (e i) (changed ◌==◌ b.waits tid Idle) b.waits })

pub idles-not : (t : Tables) (pid tid : ℕ) (b : Behind) (found : Bool) → found ≡ is_of_process pid (kept_by t tid) → found ≡ false → IdlesBut t pid tid b b
idles-not t pid tid b found is off =
    let e : false ≡ is_of_process pid (kept_by t tid) = sym off ∙ is in
    λ i. record b { waits = cond (e i) (changed ◌==◌ b.waits tid Idle) b.waits }

module _ (t : Tables) (pid : ℕ) (b : Behind) where
  pub idles-none : Idles t pid 0 b b
  idles-none = record { waits = λ tid. ap (λ c. cond (c && is_of_process pid (kept_by t tid)) Idle (b.waits tid)) (sym (le-ltb tid 0 (omega arith))); same = refl }

  pub idles-more : (i : ℕ) (y c : Behind) → Idles t pid i b y → IdlesBut t pid i y c → Idles t pid (i + 1) b c
  idles-more i y c h e =
      let waits : c.waits ≡ idle_but t pid i y.waits = ap (λ (x : Behind). x.waits) e in
      record {
        waits = left_one_more Idle t pid b.waits y.waits c.waits i h.waits waits;
        same = e ∙ (λ j. record y { waits = sym waits j }) ∙ (λ j. record (h.same j) { waits = c.waits });
      }

-- ---- the store goes on fitting the tables

pub keeps-forgot : (t : Tables) (c d : Key → Option Page) (s z : StoreOf) → KeepsTables t c s → d ≡ c → z ≡ waited s z → KeepsTables t d z
keeps-forgot t c d s z keeps same rest =
    subst (λ (c : Key → Option Page). KeepsTables t c z) (sym same)
    (subst (λ (z : StoreOf). KeepsTables t c z) (sym rest) (record { fits = fits_beside t c s keeps.fits s.names s.ready (waited s z).report keeps.fits.named; few = keeps.few }))

-- ---- the line

module _ (u : Bool) (pid : Pid) (n : ℕ) (t : Tables) (c d : Key → Option Page) (s m : StoreOf) (a : Answer) (after : Tables) (new : Key → Option Page) (z : StoreOf) where
  -- the devices and the world were not touched by it
  pub decided-forgot : d ≡ c → m ≡ waited s m → Decided u (event.Exit pid) n t d m a after new z → Decided u (event.Exit pid) n t c s a after new z
  decided-forgot same rest h =
      from (subst (λ (m : StoreOf). Decided u (event.Exit pid) n t c m a after new z) rest (subst (λ (c : Key → Option Page). Decided u (event.Exit pid) n t c m a after new z) same h))
    where
      from : Decided u (event.Exit pid) n t c (waited s m) a after new z → Decided u (event.Exit pid) n t c s a after new z
      from h = assumption h

-- no thread waits any more whose access was of the process
pub ends-waits : (t : Tables) (pid : Pid) (a : Answer) (s y m z : StoreOf) → length t.kept ≡ threads → Forgot t pid.0 threads s y → m.report.wait ≡ y.report.wait → z.report.wait ≡ m.report.wait → EndsWaits t (event.Exit pid) a z.report
ends-waits t pid a s y m z count h began ended tid k kept of =
    let below : tid < threads = omega (arith, numbered_inside t.kept tid k kept, count) in
    let is : is_of_process pid.0 (kept_by t tid) ≡ true = ap (is_of_process pid.0) kept ∙ (unsigned_Decides k.pid pid.0).1 of in
    ap (λ (f : ℕ → Wait). f tid) (ended ∙ began) ∙ h.waits tid ∙ (λ i. cond (lt-ltb tid threads below i && is i) wait.None (s.report.wait tid))
