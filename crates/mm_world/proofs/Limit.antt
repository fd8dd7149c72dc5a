-- The charge is within the limit in each world that lines reach.
use Rattle.std.proofs.Common.{◌≡◌, ℕ, ◌-◌, ◌≤◌, Some, refl, arith, true, false, ◌+◌, ◌<◌, Bool, Option, None, sym, ◌∙◌, ap, cond, [], ◌∷◌, ◌++◌, leb}
use Rattle.mm_types.specs.{Answer, Event, address_of, MachineOf, commit_type, Code, Kind, Range, reserve_of, limit_of, Text}
use Rattle.mm_world.specs.{StackOf, ProcessOf, Page, filled, process_of, charge, limit, Committed, committed_at, guard_off, done, Attempt, access}
use Rattle.mm_world.specs.{step, stack, probe, grown, made, KeepsLimit, Reached, First, Next, OutcomeOf, refused, free, is_limit_code}
use Rattle.mm_world.specs.{is_limit_refusal, is_charging_line, WorldOf, RegionOf, Found, need, find_or, within_limit, alloc, commit_in, protect}
use Rattle.mm_world.specs.{create, handle_or, with_handle, map_view, LimitDecides, is_success, more_slots}
use Rattle.mm_world.specs.World.{World}
use Rattle.mm_world.specs.Report.{Report}
use Rattle.mm_world.proofs.Tables.{Holds, tables, at_probe}
use Rattle.mm_world.proofs.Charges.{by_edits, charge_goes, keeping, kept_same, keeps_alloc, keeps_protect, keeps_map, keeps_create, charge-guard_off, charge-same_regions}
use Rattle.mm_world.proofs.Edits.{Terms, Stays}
use Rattle.std.proofs.lemmas.Bool.{leb-true, leb-false}
use Rattle.mm_types.specs.declared.events.Event.TheVariants as line
use Rattle.mm_world.proofs.LineEdits as edits
use Rattle.mm_types.specs.declared.answers.Answer.TheVariants as answer
use Rattle.mm_types.specs.declared.codes.Code.TheVariants as code
use Rattle.mm_types.specs.declared.views.Kind.TheVariants as kind

-- an access leaves the charge as it is
abbrev steady : Answer → Terms
steady a = record { ends = λ x. true; plain = false; kept = false; stacks = false; charge = Stays }

pub access_charge : (w : World) (pid addr : ℕ) (what : Attempt) → charge (access w pid addr what).world ≡ charge w
access_charge w pid addr what =
    let o = access w pid addr what in
    charge_goes (steady o.answer) w o.world (edits.in_access steady w pid addr what (λ e. refl)).it.edits

-- ---- stacks

keeps_made : (w : World) (tid pid : ℕ) (p : ProcessOf Page) (r c : ℕ) → Holds (KeepsLimit w) (made filled w tid pid p r c)
keeps_made w tid pid p r c = search keeping depth 12

by_guard : (w : World) (pid : ℕ) (p : ProcessOf Page) (c : Committed Page) (page : ℕ) (a : Answer) → process_of w pid ≡ Some p → committed_at w p.regions page ≡ Some c → Holds (KeepsLimit w) (done a (guard_off w pid p c page))
by_guard w pid p c page a lives committed = record { it = record { kept = λ within. omega (arith, charge-guard_off w pid p c page lives committed) } }

in_grown : (w : World) (tid : ℕ) (s : StackOf) (p : ProcessOf Page) (c : Committed Page) (page : ℕ) → process_of w s.pid ≡ Some p → committed_at w p.regions page ≡ Some c → Holds (KeepsLimit w) (grown filled (guard_off w s.pid p c page) tid s)
in_grown w tid s p c page lives committed =
    let h = keeps_alloc filled (guard_off w s.pid p c page) s.pid (address_of (s.guard_page - 1)) 1 commit_type 0x104 in
    record { it = record { kept = λ within. h.it.kept (omega (arith, charge-guard_off w s.pid p c page lives committed)) } }

pub in_step : (w : World) (e : Event) (before after : Report) → Holds (KeepsLimit w) (step w e before after)
in_step w (line.Alloc pid addr size type prot) before after = keeps_alloc filled w pid.0 addr size type prot
in_step w (line.Protect pid addr size prot) before after = keeps_protect w pid.0 addr size prot
in_step w (line.Create pid size flags name) before after = keeps_create filled w pid.0 size flags name
in_step w (line.Map pid handle access offset len addr) before after = keeps_map w pid.0 handle access offset len addr
in_step w (line.Stack tid pid reserve commit) before after = search (keeping, kept_same, keeps_made) depth 12
in_step w (line.Probe tid addr) before after = at_probe filled w tid.0 addr (kept_same w _) (kept_same w _) (λ s p c has lives committed. search (tables, kept_same, by_guard, in_grown) depth 14)
in_step w e before after = by_edits (edits.line_terms e) w (step w e before after) refl (edits.in_step w e before after).edits

-- the charge is within the limit in each world that lines reach
pub reached_within : (m : MachineOf) (w : World) → Reached m w → charge w ≤ limit w
reached_within m w First = omega arith
reached_within m w (Next v e before after h) = (in_step v e before after).it.kept (reached_within m v h)

-- ---- no line but five can be refused because the charge would pass the limit

abbrev Granted : OutcomeOf Page → Type 0
Granted o = is_limit_refusal o.answer ≡ false

granted_refusal : (w : World) (why : Code) → is_limit_code why ≡ false → Holds Granted (refused w why)
granted_refusal w why e = record { it = e }

granted_done : (a : Answer) (w : World) → is_limit_refusal a ≡ false → Holds Granted (done a w)
granted_done a w e = record { it = e }

ruleset granted = (tables, granted_refusal, granted_done)

probe_granted : (w : World) (tid addr : ℕ) → Holds Granted (probe filled w tid addr)
probe_granted w tid addr = at_probe filled w tid addr (record { it = refl }) (record { it = refl }) (λ s p c has lives committed. search granted depth 14)

pub never_refused : (w : World) (e : Event) (before after : Report) → is_charging_line e ≡ false → is_limit_refusal (step w e before after).answer ≡ false
never_refused w (line.Alloc pid addr size type prot) before after free = cc
never_refused w (line.Protect pid addr size prot) before after free = cc
never_refused w (line.Create pid size flags name) before after free = cc
never_refused w (line.Map pid handle access offset len addr) before after free = cc
never_refused w (line.Stack tid pid reserve commit) before after free = cc
never_refused w (line.Probe tid addr) before after free = (probe_granted w tid.0 addr).it
never_refused w e before after free = (edits.in_step w e before after).granted refl

-- ---- commitment is refused exactly where the world that the call would make passes the limit

not_both : (a : Answer) → is_success a ≡ true → is_limit_refusal a ≡ true → ⊥
not_both (answer.Error why) s l = cc
not_both _ s l = cc

module _ {B : Type 0} where
  -- ---- one lemma for each word of the tables

  by_other : (w v : WorldOf B) (a : Answer) (call : ℕ → OutcomeOf B) → is_limit_refusal a ≡ false → ((n : ℕ) → is_success (call n).answer ≡ false) → LimitDecides w (done a v) call
  by_other w v a call other fails =
      record {
        refused = λ e. let bad : false ≡ true = sym other ∙ e in cc;
        only = λ within h. let bad : false ≡ true = sym (fails h.slots) ∙ h.succeeds in cc;
      }

  by_refusal : (w : WorldOf B) (why : Code) → is_limit_code why ≡ false → LimitDecides w (refused w why) (λ n. refused (more_slots w n) why)
  by_refusal w why other = by_other w w (answer.Error why) _ other (λ n. refl)

  -- an answer that is neither a success nor that error
  by_same : (w : WorldOf B) (a : Answer) → is_limit_refusal a ≡ false → is_success a ≡ false → LimitDecides w (done a w) (λ n. done a (more_slots w n))
  by_same w a other fails = by_other w w a _ other (λ n. fails)

  at_need : (w : WorldOf B) (why : Code) (b : Bool) (o : OutcomeOf B) (call : ℕ → OutcomeOf B) → is_limit_code why ≡ false → LimitDecides w o call → LimitDecides w (need w why b o) (λ n. need (more_slots w n) why b (call n))
  at_need w why true o call other h = h
  at_need w why false o call other h = by_refusal w why other

  at_find : {A : Type 0} (w : WorldOf B) (why : Code) (x : Option A) (f : A → OutcomeOf B) (g : ℕ → A → OutcomeOf B) → is_limit_code why ≡ false → ((a : A) → x ≡ Some a → LimitDecides w (f a) (λ n. g n a)) → LimitDecides w (find_or w why x f) (λ n. find_or (more_slots w n) why x (g n))
  at_find w why None f g other h = by_refusal w why other
  at_find w why (Some a) f g other h = h a refl

  at_if : (w : WorldOf B) (b : Bool) (o p : OutcomeOf B) (call call' : ℕ → OutcomeOf B) → LimitDecides w o call → LimitDecides w p call' → LimitDecides w (cond b o p) (λ n. cond b (call n) (call' n))
  at_if w true o p call call' h k = h
  at_if w false o p call call' h k = k

  -- ---- the test of the limit

  passed : (w v : WorldOf B) (a : Answer) (b : Bool) → leb (charge v) (limit v) ≡ b → is_success a ≡ true → is_limit_refusal (need w code.CommitmentLimit b (done a v)).answer ≡ true → limit v < charge v
  passed w v a true e success is = absurd (not_both a success is)
  passed w v a false e success is = omega (arith, leb-false _ _ e)

  made_fits : (w v : WorldOf B) (a : Answer) (b : Bool) → leb (charge v) (limit v) ≡ b → charge v ≤ limit v → need w code.CommitmentLimit b (done a v) ≡ done a v
  made_fits w v a true e fits = refl
  made_fits w v a false e fits = absurd (omega (arith, leb-false _ _ e, fits))

  -- where the charge of what is left is more than that of the old world, it is that of what was made
  made_charge : (w v : WorldOf B) (a : Answer) (b : Bool) (bound : ℕ) → charge w ≤ bound → bound < charge (need w code.CommitmentLimit b (done a v)).world → bound < charge v
  made_charge w v a true bound within passes = passes
  made_charge w v a false bound within passes = absurd (omega (arith, passes, within))

  refuses : (w v : WorldOf B) (a : Answer) (b : Bool) → leb (charge v) (limit v) ≡ b → limit v < charge v → (need w code.CommitmentLimit b (done a v)).answer ≡ answer.Error code.CommitmentLimit
  refuses w v a true e passes = absurd (omega (arith, leb-true _ _ e, passes))
  refuses w v a false e passes = refl

  pub at_limit : (w v : WorldOf B) (a : Answer) → v.machine ≡ w.machine → is_success a ≡ true → LimitDecides w (within_limit w (done a v)) (λ n. within_limit (more_slots w n) (done a (more_slots v n)))
  at_limit w v a same success =
      let same_limit : limit v ≡ limit w = ap limit_of same in
      record {
        refused = λ e.
            let passes : limit v < charge v = passed w v a _ refl success e in
            let n : ℕ = charge v + reserve_of v.machine in
            let fits : charge v ≤ limit (more_slots v n) = omega arith in
            let made = made_fits (more_slots w n) (more_slots v n) a _ refl fits in
            record {
              slots = n;
              succeeds = ap (λ (o : OutcomeOf B). is_success o.answer) made ∙ success;
              passes = omega (arith, passes, same_limit, ap (λ (o : OutcomeOf B). charge o.world) made);
            };
        only = λ within h.
            refuses w v a _ refl (omega (arith, made_charge (more_slots w h.slots) (more_slots v h.slots) a _ (limit w) within h.passes, same_limit));
      }

  -- ---- a success that needs no commitment

  by_handle : (w : WorldOf B) (pid : ℕ) (p : ProcessOf B) (number : ℕ) (a : Answer) → process_of w pid ≡ Some p → is_success a ≡ true → LimitDecides w (done a (with_handle w pid p number)) (λ n. done a (with_handle (more_slots w n) pid p number))
  by_handle w pid p number a lives success =
      record {
        refused = λ e. absurd (not_both a success e);
        only = λ within h. absurd (omega (arith, within, h.passes, charge-same_regions w pid p (p.handles ++ Some number ∷ []) lives));
      }

  -- ---- the calls

  ruleset deciding = (at_need, at_find, at_if, at_limit, by_same)

  in_commit : (fill : ℕ → B) (w : WorldOf B) (pid : ℕ) (p : ProcessOf B) (r : Found (RegionOf B)) (k : Kind) (range : Range) (prot : ℕ) → LimitDecides w (commit_in fill w pid p r k range prot) (λ n. commit_in fill (more_slots w n) pid p r k range prot)
  in_commit fill w pid p r kind.Private range prot = search deciding depth 12
  in_commit fill w pid p r (kind.View v) range prot = search deciding depth 12

  pub in_alloc : (fill : ℕ → B) (w : WorldOf B) (pid addr size type prot : ℕ) → LimitDecides w (alloc fill w pid addr size type prot) (λ n. alloc fill (more_slots w n) pid addr size type prot)
  in_alloc fill w pid addr size type prot = search (deciding, in_commit) depth 12

  pub in_protect : (w : WorldOf B) (pid addr size prot : ℕ) → LimitDecides w (protect w pid addr size prot) (λ n. protect (more_slots w n) pid addr size prot)
  in_protect w pid addr size prot = search deciding depth 14

  pub in_map : (w : WorldOf B) (pid handle access offset len addr : ℕ) → LimitDecides w (map_view w pid handle access offset len addr) (λ n. map_view (more_slots w n) pid handle access offset len addr)
  in_map w pid handle access offset len addr = search deciding depth 18

  in_handle_or : (w : WorldOf B) (pid : ℕ) (p : ProcessOf B) (found : Option ℕ) (o : OutcomeOf B) (call : ℕ → OutcomeOf B) → process_of w pid ≡ Some p → LimitDecides w o call → LimitDecides w (handle_or w pid p found o) (λ n. handle_or (more_slots w n) pid p found (call n))
  in_handle_or w pid p None o call lives h = h
  in_handle_or w pid p (Some number) o call lives h = by_handle w pid p number _ lives refl

  pub in_create : (fill : ℕ → B) (w : WorldOf B) (pid size flags : ℕ) (name : Option Text) → LimitDecides w (create fill w pid size flags name) (λ n. create fill (more_slots w n) pid size flags name)
  in_create fill w pid size flags name = search (deciding, in_handle_or) depth 14

  in_made : (fill : ℕ → B) (w : WorldOf B) (tid pid : ℕ) (p : ProcessOf B) (r c : ℕ) → LimitDecides w (made fill w tid pid p r c) (λ n. made fill (more_slots w n) tid pid p r c)
  in_made fill w tid pid p r c = search deciding depth 12

  pub in_stack : (fill : ℕ → B) (w : WorldOf B) (tid pid reserve commit : ℕ) → LimitDecides w (stack fill w tid pid reserve commit) (λ n. stack fill (more_slots w n) tid pid reserve commit)
  in_stack fill w tid pid reserve commit = search (deciding, in_made) depth 14
