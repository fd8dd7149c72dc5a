-- What a probe does to stacks: how often a stack grows, where, when it cannot, and where it succeeds.
use Rattle.std.proofs.Common.{◌≡◌, ◌≢◌, ◌⊎◌, inl, inr, ◌≤◌, ◌<◌, ◌+◌, ◌-◌, ◌*◌, ℕ, Bool, true, false, Option, Some, None, List, [], ◌∷◌, refl, sym, ◌∙◌, ap, subst, not, arith, leb, is_none, ◌&&◌, ◌||◌, set, zero, suc, get_or, nat_le, cond, length, slice_get, take, drop, is_some, count_by}
use Rattle.std.specs.Prelude.{◌==◌, IsSomeAnd}
use Rattle.std.proofs.lemmas.Bool.{leb-true, leb-false}
use Rattle.std.proofs.lemmas.List.{get_or-set_same, length-set}
use Rattle.mm_types.specs.{Answer, Code, Raise, address_of, page_of, commit_type, permits, Key, Kind, Range, range_of, holds_page}
use Rattle.mm_types.proofs.{none_is, one_at_most, or_true, not_true, get_set_same, get_set_other, get_within}
use Rattle.mm_types.specs.declared.answers.Answer.TheVariants as answer
use Rattle.mm_types.specs.declared.codes.Raise.TheVariants as raise
use Rattle.mm_types.specs.declared.protections.Access.TheVariants as access_kind
use Rattle.mm_types.specs.declared.codes.Code.TheVariants as code
use Rattle.mm_types.specs.declared.views.Kind.TheVariants as kind
use Rattle.mm_world.specs.{WorldOf, Page, ProcessOf, StackOf, Numbered, numbered, filled, process_of, stack_by, charge, limit, Committed, alloc}
use Rattle.mm_world.specs.{committed_at, OutcomeOf, done, refused, stack, probe, is_overflow, reserve_pages, set_stack, set_regions, add_region}
use Rattle.mm_world.specs.{stack_region, Tables, world_with, no_bytes, blank, guard_off, grown, RegionOf, pages_of, Found, region_around, set_region}
use Rattle.mm_world.specs.{is_private, commit_in, Home, home_in, within_limit, row_at, commit, change_rows}
use Rattle.mm_world.specs.World.{World}
use Rattle.mm_world.specs.Stack.{commit_pages}
use Rattle.mm_world.proofs.{Holds, tables, numbered_inside, equal as is_same, same_page as same_number, and-true, or-false, in_probe, tables_back}
use Rattle.mm_world.proofs.{charge-guard_off, charge-set_region, same_place, found_stands, committed_is, at_found, at_room, Inside, any_terms}
use Rattle.mm_world.proofs.{numbers_kept, spaces_kept, references_kept}
use Rattle.mm_world.proofs.NaturalSections.{in_stack}
use Rattle.mm_world.specs.WellFormed.{WellFormed}
use Rattle.mm_world.proofs.CallEdits as calls
use Rattle.mm_world.proofs.KeptWrites as kept
use Rattle.mm_world.proofs.LineEdits as lines
use Rattle.mm_object_tables.proofs.{one_if, count-next, process_set_same, holds}
use Rattle.mm_object_tables.proofs.Rows as rows
use Rattle.mm_calls.specs.{ProbeIn, probed, has_grown, growths, guard_lowered, NothingLeft, Overflows, StackGrows, grows, StackStandsIn}
use Rattle.mm_calls.proofs.Touching.{at_nobody, at_ended, at_bare, chosen, reached, at_overflow, off, at_growth, alloc_commits}
use Rattle.mm_calls.proofs.Around.{around_is, has_own, in_range}

-- what a list has where something was put
pub put_here : (stacks : Numbered StackOf) (tid : ℕ) (s z : StackOf) → numbered stacks tid ≡ Some s → numbered (set stacks tid (Some z)) tid ≡ Some z
put_here stacks tid s z has = get_or-set_same stacks tid (Some z) None (numbered_inside stacks tid s has)

-- `alloc` leaves the stacks of all threads
pub alloc_stacks : {B : Type 0} (fill : ℕ → B) (w : WorldOf B) (pid addr size type prot : ℕ) → (alloc fill w pid addr size type prot).world.stacks ≡ w.stacks
alloc_stacks fill w pid addr size type prot =
    kept.same_stacks kept.same_threads w (alloc fill w pid addr size type prot) refl (calls.in_alloc kept.same_threads fill w pid addr size type prot (λ a e. cc) (λ a n m. tt)).it.edits

-- ---- nothing is left

module _ (w : World) (p : ProcessOf Page) (s : StackOf) where
  abbrev last : Bool
  last = (s.guard_page - 1) == s.base

  abbrev bare : Bool
  bare = is_none (committed_at w p.regions (s.guard_page - 1))

  abbrev full : Bool
  full = charge w == limit w

  left_none : is_overflow w p s ≡ true → NothingLeft w p s
  left_none e = by_last last refl e
    where
      by_last : (b : Bool) → last ≡ b → (b || (bare && full)) ≡ true → NothingLeft w p s
      by_last true is e = inl (same_number (s.guard_page - 1) s.base is)
      by_last false is e = let h = and-true bare full e in inr (none_is (committed_at w p.regions (s.guard_page - 1)) h.0, same_number (charge w) (limit w) h.1)

  pub overflows : NothingLeft w p s → is_overflow w p s ≡ true
  overflows (inl e) = ap (λ b. b || (bare && full)) (is_same (s.guard_page - 1) s.base e)
  overflows (inr h) = (λ i. last || (is_none (h.0 i) && is_same (charge w) (limit w) h.1 i)) ∙ or_true last

-- ---- what a probe comes to

-- where the thread has a stack: the answer, and the stacks afterwards
pub data Cases (w : World) (tid page : ℕ) (s : StackOf) (o : OutcomeOf Page) : Type 0 where
  IsNothing : o.answer ≡ answer.Nothing → o.world.stacks ≡ w.stacks → Cases w tid page s o
  IsRaised : (r : Raise) → (r ≡ raise.StackOverflow → Overflows w tid page) → o.answer ≡ answer.Raised r → o.world.stacks ≡ w.stacks → Cases w tid page s o
  IsSame : o.answer ≡ answer.At (address_of s.guard_page) → o.world.stacks ≡ w.stacks → Cases w tid page s o
  IsNext : StackGrows w s page → o.answer ≡ answer.At (address_of (s.guard_page - 1)) → o.world.stacks ≡ set w.stacks tid (Some (guard_lowered s)) → (s.base < s.guard_page → s.base + 1 < s.guard_page) → Cases w tid page s o

pub not_next : {B : Type 0} (w : WorldOf B) (p : ProcessOf B) (s : StackOf) → is_overflow w p s ≡ false → s.base < s.guard_page → s.base + 1 < s.guard_page
not_next w p s e above = by_order (leb (s.base + 2) s.guard_page) refl
  where
    other : ((s.guard_page - 1) == s.base) ≡ false
    other = (or-false ((s.guard_page - 1) == s.base) (is_none (committed_at w p.regions (s.guard_page - 1)) && (charge w == limit w)) e).0

    by_order : (b : Bool) → leb (s.base + 2) s.guard_page ≡ b → s.base + 1 < s.guard_page
    by_order true h = omega (arith, leb-true (s.base + 2) s.guard_page h)
    by_order false h = let bad : false ≡ true = sym other ∙ is_same (s.guard_page - 1) s.base (omega (arith, above, leb-false (s.base + 2) s.guard_page h)) in cc

module _ (w : World) (tid addr : ℕ) (s : StackOf) (has : stack_by w tid ≡ Some s) where
  abbrev whole : OutcomeOf Page
  whole = probe filled w tid addr

  module _ (p : ProcessOf Page) (lives : process_of w s.pid ≡ Some p) (c : Committed Page) (there : committed_at w p.regions (page_of addr) ≡ Some c) where
    grown_stacks : (chosen filled w tid addr s has p lives c there true true false true).world.stacks ≡ set w.stacks tid (Some (guard_lowered s))
    grown_stacks = ap (λ z. set z tid (Some (guard_lowered s))) (alloc_stacks filled (off filled w tid addr s has p lives c there) s.pid (address_of (s.guard_page - 1)) 1 commit_type 0x104)

    overflow_here : c.row.guard ≡ true → (page_of addr == s.guard_page) ≡ true → is_overflow w p s ≡ true → Overflows w tid (page_of addr)
    overflow_here on here over =
        record { stack = s; has = has; process = p; lives = lives; committed = c; there = there; on_guard_page = same_number (page_of addr) s.guard_page here; guard_on = on; nothing_left = left_none w p s over }

    growth_here : c.row.guard ≡ true → (page_of addr == s.guard_page) ≡ true → is_overflow w p s ≡ false → StackGrows w s (page_of addr)
    growth_here on here left =
        record { process = p; lives = lives; committed = c; there = there; on_guard_page = same_number (page_of addr) s.guard_page here; guard_on = on; something_left = left }

    by_choice : (o : OutcomeOf Page) (g same over read : Bool) → c.row.guard ≡ g → (page_of addr == s.guard_page) ≡ same → is_overflow w p s ≡ over → o ≡ chosen filled w tid addr s has p lives c there g same over read → Cases w tid (page_of addr) s o
    by_choice o true false over read on here full e = IsRaised raise.GuardPage (λ is. cc) (ap (λ o. o.answer) e) (ap (λ o. o.world.stacks) e)
    by_choice o true true true read on here full e = IsRaised raise.StackOverflow (λ is. overflow_here on here full) (ap (λ o. o.answer) e) (ap (λ o. o.world.stacks) e)
    by_choice o true true false read on here full e = IsNext (growth_here on here full) (ap (λ o. o.answer) e) (ap (λ o. o.world.stacks) e ∙ grown_stacks) (not_next w p s full)
    by_choice o false same over false on here full e = IsRaised raise.AccessViolation (λ is. cc) (ap (λ o. o.answer) e) (ap (λ o. o.world.stacks) e)
    by_choice o false same over true on here full e = IsSame (ap (λ o. o.answer) e) (ap (λ o. o.world.stacks) e)

  by_row : (p : ProcessOf Page) → process_of w s.pid ≡ Some p → (o : Option (Committed Page)) → committed_at w p.regions (page_of addr) ≡ o → Cases w tid (page_of addr) s whole
  by_row p lives None there = let e = at_bare filled w tid addr s has p lives there in IsRaised raise.AccessViolation (λ is. cc) (ap (λ o. o.answer) e) (ap (λ o. o.world.stacks) e)
  by_row p lives (Some c) there =
      by_choice p lives c there whole c.row.guard (page_of addr == s.guard_page) (is_overflow w p s) (permits c.row.prot access_kind.Read) refl refl refl (reached filled w tid addr s has p lives c there)

  by_process : (o : Option (ProcessOf Page)) → process_of w s.pid ≡ o → Cases w tid (page_of addr) s whole
  by_process None lives = let e = at_ended filled w tid addr s has lives in IsNothing (ap (λ o. o.answer) e) (ap (λ o. o.world.stacks) e)
  by_process (Some p) lives = by_row p lives (committed_at w p.regions (page_of addr)) refl

  pub cases : Cases w tid (page_of addr) s whole
  cases = by_process (process_of w s.pid) refl

  by_answer : (guard : ℕ) (o : OutcomeOf Page) → s.base < s.guard_page → Cases w tid (page_of addr) s o → o.answer ≡ answer.At guard → (page_of guard ≡ s.guard_page) ⊎ ((s.base < page_of guard) × (page_of guard + 1 ≡ s.guard_page))
  by_answer guard o above (IsNothing is stays) e = let bad : answer.Nothing ≡ answer.At guard = sym is ∙ e in cc
  by_answer guard o above (IsRaised r why is stays) e = let bad : answer.Raised r ≡ answer.At guard = sym is ∙ e in cc
  by_answer guard o above (IsSame is stays) e =
      let both : answer.At (address_of s.guard_page) ≡ answer.At guard = sym is ∙ e in
      let same : s.guard_page * 4096 ≡ guard = cc in
      inl (omega (arith, same))
  by_answer guard o above (IsNext there is moves more) e =
      let both : answer.At (address_of (s.guard_page - 1)) ≡ answer.At guard = sym is ∙ e in
      let same : (s.guard_page - 1) * 4096 ≡ guard = cc in
      inr (omega (arith, same, more above), omega (arith, same, more above))

  pub above_the_base : (guard : ℕ) → s.base < s.guard_page → whole.answer ≡ answer.At guard → page_of guard ≢ s.guard_page → (s.base < page_of guard) × (page_of guard + 1 ≡ s.guard_page)
  above_the_base guard above e other = by_case (by_answer guard whole above cases e)
    where
      by_case : (page_of guard ≡ s.guard_page) ⊎ ((s.base < page_of guard) × (page_of guard + 1 ≡ s.guard_page)) → (s.base < page_of guard) × (page_of guard + 1 ≡ s.guard_page)
      by_case (inl same) = absurd (other same)
      by_case (inr h) = h

-- ---- the address that is answered

abbrev Told : ℕ → ℕ → OutcomeOf Page → Type 0
Told guard tid o = IsSomeAnd (stack_by o.world tid) (λ s. address_of s.guard_page ≡ guard)

same_address : (n guard : ℕ) → answer.At (address_of n) ≡ answer.At guard → address_of n ≡ guard
same_address n guard both = let same : n * 4096 ≡ guard = cc in same

told_by : (guard tid : ℕ) (o : OutcomeOf Page) (z : StackOf) → stack_by o.world tid ≡ Some z → address_of z.guard_page ≡ guard → Told guard tid o
told_by guard tid o z e same = subst (λ (x : Option StackOf). IsSomeAnd x (λ s. address_of s.guard_page ≡ guard)) (sym e) same

told_in : (w : World) (tid page guard : ℕ) (s : StackOf) (o : OutcomeOf Page) → stack_by w tid ≡ Some s → Cases w tid page s o → o.answer ≡ answer.At guard → Told guard tid o
told_in w tid page guard s o has (IsNothing is stays) e = let bad : answer.Nothing ≡ answer.At guard = sym is ∙ e in cc
told_in w tid page guard s o has (IsRaised r why is stays) e = let bad : answer.Raised r ≡ answer.At guard = sym is ∙ e in cc
told_in w tid page guard s o has (IsSame is stays) e = told_by guard tid o s (ap (λ (z : Numbered StackOf). numbered z tid) stays ∙ has) (same_address s.guard_page guard (sym is ∙ e))
told_in w tid page guard s o has (IsNext there is moves more) e =
    told_by guard tid o (guard_lowered s) (ap (λ (z : Numbered StackOf). numbered z tid) moves ∙ put_here w.stacks tid s (guard_lowered s) has) (same_address (s.guard_page - 1) guard (sym is ∙ e))

pub told : (w : World) (tid addr guard : ℕ) → (probe filled w tid addr).answer ≡ answer.At guard → Told guard tid (probe filled w tid addr)
told w tid addr guard e = by_stack (stack_by w tid) refl
  where
    by_stack : (x : Option StackOf) → stack_by w tid ≡ x → Told guard tid (probe filled w tid addr)
    by_stack None has = let bad : answer.Nothing ≡ answer.At guard = sym (ap (λ o. o.answer) (at_nobody filled w tid addr has)) ∙ e in cc
    by_stack (Some s) has = told_in w tid (page_of addr) guard s (probe filled w tid addr) has (cases w tid addr s has) e

-- ---- how often it grows

pub no_growth : (x : Option StackOf) → has_grown x x ≡ false
no_growth None = refl
no_growth (Some s) = ap not (is_same s.guard_page s.guard_page refl)

-- a thread without a stack has none after a probe
pub none_grows : (stacks : Numbered StackOf) (tid : ℕ) (probes : List ProbeIn) → numbered stacks tid ≡ None → growths stacks tid probes ≡ 0
none_grows stacks tid [] e = refl
none_grows stacks tid (p ∷ ps) e =
    let after : Numbered StackOf = (probe filled (probed stacks p) tid p.addr).world.stacks in
    let same : after ≡ stacks = ap (λ o. o.world.stacks) (at_nobody filled (probed stacks p) tid p.addr e) in
    let none : one_if (has_grown (numbered stacks tid) (numbered after tid)) ≡ 0 = ap (λ o. one_if (has_grown o (numbered after tid))) e in
    let rest : growths after tid ps ≡ growths stacks tid ps = ap (λ (z : Numbered StackOf). growths z tid ps) same in
    omega (arith, none, rest, none_grows stacks tid ps e)

-- one probe, where the stack that is left grows no more often than it can
module _ (stacks : Numbered StackOf) (tid : ℕ) (s : StackOf) (p : ProbeIn) (ps : List ProbeIn) (has : numbered stacks tid ≡ Some s) (above : s.base < s.guard_page) (rest : (stacks : Numbered StackOf) (s : StackOf) → numbered stacks tid ≡ Some s → s.base < s.guard_page → growths stacks tid ps + s.base + 1 ≤ s.guard_page) where
  abbrev after : Numbered StackOf
  after = (probe filled (probed stacks p) tid p.addr).world.stacks

  -- nothing has changed
  at_same : after ≡ stacks → growths stacks tid (p ∷ ps) + s.base + 1 ≤ s.guard_page
  at_same z =
      let none : one_if (has_grown (numbered stacks tid) (numbered after tid)) ≡ 0 = (λ i. one_if (has_grown (numbered stacks tid) (numbered (z i) tid))) ∙ ap one_if (no_growth (numbered stacks tid)) in
      let again : growths after tid ps ≡ growths stacks tid ps = ap (λ (z : Numbered StackOf). growths z tid ps) z in
      omega (arith, none, again, rest stacks s has above)

  one_probe : Cases (probed stacks p) tid (page_of p.addr) s (probe filled (probed stacks p) tid p.addr) → growths stacks tid (p ∷ ps) + s.base + 1 ≤ s.guard_page
  one_probe (IsNothing is stays) = at_same stays
  one_probe (IsRaised r why is stays) = at_same stays
  one_probe (IsSame is stays) = at_same stays
  one_probe (IsNext there is moves more) =
      let now : numbered after tid ≡ Some (guard_lowered s) = ap (λ (z : Numbered StackOf). numbered z tid) moves ∙ put_here stacks tid s (guard_lowered s) has in
      let after_it : growths after tid ps + s.base + 1 ≤ s.guard_page - 1 = rest after (guard_lowered s) now (omega (arith, more above)) in
      omega (arith, more above, after_it, one_at_most (has_grown (numbered stacks tid) (numbered after tid)))

pub bounded : (stacks : Numbered StackOf) (tid : ℕ) (s : StackOf) (probes : List ProbeIn) → numbered stacks tid ≡ Some s → s.base < s.guard_page → growths stacks tid probes + s.base + 1 ≤ s.guard_page
bounded stacks tid s [] has above = omega (arith, above)
bounded stacks tid s (p ∷ ps) has above =
    one_probe stacks tid s p ps has above (λ z y there higher. bounded z tid y ps there higher) (cases (probed stacks p) tid p.addr s has)

-- ---- a stack that was made

pub record IsMade (w : World) (tid pid reserve commit : ℕ) (o : OutcomeOf Page) : Type 0 where
  pub first : ℕ
  pub stacks : o.world.stacks ≡ set w.stacks tid (Some (record { pid = pid; base = first; guard_page = first + reserve_pages reserve - (commit_pages commit + 1) }))
  pub enough : commit_pages commit + 2 ≤ reserve_pages reserve

-- an answer with a stack is one of a stack that was made
record IfMade (w : World) (tid pid reserve commit : ℕ) (o : OutcomeOf Page) : Type 0 where
  made : (base size guard : ℕ) → o.answer ≡ answer.Stack base size guard → IsMade w tid pid reserve commit o

module _ (w : World) (tid pid reserve commit : ℕ) where
  by_refusal : (why : Code) → Holds (IfMade w tid pid reserve commit) (refused w why)
  by_refusal why = record { it = record { made = λ base size guard e. cc } }

  by_busy : Holds (IfMade w tid pid reserve commit) (done answer.Busy w)
  by_busy = record { it = record { made = λ base size guard e. cc } }

  by_room : (p : ProcessOf Page) (first : ℕ) (a : Answer) → nat_le (commit_pages commit + 2) (reserve_pages reserve) ≡ true
      → Holds (IfMade w tid pid reserve commit) (done a (set_stack (set_regions w pid p (add_region (stack_region filled first (reserve_pages reserve) (commit_pages commit)) p.regions)) tid
      (record { pid = pid; base = first; guard_page = first + reserve_pages reserve - (commit_pages commit + 1) })))
  by_room p first a fits = record { it = record { made = λ base size guard e. record { first = first; stacks = refl; enough = leb-true _ _ fits } } }

  if_made : Holds (IfMade w tid pid reserve commit) (stack filled w tid pid reserve commit)
  if_made = search (tables, by_refusal, by_busy, by_room) depth 14

-- what stands where something was put
put_there : {A : Type 0} (xs : List (Option A)) (i : ℕ) (x y : A) → get_or (set xs i (Some x)) i None ≡ Some y → x ≡ y
put_there [] zero x y e = cc
put_there [] (suc i) x y e = cc
put_there (a ∷ xs) zero x y e = let same : x ≡ y = cc in same
put_there (a ∷ xs) (suc i) x y e = put_there xs i x y e

pub made_bounded : (w : World) (tid pid reserve commit base size guard : ℕ) (probes : List ProbeIn) → (stack filled w tid pid reserve commit).answer ≡ answer.Stack base size guard → growths (stack filled w tid pid reserve commit).world.stacks tid probes + commit_pages commit + 2 ≤ reserve_pages reserve
made_bounded w tid pid reserve commit base size guard probes e = by_stack (numbered after tid) refl
  where
    made : IsMade w tid pid reserve commit (stack filled w tid pid reserve commit)
    made = (if_made w tid pid reserve commit).it.made base size guard e

    new : StackOf
    new = record { pid = pid; base = made.first; guard_page = made.first + reserve_pages reserve - (commit_pages commit + 1) }

    after : Numbered StackOf
    after = (stack filled w tid pid reserve commit).world.stacks

    by_stack : (o : Option StackOf) → numbered after tid ≡ o → growths after tid probes + commit_pages commit + 2 ≤ reserve_pages reserve
    by_stack None is = omega (arith, made.enough, none_grows after tid probes is)
    by_stack (Some s) is =
        let same : new ≡ s = put_there w.stacks tid new s (ap (λ (z : Numbered StackOf). numbered z tid) (sym made.stacks) ∙ is) in
        let base_is : s.base ≡ made.first = sym (ap (λ (s : StackOf). s.base) same) in
        let guard_is : s.guard_page ≡ made.first + reserve_pages reserve - (commit_pages commit + 1) = sym (ap (λ (s : StackOf). s.guard_page) same) in
        omega (arith, made.enough, base_is, guard_is, bounded after tid s probes is (omega (arith, made.enough, base_is, guard_is)))

-- ---- where it is raised that nothing is left

pub overflow_is : (w : World) (tid addr : ℕ) → (probe filled w tid addr).answer ≡ answer.Raised raise.StackOverflow → Overflows w tid (page_of addr)
overflow_is w tid addr e = by_has (stack_by w tid) refl
  where
    by_case : (s : StackOf) → Cases w tid (page_of addr) s (probe filled w tid addr) → Overflows w tid (page_of addr)
    by_case s (IsRaised r why is stays) = let both : answer.Raised r ≡ answer.Raised raise.StackOverflow = sym is ∙ e in why (cc)
    by_case s (IsNothing is stays) = let bad : answer.Nothing ≡ answer.Raised raise.StackOverflow = sym is ∙ e in cc
    by_case s (IsSame is stays) = let bad : answer.At (address_of s.guard_page) ≡ answer.Raised raise.StackOverflow = sym is ∙ e in cc
    by_case s (IsNext there is moves more) = let bad : answer.At (address_of (s.guard_page - 1)) ≡ answer.Raised raise.StackOverflow = sym is ∙ e in cc

    by_has : (o : Option StackOf) → stack_by w tid ≡ o → Overflows w tid (page_of addr)
    by_has None has = let bad : answer.Nothing ≡ answer.Raised raise.StackOverflow = sym (ap (λ o. o.answer) (at_nobody filled w tid addr has)) ∙ e in cc
    by_has (Some s) has = by_case s (cases w tid addr s has)

pub overflow_raised : (w : World) (tid addr : ℕ) → Overflows w tid (page_of addr) → (probe filled w tid addr).answer ≡ answer.Raised raise.StackOverflow
overflow_raised w tid addr h =
    ap (λ o. o.answer)
    (at_overflow filled w tid addr h.stack h.has h.process h.lives h.committed h.there h.guard_on (is_same (page_of addr) h.stack.guard_page h.on_guard_page) (overflows w h.process h.stack h.nothing_left))

-- ---- where a probe makes a stack grow

-- ---- a stack that grows

lower_is_other : (s : StackOf) → s.base < s.guard_page → has_grown (Some s) (Some (guard_lowered s)) ≡ true
lower_is_other s above = ap not (not_true ((s.guard_page - 1) == s.guard_page) (λ e. absurd (omega (arith, above, same_number (s.guard_page - 1) s.guard_page e))))

module _ {B : Type 0} (fill : ℕ → B) (w v : WorldOf B) (tid : ℕ) (s : StackOf) (has : stack_by w tid ≡ Some s) (same : v.stacks ≡ w.stacks) where
  pub grown_has : stack_by (grown fill v tid s).world tid ≡ Some (guard_lowered s)
  grown_has =
      ap (λ (z : Numbered StackOf). numbered (set z tid (Some (guard_lowered s))) tid) (alloc_stacks fill v s.pid (address_of (s.guard_page - 1)) 1 commit_type 0x104 ∙ same)
      ∙ put_here w.stacks tid s (guard_lowered s) has

  -- where a probe comes to a growth
  pub grows_by : (addr : ℕ) → s.base < s.guard_page → probe fill w tid addr ≡ grown fill v tid s → grows fill w tid addr ≡ true
  grows_by addr above e = (λ i. has_grown (has i) ((ap (λ (o : OutcomeOf B). stack_by o.world tid) e ∙ grown_has) i)) ∙ lower_is_other s above

-- ---- on the tables and on a world

-- it makes the stack of a world grow where it makes that of the world's tables
pub grows_with : (t : Tables) (bytes : Key → Page) (tid addr : ℕ) → grows filled (world_with t bytes) tid addr ≡ grows blank t tid addr
grows_with t bytes tid addr =
    ap (λ (o : OutcomeOf (Unit {0})). has_grown (stack_by t tid) (stack_by o.world tid))
    (sym (ap (λ (t : Tables). probe blank t tid addr) (sym (tables_back bytes t)) ∙ (in_probe no_bytes filled (world_with t bytes) tid addr).same))

-- it answers the same
pub stack_with : (t : Tables) (bytes : Key → Page) (tid pid reserve commit : ℕ) → (stack filled (world_with t bytes) tid pid reserve commit).answer ≡ (stack blank t tid pid reserve commit).answer
stack_with t bytes tid pid reserve commit =
    ap (λ (o : OutcomeOf (Unit {0})). o.answer)
    (sym (ap (λ (t : Tables). stack blank t tid pid reserve commit) (sym (tables_back bytes t)) ∙ (in_stack no_bytes filled (world_with t bytes) tid pid reserve commit).same))

-- ---- exactly where a stack grows

-- it is not so where the stacks are as before
stayed : (w : World) (tid addr : ℕ) → grows filled w tid addr ≡ true → (probe filled w tid addr).world.stacks ≡ w.stacks → true ≡ false
stayed w tid addr e same = sym e ∙ ap (λ (z : Numbered StackOf). has_grown (stack_by w tid) (numbered z tid)) same ∙ no_growth (stack_by w tid)

pub grows_there : (w : World) (tid addr : ℕ) (s : StackOf) → stack_by w tid ≡ Some s → grows filled w tid addr ≡ true → StackGrows w s (page_of addr)
grows_there w tid addr s has e = by_case (cases w tid addr s has)
  where
    by_case : Cases w tid (page_of addr) s (probe filled w tid addr) → StackGrows w s (page_of addr)
    by_case (IsNext there is moves more) = there
    by_case (IsNothing is stays) = let bad = stayed w tid addr e stays in cc
    by_case (IsRaised r why is stays) = let bad = stayed w tid addr e stays in cc
    by_case (IsSame is stays) = let bad = stayed w tid addr e stays in cc

pub there_grows : (w : World) (tid addr : ℕ) (s : StackOf) → stack_by w tid ≡ Some s → s.base < s.guard_page → StackGrows w s (page_of addr) → grows filled w tid addr ≡ true
there_grows w tid addr s has above h =
    grows_by filled w (guard_off w s.pid h.process h.committed (page_of addr)) tid s has refl addr above
    (at_growth filled w tid addr s has h.process h.lives h.committed h.there h.guard_on (is_same (page_of addr) s.guard_page h.on_guard_page) h.something_left)

-- ---- where a stack stands in its region, the next guard page is committed

-- a world in which a guard is off is well formed
guard_keeps : (w : World) (pid : ℕ) (p : ProcessOf Page) (c : Committed Page) (page : ℕ) → process_of w pid ≡ Some p → committed_at w p.regions page ≡ Some c → WellFormed w → WellFormed (guard_off w pid p c page)
guard_keeps w pid p c page lives there h =
    let v = guard_off w pid p c page in
    let es = lines.guard_edits (any_terms answer.Ok) w pid p c page lives there in
    record {
      numbers = numbers_kept (any_terms answer.Ok) w v es h.numbers;
      spaces = spaces_kept (any_terms answer.Ok) w v es h.spaces;
      references = references_kept (any_terms answer.Ok) w v es h.references;
      charged = omega (arith, h.charged, charge-guard_off w pid p c page lives there);
    }

-- a committed page of a private region has bytes of its own
own_there : (w : World) (i : ℕ) (k : Kind) (own : Option Page) (home : Home Page) → k ≡ kind.Private → home_in w i k own ≡ Some home → is_some own ≡ true
own_there w i k (Some x) home private e = refl
own_there w i kind.Private None home private e = cc
own_there w i (kind.View v) None home private e = let bad : false ≡ true = ap is_private private in cc

module _ (w : World) (s : StackOf) (p : ProcessOf Page) (h : WellFormed w) (stands : StackStandsIn w s p) where
  abbrev next : ℕ
  next = s.guard_page - 1

  record IsRowOf (page : ℕ) (c : Committed Page) : Type 0 where
    pub place : c.region.place ≡ stands.place
    pub thing : c.region.thing ≡ stands.region
    pub row : slice_get stands.region.rows (page - stands.region.base) ≡ Some c.row
    pub own : is_some c.row.own ≡ true

  row_of : (page : ℕ) (c : Committed Page) → committed_at w p.regions page ≡ Some c → s.base ≤ page → page ≤ s.guard_page → IsRowOf page c
  row_of page c there low high =
      let is = committed_is w p.regions page c there in
      let found = found_stands (λ (r : RegionOf Page). holds_page (pages_of r) page) p.regions c.region is.region in
      let place = same_place w s.pid page c.region.place stands.place p c.region.thing stands.region h stands.lives found.there stands.there found.passes
      (holds (pages_of stands.region) page (omega (arith, low, stands.based)) (omega (arith, high, stands.within))) in
      let things : Some c.region.thing ≡ Some stands.region = sym found.there ∙ ap (slice_get p.regions) place ∙ stands.there in
      let thing : c.region.thing ≡ stands.region = cc in
      record {
        place = place;
        thing = thing;
        row = ap (λ (r : RegionOf Page). row_at r page) (sym thing) ∙ is.row_there;
        own = own_there w (page - c.region.thing.base) c.region.thing.kind c.row.own c.home (ap (λ (r : RegionOf Page). r.kind) thing ∙ stands.private) is.home_there;
      }

  module _ (c : Committed Page) (there : committed_at w p.regions s.guard_page ≡ Some c) (more : is_overflow w p s ≡ false) where
    abbrev new : RegionOf Page
    new = record c.region.thing { rows = set c.region.thing.rows (s.guard_page - c.region.thing.base) (record c.row { guard = false }) }

    abbrev guard_gone : World
    guard_gone = guard_off w s.pid p c s.guard_page

    abbrev q : ProcessOf Page
    q = record p { regions = set p.regions c.region.place new }

    guard_row : IsRowOf s.guard_page c
    guard_row = row_of s.guard_page c there (omega (arith, stands.above)) (omega arith)

    at_base : c.region.thing.base ≡ s.base
    at_base = ap (λ (r : RegionOf Page). r.base) guard_row.thing ∙ stands.based

    lives : process_of guard_gone s.pid ≡ Some q
    lives = process_set_same w s.pid p (set p.regions c.region.place new) stands.lives

    stood : slice_get p.regions c.region.place ≡ Some c.region.thing
    stood = (found_stands (λ (r : RegionOf Page). holds_page (pages_of r) s.guard_page) p.regions c.region (committed_is w p.regions s.guard_page c there).region).there

    here : slice_get q.regions c.region.place ≡ Some new
    here = get_set_same p.regions c.region.place new (get_within p.regions c.region.place c.region.thing stood)

    abbrev range : Range
    range = range_of (address_of next) 1

    first_is : range.first ≡ next
    first_is = omega (arith, stands.above)

    one_page : range.count ≡ 1
    one_page = omega (arith, stands.above)

    same_length : length new.rows ≡ length stands.region.rows
    same_length = length-set c.region.thing.rows (s.guard_page - c.region.thing.base) (record c.row { guard = false }) ∙ ap (λ (r : RegionOf Page). length r.rows) guard_row.thing

    inside : Inside range (pages_of new)
    inside = record {
      low = omega (arith, first_is, at_base, stands.above);
      high = omega (arith, first_is, one_page, at_base, stands.within, stands.based, same_length, stands.above);
    }

    private : new.kind ≡ kind.Private
    private = ap (λ (r : RegionOf Page). r.kind) guard_row.thing ∙ stands.private

    abbrev found : Found (RegionOf Page)
    found = record { place = c.region.place; thing = new }

    around : region_around q.regions range ≡ Some found
    around = around_is guard_gone s.pid q c.region.place new range lives (guard_keeps w s.pid p c s.guard_page stands.lives there h) here inside (omega (arith, one_page))

    abbrev grown_next : OutcomeOf Page
    grown_next = done (answer.At (address_of range.first)) (set_region guard_gone s.pid q c.region.place (change_rows (commit (filled 0) 0x104) range new))

    commit_reached : alloc filled guard_gone s.pid (address_of next) 1 commit_type 0x104 ≡ within_limit guard_gone grown_next
    commit_reached =
        alloc_commits filled guard_gone s.pid next q lives (omega (arith, not_next w p s more stands.above))
        ∙ at_found guard_gone code.InvalidAddress (region_around q.regions range) found (λ r. commit_in filled guard_gone s.pid q r r.thing.kind range 0x104) around
        ∙ ap (λ k. commit_in filled guard_gone s.pid q found k range 0x104) private

    charged : charge grown_next.world + count_by has_own (in_range range new) ≡ charge w + 1
    charged =
        omega (
          arith,
          charge-set_region guard_gone s.pid q c.region.place new (change_rows (commit (filled 0) 0x104) range new) lives here,
          rows.charge_of_commit (commit (filled 0) 0x104) (λ row. refl) range new (ap is_private private) (record { low = inside.low; high = inside.high }),
          charge-guard_off w s.pid p c s.guard_page stands.lives there,
          one_page,
        )

    -- a page that is committed is not charged again
    owned : (d : Committed Page) → committed_at w p.regions next ≡ Some d → count_by has_own (in_range range new) ≡ 1
    owned d at =
        let r = row_of next d at (omega (arith, stands.above)) (omega arith) in
        let k : range.first - new.base ≡ next - stands.region.base = omega (arith, first_is, at_base, stands.based) in
        let other : slice_get new.rows (next - stands.region.base) ≡ Some d.row =
        get_set_other c.region.thing.rows (s.guard_page - c.region.thing.base) (next - stands.region.base) (record c.row { guard = false }) (λ e. absurd (omega (arith, e, at_base, stands.based, stands.above)))
        ∙ ap (λ (r : RegionOf Page). slice_get r.rows (next - stands.region.base)) guard_row.thing ∙ r.row in
        let index : next - stands.region.base + 0 ≡ next - stands.region.base = omega arith in
        let one = count-next has_own new.rows (next - stands.region.base) 0 d.row (ap (slice_get new.rows) index ∙ other) in
        (λ i. count_by has_own (take (one_page i) (drop (k i) new.rows))) ∙ one ∙ ap (λ b. 0 + cond b 1 0) r.own

    abbrev next_bare : Bool
    next_bare = is_none (committed_at w p.regions next)

    abbrev is_full : Bool
    is_full = charge w == limit w

    in_limit : charge grown_next.world ≤ limit w
    in_limit = by_row (committed_at w p.regions next) refl (or-false (next == s.base) (next_bare && is_full) more).1
      where
        by_full : (b : Bool) → is_full ≡ b → (true && b) ≡ false → charge w < limit w
        by_full true is e = cc
        by_full false is e = by_order (leb (charge w + 1) (limit w)) refl
          where
            by_order : (b : Bool) → leb (charge w + 1) (limit w) ≡ b → charge w < limit w
            by_order true h' = omega (arith, leb-true (charge w + 1) (limit w) h')
            by_order false h' = let bad : false ≡ true = sym is ∙ is_same (charge w) (limit w) (omega (arith, h.charged, leb-false (charge w + 1) (limit w) h')) in cc

        by_row : (o : Option (Committed Page)) → committed_at w p.regions next ≡ o → (is_none o && is_full) ≡ false → charge grown_next.world ≤ limit w
        by_row None at e = omega (arith, charged, by_full is_full refl e)
        by_row (Some d) at e = omega (arith, charged, owned d at, h.charged)

    pub succeeds : (alloc filled guard_gone s.pid (address_of next) 1 commit_type 0x104).answer ≡ answer.At (address_of next)
    succeeds = ap (λ o. o.answer) (commit_reached ∙ at_room guard_gone grown_next in_limit) ∙ ap (λ n. answer.At (address_of n)) first_is
