-- What `probe` comes to, from what the tables told of the page.
use Rattle.std.proofs.Common.{◌≡◌, ◌≢◌, ◌<◌, ◌-◌, ℕ, true, false, Option, Some, refl, sym, ◌∙◌, ap, ◌≤◌, ◌+◌, arith, set, nat_le, nat_lt}
use Rattle.std.specs.Prelude.{◌==◌, min}
use Rattle.std.proofs.lemmas.Bool.{leb-true}
use Rattle.mm_types.specs.{Answer, Key, address_of, page_of, commit_type, Range, range_of, holds_page, end_of, first_user_page, end_of_user_pages}
use Rattle.mm_types.proofs.{not_true}
use Rattle.mm_types.specs.declared.answers.Answer.TheVariants as answer
use Rattle.mm_types.specs.declared.codes.Raise.TheVariants as raise
use Rattle.mm_world.specs.{Page, ProcessOf, StackOf, process_of, stack_by, set_stack, Tables, blank, Committed, committed_at, guard_off, done, probe}
use Rattle.mm_world.specs.{grown, is_overflow, alloc, RegionOf, pages_of, charge, limit, OutcomeOf}
use Rattle.mm_world.proofs.{equal as is_same, same_page as same_number, charge-guard_off, is_placed, found_stands, committed_is, and-true}
use Rattle.mm_world.specs.Alloc.{commit_pages}
use Rattle.mm_world.specs.WellFormed.{WellFormed}
use Rattle.mm_store.specs.{StoreOf}
use Rattle.mm_object_tables.specs.{CommittedRow, FitsTables, Settled, committed_row}
use Rattle.mm_object_tables.proofs.{process_set_same}
use Rattle.mm_calls.specs.{grows, guard_lowered}
use Rattle.mm_calls.proofs.Growths.{grows_by}
use Rattle.mm_calls.proofs.Touching.{IsTold, told, at_other, at_overflow, at_growth, alloc_commits}

-- other tables, which any store fits that fits these
pub settled_then : (u v : Tables) (c d : Key → Option Page) (s z : StoreOf) → ((c : Key → Option Page) (s : StoreOf) → FitsTables u c s → FitsTables v c s) → Settled u c d s z → Settled v c d s z
settled_then u v c d s z keeps h = record { fits = keeps d z h.fits; carries = h.carries; rest = h.rest }

-- what took a guard off
abbrev pub TakesOff : Tables → ℕ → ℕ → Tables → Type 0
TakesOff t pid page v = (p : ProcessOf (Unit {0})) (c : Committed (Unit {0})) → process_of t pid ≡ Some p → committed_at t p.regions page ≡ Some c → v ≡ guard_off t pid p c page

pub takes_off : (t : Tables) (pid n page m : ℕ) (v : Tables) → n ≡ pid → m ≡ page → TakesOff t n m v → TakesOff t pid page v
takes_off t pid n page m v ns ms h p c lives there =
    h p c (ap (λ (n : ℕ). process_of t n) ns ∙ lives) (ap (λ (m : ℕ). committed_at t p.regions m) ms ∙ there) ∙ (λ i. guard_off t (ns i) p c (ms i))

-- the thread has this stack, and the page of the address has this row, with its guard on
pub record MeetsGuard (t : Tables) (tid addr : ℕ) (s : StackOf) (row : CommittedRow) : Type 0 where
  pub has : stack_by t tid ≡ Some s
  pub at : committed_row t s.pid (page_of addr) ≡ Some row
  pub on : row.guard ≡ true

module _ (t : Tables) (tid addr : ℕ) (s : StackOf) (row : CommittedRow) (meets : MeetsGuard t tid addr s row) where
  abbrev page : ℕ
  page = page_of addr

  has : stack_by t tid ≡ Some s
  has = meets.has

  is : IsTold t s.pid page row
  is = told t s.pid page row meets.at

  guarded : is.committed.row.guard ≡ true
  guarded = is.guard ∙ meets.on

  pub of_other : page ≢ s.guard_page → (v : Tables) → TakesOff t s.pid page v → probe blank t tid addr ≡ record { answer = answer.Raised raise.GuardPage; world = v }
  of_other other v off =
      at_other blank t tid addr s has is.process is.lives is.committed is.there guarded (not_true (page == s.guard_page) (λ e. other (same_number page s.guard_page e)))
      ∙ (λ i. done (answer.Raised raise.GuardPage) (sym (off is.process is.committed is.lives is.there) i))

  module _ (here : page ≡ s.guard_page) where
    there : committed_at t is.process.regions s.guard_page ≡ Some is.committed
    there = ap (λ (n : ℕ). committed_at t is.process.regions n) (sym here) ∙ is.there

    pub of_overflow : ((p : ProcessOf (Unit {0})) → process_of t s.pid ≡ Some p → is_overflow t p s ≡ true) → (v : Tables) → TakesOff t s.pid s.guard_page v → probe blank t tid addr ≡ record { answer = answer.Raised raise.StackOverflow; world = v }
    of_overflow full v off =
        at_overflow blank t tid addr s has is.process is.lives is.committed is.there guarded (is_same page s.guard_page here) (full is.process is.lives)
        ∙ (λ i. done (answer.Raised raise.StackOverflow) (guard_off t s.pid is.process is.committed (here i)))
        ∙ (λ i. done (answer.Raised raise.StackOverflow) (sym (off is.process is.committed is.lives there) i))

    pub of_growth : ((p : ProcessOf (Unit {0})) → process_of t s.pid ≡ Some p → is_overflow t p s ≡ false) → (u v : Tables) → ((p : ProcessOf (Unit {0})) (c : Committed (Unit {0})) → process_of t s.pid ≡ Some p → committed_at t p.regions s.guard_page ≡ Some c → u ≡ (alloc blank (guard_off t s.pid p c s.guard_page) s.pid (address_of (s.guard_page - 1)) 1 commit_type 0x104).world) → v ≡ set_stack u tid (guard_lowered s) → (a : Answer) → a ≡ answer.At (address_of (s.guard_page - 1)) → probe blank t tid addr ≡ record { answer = a; world = v }
    of_growth more u v commits lowers a said =
        at_growth blank t tid addr s has is.process is.lives is.committed is.there guarded (is_same page s.guard_page here) (more is.process is.lives)
        ∙ (λ i. grown blank (guard_off t s.pid is.process is.committed (here i)) tid s)
        ∙ (λ i. done (sym said i) (set_stack (sym (commits is.process is.committed is.lives there) i) tid (guard_lowered s)))
        ∙ ap (λ (v : Tables). done a v) (sym lowers)

    pub grows_here : s.base < s.guard_page → ((p : ProcessOf (Unit {0})) → process_of t s.pid ≡ Some p → is_overflow t p s ≡ false) → grows blank t tid addr ≡ true
    grows_here above more =
        grows_by blank t (guard_off t s.pid is.process is.committed page) tid s has refl addr above
        (at_growth blank t tid addr s has is.process is.lives is.committed is.there guarded (is_same page s.guard_page here) (more is.process is.lives))

-- ---- a guard that was taken off, and a growth on the tables

module _ (t : Tables) (pid page : ℕ) (p : ProcessOf (Unit {0})) (c : Committed (Unit {0})) (lives : process_of t pid ≡ Some p) (there : committed_at t p.regions page ≡ Some c) where
  -- a committed page is a user page
  pub past_first : WellFormed t → 16 ≤ page
  past_first h =
      let is = committed_is t p.regions page c there in
      let found = found_stands (λ (r : RegionOf (Unit {0})). holds_page (pages_of r) page) p.regions c.region is.region in
      let placed = is_placed t pid c.region.place p c.region.thing h lives found.there in
      let user = and-true (nat_le first_user_page c.region.thing.base) (nat_le (end_of (pages_of c.region.thing)) end_of_user_pages) placed.1 in
      let held = and-true (nat_le c.region.thing.base page) (nat_lt page (end_of (pages_of c.region.thing))) found.passes in
      omega (arith, leb-true _ _ user.0, leb-true _ _ held.0)

  module _ (v : Tables) (is : v ≡ guard_off t pid p c page) (range : Range) (next : range ≡ range_of (address_of (page - 1)) 1) where
    -- there is room for one page more, as far as the limit allows it
    pub room_there : (total room : ℕ) → total ≡ min (charge t + 1) (limit t) → total ≤ room → min (charge v + range.count) (limit v) ≤ room
    room_there total room at more =
        let charged : charge v ≡ charge t = ap (λ (t : Tables). charge t) is ∙ charge-guard_off t pid p c page lives there in
        let limited : limit v ≡ limit t = ap (λ (t : Tables). limit t) is in
        let count : range.count ≡ 1 = omega (arith, ap (λ (r : Range). r.count) next) in
        let same : min (charge v + range.count) (limit v) ≡ min (charge t + 1) (limit t) = (λ i. min (charged i + count i) (limited i)) in
        omega (arith, same, at, more)

    pub grown_is : (u : Tables) (a : Answer) → 2 ≤ page → ((q : ProcessOf (Unit {0})) → process_of v pid ≡ Some q → commit_pages blank v pid q range 0x104 ≡ record { answer = a; world = u }) → u ≡ (alloc blank (guard_off t pid p c page) pid (address_of (page - 1)) 1 commit_type 0x104).world
    grown_is u a some committed =
        let off : Tables = guard_off t pid p c page in
        let q : ProcessOf (Unit {0}) = record p { regions = set p.regions c.region.place (record c.region.thing { rows = set c.region.thing.rows (page - c.region.thing.base) (record c.row { guard = false }) }) } in
        let now : process_of off pid ≡ Some q = process_set_same t pid p q.regions lives in
        let whole : alloc blank off pid (address_of (page - 1)) 1 commit_type 0x104 ≡ record { answer = a; world = u } =
        alloc_commits blank off pid (page - 1) q now (omega (arith, some))
        ∙ (λ i. commit_pages blank (sym is i) pid q (sym next i) 0x104)
        ∙ committed q (ap (λ (t : Tables). process_of t pid) is ∙ now) in
        sym (ap (λ (o : OutcomeOf (Unit {0})). o.world) whole)
