-- What the definition of a `probe` line comes to.
use Rattle.std.proofs.Common.{◌≡◌, ◌≤◌, ◌*◌, ℕ, Bool, true, false, Some, None, refl, ◌∙◌, ap, cond, not, arith, ◌&&◌, ◌||◌, option_map}
use Rattle.std.specs.Prelude.{◌==◌}
use Rattle.std.specs.Cmp.{unsigned_Decides}
use Rattle.std.proofs.lemmas.Option.{option_and_then_some}
use Rattle.mm_types.specs.declared.answers.Answer.TheVariants as answer
use Rattle.mm_types.specs.declared.codes.Raise.TheVariants as raise
use Rattle.mm_types.specs.declared.protections.Access.TheVariants as access_kind
use Rattle.mm_types.specs.{address_of, page_of, range_of, permits, commit_type}
use Rattle.mm_world.specs.{WorldOf, ProcessOf, StackOf, process_of, stack_by, Committed, committed_at, guard_off, OutcomeOf, done, alloc, reserve}
use Rattle.mm_world.specs.{Tables, probe, probe_of, probe_in, probe_at, grown, is_overflow}
use Rattle.mm_world.specs.Alloc.{commit_pages}
use Rattle.mm_object_tables.specs.{CommittedRow, committed_row, told_committed}
use Rattle.mm_world.proofs.{at_alive}
use Rattle.mm_calls.proofs.Around.{mapped}

module _ {B : Type 0} (fill : ℕ → B) (w : WorldOf B) (tid addr : ℕ) where
  pub at_nobody : stack_by w tid ≡ None → probe fill w tid addr ≡ done answer.Nothing w
  at_nobody e = ap (probe_of fill w tid (page_of addr)) e

  module _ (s : StackOf) (has : stack_by w tid ≡ Some s) where
    pub at_ended : process_of w s.pid ≡ None → probe fill w tid addr ≡ done answer.Nothing w
    at_ended e = ap (probe_of fill w tid (page_of addr)) has ∙ ap (probe_in fill w tid s (page_of addr)) e

    module _ (p : ProcessOf B) (lives : process_of w s.pid ≡ Some p) where
      in_process : probe fill w tid addr ≡ probe_at fill w tid p s (page_of addr) (committed_at w p.regions (page_of addr))
      in_process = ap (probe_of fill w tid (page_of addr)) has ∙ ap (probe_in fill w tid s (page_of addr)) lives

      pub at_bare : committed_at w p.regions (page_of addr) ≡ None → probe fill w tid addr ≡ done (answer.Raised raise.AccessViolation) w
      at_bare e = in_process ∙ ap (probe_at fill w tid p s (page_of addr)) e

      module _ (c : Committed B) (there : committed_at w p.regions (page_of addr) ≡ Some c) where
        abbrev pub off : WorldOf B
        off = guard_off w s.pid p c (page_of addr)

        -- by whether the guard is on, the page is the guard page, nothing is left, and it may be read
        abbrev pub chosen : Bool → Bool → Bool → Bool → OutcomeOf B
        chosen guarded same overflow read =
            cond (guarded && not same) (done (answer.Raised raise.GuardPage) off)
            (cond (guarded && overflow) (done (answer.Raised raise.StackOverflow) off)
            (cond guarded (grown fill off tid s)
            (cond (not read) (done (answer.Raised raise.AccessViolation) w)
            (done (answer.At (address_of s.guard_page)) w))))

        abbrev pub same : Bool
        same = page_of addr == s.guard_page

        abbrev pub read : Bool
        read = permits c.row.prot access_kind.Read

        pub reached : probe fill w tid addr ≡ chosen c.row.guard same (is_overflow w p s) read
        reached = in_process ∙ ap (probe_at fill w tid p s (page_of addr)) there

        pub at_other : c.row.guard ≡ true → same ≡ false → probe fill w tid addr ≡ done (answer.Raised raise.GuardPage) off
        at_other on other = reached ∙ (λ i. chosen (on i) (other i) (is_overflow w p s) read)

        pub at_overflow : c.row.guard ≡ true → same ≡ true → is_overflow w p s ≡ true → probe fill w tid addr ≡ done (answer.Raised raise.StackOverflow) off
        at_overflow on here full = reached ∙ (λ i. chosen (on i) (here i) (full i) read)

        pub at_growth : c.row.guard ≡ true → same ≡ true → is_overflow w p s ≡ false → probe fill w tid addr ≡ grown fill off tid s
        at_growth on here more = reached ∙ (λ i. chosen (on i) (here i) (more i) read)

-- ---- what was told of a page

pub record IsTold (t : Tables) (pid page : ℕ) (row : CommittedRow) : Type 0 where
  pub process : ProcessOf (Unit {0})
  pub lives : process_of t pid ≡ Some process
  pub committed : Committed (Unit {0})
  pub there : committed_at t process.regions page ≡ Some committed
  pub guard : committed.row.guard ≡ row.guard
  pub prot : committed.row.prot ≡ row.prot.0

pub told : (t : Tables) (pid page : ℕ) (row : CommittedRow) → committed_row t pid page ≡ Some row → IsTold t pid page row
told t pid page row e =
    option_and_then_some (λ (p : ProcessOf (Unit {0})). option_map (told_committed pid page) (committed_at t p.regions page)) (process_of t pid) row e (λ p lives at.
    let c = mapped (told_committed pid page) (committed_at t p.regions page) row at in
    record { process = p; lives = lives; committed = c.0; there = c.1.0; guard = ap (λ (r : CommittedRow). r.guard) c.1.1; prot = ap (λ (r : CommittedRow). r.prot.0) c.1.1 })

-- ---- growth

-- a page is committed by `alloc` as by a commit
pub alloc_commits : {B : Type 0} (fill : ℕ → B) (w : WorldOf B) (pid page : ℕ) (p : ProcessOf B) → process_of w pid ≡ Some p → 1 ≤ page → alloc fill w pid (address_of page) 1 commit_type 0x104 ≡ commit_pages fill w pid p (range_of (address_of page) 1) 0x104
alloc_commits fill w pid page p lives some =
    at_alive w pid p _ lives ∙ ap (λ b. cond (b || false) (reserve fill w pid p (address_of page) 1 false commit_type 0x104) (commit_pages fill w pid p (range_of (address_of page) 1) 0x104)) (not_zero (address_of page == 0) refl)
  where
    not_zero : (b : Bool) → (address_of page == 0) ≡ b → (address_of page == 0) ≡ false
    not_zero true e = let none : page * 4096 ≡ 0 = (unsigned_Decides (address_of page) 0).0 e in absurd (omega (arith, none, some))
    not_zero false e = e
