use Rattle.std.proofs.Common.{◌≡◌, false, true, refl, inl, inr}
use Rattle.mm_run.specs.declared.forms.WordsForm.TheVariants as form
use Rattle.mm_run.specs.{IsBulk, IsRunForm}
use Rattle.mm_run.proofs.{exact, usage, not_usage, accounted_memory, bulk_same, form_said, no_run, one_bulk}
use Rattle.mm_run.proofs.top.run.Goals as goal
use Rattle.mm_run.proofs.top.run.Goals.{In-Ok-Some-Bulk, In-Ok-Some-Run}
use Rattle.mm_run.proofs.top.run.Given as given

bulk_says : (g : given.Over) (c : In-Ok-Some-Bulk g) → IsBulk c.args.words.now c.in-Ok-Some-Bulk.seed c.in-Ok-Some-Bulk.count
bulk_says g c = let some = rw c.in-Ok-Some-Bulk.field-0-is at c.in-Ok-Some-Bulk.ensures in rw c.in-Ok-Some-Bulk.field-0-0-is at some

run_says : (g : given.Over) (c : In-Ok-Some-Run g) → IsRunForm c.args.words.now
run_says g c = let some = rw c.in-Ok-Some-Run.field-0-is at c.in-Ok-Some-Run.ensures in rw c.in-Ok-Some-Run.field-0-0-is at some

-- the words are `bulk SEED COUNT`

pub returns-in-Ok-Some-Bulk-clause-ran : goal.returns-in-Ok-Some-Bulk-clause-ran
returns-in-Ok-Some-Bulk-clause-ran g c = λ no. absurd (no c.in-Ok-Some-Bulk.seed c.in-Ok-Some-Bulk.count (bulk_says g (goal.at.returns-in-Ok-Some-Bulk-clause-ran g c).In-Ok-Some-Bulk))

pub returns-in-Ok-Some-Bulk-clause-bulk : goal.returns-in-Ok-Some-Bulk-clause-bulk
returns-in-Ok-Some-Bulk-clause-bulk g c = λ s n is.
    let one = one_bulk c.args.words.now c.in-Ok-Some-Bulk.seed c.in-Ok-Some-Bulk.count s n (bulk_says g (goal.at.returns-in-Ok-Some-Bulk-clause-bulk g c).In-Ok-Some-Bulk) is in
    inl (bulk_same _ _ c.in-Ok-Some-Bulk.seed c.in-Ok-Some-Bulk.count s n c.bulk.result one.0 one.1 (c.bulk.ensures.ran (g.S.Source.left c.args.source.now)))

pub returns-in-Ok-Some-Bulk-clause-usage : goal.returns-in-Ok-Some-Bulk-clause-usage
returns-in-Ok-Some-Bulk-clause-usage g c = λ no other. absurd (other c.in-Ok-Some-Bulk.seed c.in-Ok-Some-Bulk.count (bulk_says g (goal.at.returns-in-Ok-Some-Bulk-clause-usage g c).In-Ok-Some-Bulk))

pub returns-in-Ok-Some-Bulk-clause-form : goal.returns-in-Ok-Some-Bulk-clause-form
returns-in-Ok-Some-Bulk-clause-form g c = λ run. absurd (no_run c.args.words.now run c.in-Ok-Some-Bulk.seed c.in-Ok-Some-Bulk.count (bulk_says g (goal.at.returns-in-Ok-Some-Bulk-clause-form g c).In-Ok-Some-Bulk))

pub returns-in-Ok-Some-Bulk-clause-exact : goal.returns-in-Ok-Some-Bulk-clause-exact
returns-in-Ok-Some-Bulk-clause-exact g c = λ text lines e told run script.
    absurd (no_run c.args.words.now run c.in-Ok-Some-Bulk.seed c.in-Ok-Some-Bulk.count (bulk_says g (goal.at.returns-in-Ok-Some-Bulk-clause-exact g c).In-Ok-Some-Bulk))

-- the words are `run`

pub returns-in-Ok-Some-Run-clause-ran : goal.returns-in-Ok-Some-Run-clause-ran
returns-in-Ok-Some-Run-clause-ran g c = λ no.
    form_said _ _ (true ≡ true) (IsRunForm c.args.words.now) c.run_lines.result (λ p. run_says g (goal.at.returns-in-Ok-Some-Run-clause-ran g c).In-Ok-Some-Run) (λ p. refl) c.run_lines.ensures.ran

pub returns-in-Ok-Some-Run-clause-bulk : goal.returns-in-Ok-Some-Run-clause-bulk
returns-in-Ok-Some-Run-clause-bulk g c = λ s n is. absurd (no_run c.args.words.now (run_says g (goal.at.returns-in-Ok-Some-Run-clause-bulk g c).In-Ok-Some-Run) s n is)

pub returns-in-Ok-Some-Run-clause-unread : goal.returns-in-Ok-Some-Run-clause-unread
returns-in-Ok-Some-Run-clause-unread g c = λ s n is. absurd (no_run c.args.words.now (run_says g (goal.at.returns-in-Ok-Some-Run-clause-unread g c).In-Ok-Some-Run) s n is)

pub returns-in-Ok-Some-Run-clause-exact : goal.returns-in-Ok-Some-Run-clause-exact
returns-in-Ok-Some-Run-clause-exact g c = λ text lines e told run script.
    exact _ _ (IsRunForm c.args.words.now) c.run_lines.result (form_said _ _ (true ≡ true) (IsRunForm c.args.words.now) c.run_lines.result (λ p. run_says g (goal.at.returns-in-Ok-Some-Run-clause-exact g c).In-Ok-Some-Run) (λ p. refl) c.run_lines.ensures.ran) text lines e told run script

pub returns-in-Ok-Some-Run-clause-usage : goal.returns-in-Ok-Some-Run-clause-usage
returns-in-Ok-Some-Run-clause-usage g c = λ no other. absurd (no (run_says g (goal.at.returns-in-Ok-Some-Run-clause-usage g c).In-Ok-Some-Run))

pub returns-in-Ok-Some-Run-clause-form : goal.returns-in-Ok-Some-Run-clause-form
returns-in-Ok-Some-Run-clause-form g c = λ run.
    not_usage _ _ (IsRunForm c.args.words.now) c.run_lines.result (form_said _ _ (true ≡ true) (IsRunForm c.args.words.now) c.run_lines.result (λ p. run_says g (goal.at.returns-in-Ok-Some-Run-clause-form g c).In-Ok-Some-Run) (λ p. refl) c.run_lines.ensures.ran) run

-- the words are no form

no_true : {X : Type 0} → false ≡ true → X
no_true p = cc

pub returns-in-Ok-None-clause-ran : goal.returns-in-Ok-None-clause-ran
returns-in-Ok-None-clause-ran g c = λ no.
    let none = rw c.in-Ok-None.field-0-is at c.in-Ok-None.ensures in
    form_said _ _ (false ≡ true) (IsRunForm c.args.words.now) c.run_lines-in-Ok-None.result no_true (λ run. absurd (none form.Run run)) c.run_lines-in-Ok-None.ensures.ran

pub returns-in-Ok-None-clause-bulk : goal.returns-in-Ok-None-clause-bulk
returns-in-Ok-None-clause-bulk g c = λ s n is.
    let none = rw c.in-Ok-None.field-0-is at c.in-Ok-None.ensures in
    absurd (none (form.Bulk s n) is)

pub returns-in-Ok-None-clause-unread : goal.returns-in-Ok-None-clause-unread
returns-in-Ok-None-clause-unread g c = λ s n is.
    let none = rw c.in-Ok-None.field-0-is at c.in-Ok-None.ensures in
    absurd (none (form.Bulk s n) is)

pub returns-in-Ok-None-clause-exact : goal.returns-in-Ok-None-clause-exact
returns-in-Ok-None-clause-exact g c = λ text lines e told run script.
    let none = rw c.in-Ok-None.field-0-is at c.in-Ok-None.ensures in
    absurd (none form.Run run)

pub returns-in-Ok-None-clause-usage : goal.returns-in-Ok-None-clause-usage
returns-in-Ok-None-clause-usage g c = λ no other.
    let none = rw c.in-Ok-None.field-0-is at c.in-Ok-None.ensures in
    usage _ _ (IsRunForm c.args.words.now) c.run_lines-in-Ok-None.result (form_said _ _ (false ≡ true) (IsRunForm c.args.words.now) c.run_lines-in-Ok-None.result no_true (λ run. absurd (none form.Run run)) c.run_lines-in-Ok-None.ensures.ran) no

pub returns-in-Ok-None-clause-form : goal.returns-in-Ok-None-clause-form
returns-in-Ok-None-clause-form g c = λ run.
    let none = rw c.in-Ok-None.field-0-is at c.in-Ok-None.ensures in
    absurd (none form.Run run)

-- memory was refused

pub returns-in-Err-clause-ran : goal.returns-in-Err-clause-ran
returns-in-Err-clause-ran g c = λ no. inr (record { status_is = c.status.ensures; stands = refl })

pub returns-in-Err-clause-bulk : goal.returns-in-Err-clause-bulk
returns-in-Err-clause-bulk g c = λ s n is. inr (record { status_is = c.status.ensures; stands = refl })

pub returns-in-Err-clause-faults : goal.returns-in-Err-clause-faults
returns-in-Err-clause-faults g c = accounted_memory _ _ c.status.result c.status.ensures

pub returns-in-Ok-Some-Bulk-clause-faults : goal.returns-in-Ok-Some-Bulk-clause-faults
returns-in-Ok-Some-Bulk-clause-faults g c = c.bulk.ensures.faults (g.S.Source.faults c.args.source.now)
