use Rattle.std.proofs.Common.{ℕ, List, refl, ◌∙◌, subst}
use Rattle.mm_types.specs.{Appended}
use Rattle.mm_generate.specs.{script_of}
use Rattle.mm_run.specs.declared.endings.Ending.TheVariants as ending
use Rattle.mm_run.specs.{TornText, fault_counts_with}
use Rattle.mm_run.proofs.{accounted, accounted_behind, ran_unflushed, ran_failed, all_told, all_torn, accounted_unflushed}
use Rattle.mm_run.proofs.bulk.bulk.Goals as goal

-- the moves could not be given on

pub returns-in-Err-clause-ran : goal.returns-in-Err-clause-ran
returns-in-Err-clause-ran g c = λ left.
    let f = c.flush.ensures in
    ran_unflushed _ _ (script_of c.args.seed c.args.count) 6 _ (record { took_is = f.taken; grows = f.given.grows; later = f.cause.later; paging_is = refl; files_is = refl })
    c.decide_script-decided.result c.decide_script-decided.ensures.ends.came refl refl

pub returns-in-Err-clause-faults : goal.returns-in-Err-clause-faults
returns-in-Err-clause-faults g c = λ s.
    accounted_unflushed c.decide_script-decided.result _ _ _ (c.decide_script-decided.ensures.ends.faults s (g.O.Sink.faults c.args.out.now)) _ 6 refl c.in-Err.ensures.cause.failed refl

-- all events were decided

pub returns-in-Ok-write_both-clause-ran : goal.returns-in-Ok-write_both-clause-ran
returns-in-Ok-write_both-clause-ran g c = λ left.
    let f = c.flush.ensures in
    let text = c.as_slice.ensures.bytes ∙ c.spell_tally.ensures in
    let told = c.in-Ok-write_both.ensures.told in
    all_told _ _ (script_of c.args.seed c.args.count) c.status.result _ (record { took_is = f.taken; grows = f.given.grows; later = f.cause.later; paging_is = refl; files_is = refl })
    c.in-Ok-decided.tally c.in-Ok-decided.ensures.ends.came c.in-Ok.ensures.all c.status.ensures (subst (λ (t : List ℕ). Appended (g.O.Sink.taken c.args.out.now) (g.O.Sink.taken c.write_both.new.out) t) text told.0) told.1

pub returns-in-Ok-write_both-clause-faults : goal.returns-in-Ok-write_both-clause-faults
returns-in-Ok-write_both-clause-faults g c = λ s.
    let out = g.O.Sink.faults in
    accounted ending.Done _ _ _ c.status.result c.status.ensures
    ((λ i. fault_counts_with s (c.in-Ok-write_both.ensures.cause.same i) (c.in-Ok.ensures.cause.same i)) ∙ c.in-Ok-decided.ensures.ends.faults s (out c.args.out.now))

pub returns-in-Err-write_both-clause-ran : goal.returns-in-Err-write_both-clause-ran
returns-in-Err-write_both-clause-ran g c = λ left.
    let f = c.flush.ensures in
    all_torn _ _ (script_of c.args.seed c.args.count) c.status-in-Err-write_both.result _ (record { took_is = f.taken; grows = f.given.grows; later = f.cause.later; paging_is = refl; files_is = refl })
    c.in-Ok-decided.tally c.in-Ok-decided.ensures.ends.came c.in-Ok.ensures.all c.status-in-Err-write_both.ensures (subst (λ (t : List ℕ). TornText (g.O.Sink.taken c.args.out.now) (g.O.Sink.taken c.write_both.new.out) t) (c.as_slice.ensures.bytes ∙ c.spell_tally.ensures) c.in-Err-write_both.ensures.told)

-- some were not

pub returns-in-Err-decided-clause-ran : goal.returns-in-Err-decided-clause-ran
returns-in-Err-decided-clause-ran g c = λ left.
    let f = c.flush.ensures in
    ran_failed _ _ (script_of c.args.seed c.args.count) c.status-in-Err-decided.result _ (record { took_is = f.taken; grows = f.given.grows; later = f.cause.later; paging_is = refl; files_is = refl })
    c.in-Err-decided.ending c.in-Err-decided.ensures.ends.came c.status-in-Err-decided.ensures refl

pub returns-in-Err-decided-clause-faults : goal.returns-in-Err-decided-clause-faults
returns-in-Err-decided-clause-faults g c = λ s.
    let out = g.O.Sink.faults c.args.out.now in
    accounted_behind c.in-Err-decided.ending _ _ _ _ c.status-in-Err-decided.result (λ i. fault_counts_with s out (c.in-Ok.ensures.cause.same i)) c.status-in-Err-decided.ensures (c.in-Err-decided.ensures.ends.faults s out)
