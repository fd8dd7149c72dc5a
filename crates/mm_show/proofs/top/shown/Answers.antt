use Rattle.mm_show.specs.{page_read}
use Rattle.std.proofs.Common.{refl, inl, inr}
use Rattle.mm_log_walk.proofs.{begun_none}
use Rattle.mm_show.proofs.{said_page, said_sums, told_as, said_is}
use Rattle.mm_transcripts.specs.{transcript_rest}
use Rattle.mm_events.specs.{events_rest}
use Rattle.mm_reports.specs.{counts_rest, fault_rest, history_rest, state_rest, use_rest}
use Rattle.mm_show.proofs.top.shown.Goals as goal

pub returns-in-Ok-clause-answers : goal.returns-in-Ok-clause-answers
returns-in-Ok-clause-answers g c =
    told_as c.args.form _ (page_read c.args.page.now c.args.named.now) c.args.script.now c.args.answers.now _ _ _ _ _ _ _ c.in-Html.is c.form_sought-sought.ensures
    (said_page c.in-Ok.teller (page_read c.args.page.now c.args.named.now) c.args.script.now c.args.answers.now c.in-Ok.ensures) c.answered.ensures.answers

pub returns-in-Tell-clause-answers : goal.returns-in-Tell-clause-answers
returns-in-Tell-clause-answers g c =
    told_as c.args.form _ (page_read c.args.page.now c.args.named.now) c.args.script.now c.args.answers.now _ _ _ _ _ _ _ c.in-Tell.is c.form_sought-sought.ensures (said_is (transcript_rest c.new-teller.result) _ c.new-teller.ensures) c.answered-in-Tell.ensures.answers

pub returns-in-Events-clause-answers : goal.returns-in-Events-clause-answers
returns-in-Events-clause-answers g c =
    told_as c.args.form _ (page_read c.args.page.now c.args.named.now) c.args.script.now c.args.answers.now _ _ _ _ _ _ _ c.in-Events.is c.form_sought-sought.ensures (said_is (events_rest c.new-teller-in-Events.result) _ c.new-teller-in-Events.ensures) c.answered-in-Events.ensures.answers

pub returns-in-Counts-clause-answers : goal.returns-in-Counts-clause-answers
returns-in-Counts-clause-answers g c =
    told_as c.args.form _ (page_read c.args.page.now c.args.named.now) c.args.script.now c.args.answers.now _ _ _ _ _ _ _ c.in-Counts.is c.form_sought-sought.ensures (said_is (counts_rest c.new-teller-in-Counts.result) _ c.new-teller-in-Counts.ensures) c.answered-in-Counts.ensures.answers

pub returns-in-CountsCsv-clause-answers : goal.returns-in-CountsCsv-clause-answers
returns-in-CountsCsv-clause-answers g c =
    told_as c.args.form _ (page_read c.args.page.now c.args.named.now) c.args.script.now c.args.answers.now _ _ _ _ _ _ _ c.in-CountsCsv.is c.form_sought-sought.ensures (said_is (counts_rest c.new-teller-in-CountsCsv.result) _ c.new-teller-in-CountsCsv.ensures) c.answered-in-CountsCsv.ensures.answers

pub returns-in-CountsAt-clause-answers : goal.returns-in-CountsAt-clause-answers
returns-in-CountsAt-clause-answers g c =
    told_as c.args.form _ (page_read c.args.page.now c.args.named.now) c.args.script.now c.args.answers.now _ _ _ _ _ _ _ c.in-CountsAt.is c.form_sought-sought.ensures (said_is (use_rest c.new-teller-in-CountsAt.result) _ c.new-teller-in-CountsAt.ensures) c.answered-in-CountsAt.ensures.answers

pub returns-in-StateAt-clause-answers : goal.returns-in-StateAt-clause-answers
returns-in-StateAt-clause-answers g c =
    told_as c.args.form _ (page_read c.args.page.now c.args.named.now) c.args.script.now c.args.answers.now _ _ _ _ _ _ _ c.in-StateAt.is c.form_sought-sought.ensures (said_is (state_rest c.new-teller-in-StateAt.result) _ c.new-teller-in-StateAt.ensures) c.answered-in-StateAt.ensures.answers

pub returns-in-FrameAt-clause-answers : goal.returns-in-FrameAt-clause-answers
returns-in-FrameAt-clause-answers g c =
    told_as c.args.form _ (page_read c.args.page.now c.args.named.now) c.args.script.now c.args.answers.now _ _ _ _ _ _ _ c.in-FrameAt.is c.form_sought-sought.ensures (said_is (history_rest c.of_frame-teller.result) _ c.of_frame-teller.ensures) c.answered-in-FrameAt.ensures.answers

pub returns-in-KeyAt-clause-answers : goal.returns-in-KeyAt-clause-answers
returns-in-KeyAt-clause-answers g c =
    told_as c.args.form _ (page_read c.args.page.now c.args.named.now) c.args.script.now c.args.answers.now _ _ _ _ _ _ _ c.in-KeyAt.is c.form_sought-sought.ensures (said_is (history_rest c.of_key-teller.result) _ c.of_key-teller.ensures) c.answered-in-KeyAt.ensures.answers

pub returns-in-Faults-clause-answers : goal.returns-in-Faults-clause-answers
returns-in-Faults-clause-answers g c =
    told_as c.args.form _ (page_read c.args.page.now c.args.named.now) c.args.script.now c.args.answers.now _ _ _ _ _ _ _ c.in-Faults.is c.form_sought-sought.ensures (said_is (fault_rest c.new-teller-in-Faults.result) _ c.new-teller-in-Faults.ensures) c.answered-in-Faults.ensures.answers

pub returns-in-Sums-clause-answers : goal.returns-in-Sums-clause-answers
returns-in-Sums-clause-answers g c =
    told_as c.args.form _ (page_read c.args.page.now c.args.named.now) c.args.script.now c.args.answers.now _ _ _ _ _ _ _ c.in-Sums.is c.form_sought-sought.ensures (said_sums c.new-teller-in-Sums.result c.new-teller-in-Sums.ensures.sums) c.answered-in-Sums.ensures.answers

pub returns-in-Err-clause-answers : goal.returns-in-Err-clause-answers
returns-in-Err-clause-answers g c = inr (inl refl, begun_none _ _ _ _)
