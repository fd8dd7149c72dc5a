use Rattle.mm_reasons.proofs.{told_long}
use Rattle.mm_reasons.proofs.top.translate.Goals as goal

pub returns-in-Err-TooLong-clause-came : goal.returns-in-Err-TooLong-clause-came
returns-in-Err-TooLong-clause-came g c =
    let came = rw c.in-Err-TooLong.field-0-is at c.in-Err-TooLong.ensures.err in
    told_long c.tell.result _ _ _ _ _ c.tell.ensures.ends (came (g.O.Sink.taken c.args.out.now))
