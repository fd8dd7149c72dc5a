use Rattle.std.proofs.Common.{◌≡◌, ◌+◌, Err, arith}
use Rattle.mm_run.specs.declared.endings.Ending.TheVariants as ending
use Rattle.mm_run.specs.{input_seen, output_seen}
use Rattle.mm_run.proofs.{goes_ends, goes_then, steps_then}
use Rattle.mm_run.proofs.decisions.decide_line.Goals as goal

pub returns-in-Some-clause-steps : goal.returns-in-Some-clause-steps
returns-in-Some-clause-steps g c =
    c.in-Some.ensures.steps (input_seen g.S.Source c.args.source.now) c.args.held.now c.args.n (omega arith) c.requires.between.few

pub returns-in-Ok-clause-steps : goal.returns-in-Ok-clause-steps
returns-in-Ok-clause-steps g c =
    let f = c.find_line in
    let r = c.answer_line in
    let room = c.in-None.ensures.steps (input_seen g.S.Source c.args.source.now) c.args.held.now c.args.n (omega arith) c.requires.between.few in
    steps_then (goes_then room c.in-Ok.ensures.finds) _ r.new.held (c.args.n + 1) r.result (r.ensures.steps (input_seen g.S.Source f.new.source) (output_seen g.O.Sink f.new.out))

pub returns-in-Err-clause-steps : goal.returns-in-Err-clause-steps
returns-in-Err-clause-steps g c =
    let room = c.in-None.ensures.steps (input_seen g.S.Source c.args.source.now) c.args.held.now c.args.n (omega arith) c.requires.between.few in
    goes_ends room c.in-Err.ending c.in-Err.ensures.finds

pub returns-in-Some-clause-still : goal.returns-in-Some-clause-still
returns-in-Some-clause-still g c = λ q. absurd (c.in-Some.ensures.unread q)

pub returns-in-Ok-clause-still : goal.returns-in-Ok-clause-still
returns-in-Ok-clause-still g c = λ q. absurd (c.answer_line.ensures.unread q)

pub returns-in-Err-clause-still : goal.returns-in-Err-clause-still
returns-in-Err-clause-still g c = λ q.
    let same : Err c.in-Err.ending ≡ Err ending.ReadFault = cc in
    c.in-Err.ensures.still same
