use Rattle.std.proofs.Common.{refl, sym, ap, ◌∙◌, arith}
use Rattle.mm_dispatch.specs.{scene}
use Rattle.mm_run.specs.{Running, fault_counts_with}
use Rattle.mm_run.proofs.{came_held_back, went_told, came_torn, scene_follows}
use Rattle.mm_run.proofs.decisions.flush.Goals as goal

pub returns-in-Err-clause-steps : goal.returns-in-Err-clause-steps
returns-in-Err-clause-steps g c = λ input held n few short.
    let f = c.flush_moves in
    let s = f.ensures in
    let follows = scene_follows (scene c.args.world.now) (scene f.new.self) f.result s.world s.report s.paging_device s.file_device s.file_blocks s.behind s.flushed in
    record {
      came = came_held_back input.left _ held n (Running (scene c.args.world.now)) (Running (scene f.new.self)) follows few short c.args.kept.now;
      faults = (c.in-Err.ensures.flushed.failed, refl);
      idle = omega arith;
      form = λ q. cc;
    }

pub returns-in-Ok-give_on-clause-steps : goal.returns-in-Ok-give_on-clause-steps
returns-in-Ok-give_on-clause-steps g c = λ input held n few short.
    let f = c.flush_moves in
    let s = f.ensures in
    let follows = scene_follows (scene c.args.world.now) (scene f.new.self) f.result s.world s.report s.paging_device s.file_device s.file_blocks s.behind s.flushed in
    let gave = c.give_on in
    record {
      went = went_told input.left _ held n (Running (scene c.args.world.now)) (Running (scene f.new.self)) follows few short c.args.kept.now gave.new.self gave.ensures.none (ap (λ l. l.given) c.in-Ok.ensures.flushed.all)
          (g.O.Sink.taken gave.new.out) c.in-Ok-give_on.ensures.wrote;
      faults = λ i. fault_counts_with input.faults (c.in-Ok-give_on.ensures.cause.same i) (c.in-Ok.ensures.flushed.all i).faults;
      idle = omega arith;
    }

pub returns-in-Err-give_on-clause-steps : goal.returns-in-Err-give_on-clause-steps
returns-in-Err-give_on-clause-steps g c = λ input held n few short.
    let f = c.flush_moves in
    let s = f.ensures in
    let follows = scene_follows (scene c.args.world.now) (scene f.new.self) f.result s.world s.report s.paging_device s.file_device s.file_blocks s.behind s.flushed in
    let gave = c.give_on in
    record {
      came = came_torn input.left _ held n (Running (scene c.args.world.now)) (Running (scene f.new.self)) follows few short c.args.kept.now gave.new.self gave.ensures.none (ap (λ l. l.given) c.in-Ok.ensures.flushed.all)
          gave.ensures.few (g.O.Sink.taken gave.new.out) c.in-Err-give_on.ensures.wrote;
      faults = (c.in-Err-give_on.ensures.cause.failed, λ i. fault_counts_with input.faults (g.O.Sink.faults gave.new.out) (c.in-Ok.ensures.flushed.all i).faults);
      idle = omega arith;
      form = λ q. cc;
    }

pub returns-in-Ok-give_on-clause-still : goal.returns-in-Ok-give_on-clause-still
returns-in-Ok-give_on-clause-still g c =
    let all = c.in-Ok.ensures.flushed.all in
    record {
      none = c.give_on.ensures.none;
      answers = c.in-Ok-give_on.ensures.gave;
      moves = ap (λ l. l.given) all ∙ sym (ap (λ l. l.bytes) all);
    }
