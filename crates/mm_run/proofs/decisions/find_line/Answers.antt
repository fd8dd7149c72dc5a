use Rattle.std.proofs.Common.{◌≡◌, Some, refl, arith}
use Rattle.mm_io.proofs.{filled_none}
use Rattle.mm_dispatch.specs.{scene}
use Rattle.mm_run.specs.declared.endings.Ending.TheVariants as ending
use Rattle.mm_run.specs.{Running, input_seen, output_seen}
use Rattle.mm_run.proofs.{goes_here, came_long, finds_then}
use Rattle.mm_run.proofs.decisions.find_line.Goals as goal

pub returns-in-Line-clause-finds : goal.returns-in-Line-clause-finds
returns-in-Line-clause-finds g c = goes_here _ _ _

pub returns-in-Long-clause-finds : goal.returns-in-Long-clause-finds
returns-in-Long-clause-finds g c =
    let left = g.S.Source.left c.args.source.now in
    let held = c.args.held.now in
    record {
      came = came_long left left _ _ held held c.args.n _ (filled_none left held) c.requires.few c.in-Long.ensures (omega (arith, c.requires.held));
      faults = refl;
      idle = omega arith;
      form = λ q. cc;
    }

pub returns-in-Some-clause-finds : goal.returns-in-Some-clause-finds
returns-in-Some-clause-finds g c =
    c.in-Some.ensures.steps (input_seen g.S.Source c.args.source.now) c.args.held.now c.args.n (omega arith) c.requires.held

pub returns-in-None-clause-finds : goal.returns-in-None-clause-finds
returns-in-None-clause-finds g c =
    let f = c.flush in
    let r = c.next_line in
    let first = c.in-None.ensures.steps (input_seen g.S.Source c.args.source.now) c.args.held.now c.args.n (omega arith) c.requires.held in
    finds_then first _ r.new.held r.result (r.ensures.finds (output_seen g.O.Sink f.new.out) f.new.kept (Running (scene f.new.world)))

pub returns-in-Some-clause-still : goal.returns-in-Some-clause-still
returns-in-Some-clause-still g c = λ q.
    let same : Some c.in-Some.ending ≡ Some ending.ReadFault = cc in
    absurd (c.in-Some.ensures.unread same)

pub returns-in-None-clause-still : goal.returns-in-None-clause-still
returns-in-None-clause-still g c = λ q. c.in-None.ensures.still
