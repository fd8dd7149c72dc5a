use Rattle.std.proofs.Common.{◌∙◌, arith}
use Rattle.mm_move_laws.proofs.{facts_of, total}
use Rattle.mm_replay.specs.Standing.{life}
use Rattle.mm_replay.proofs.lives.Life.keeps_frames.Goals as goal

pub returns-clause-few : goal.returns-clause-few
returns-clause-few c =
    let a = facts_of (life c.args.self.now) c.args.self.now.reached in
    omega (arith, a.framed, c.frames-frames.ensures)

pub returns-clause-sum : goal.returns-clause-sum
returns-clause-sum c =
    let l = life c.args.self.now in
    let a = facts_of (life c.args.self.now) c.args.self.now.reached in
    total l.frames l.flight a.standing ∙ a.framed
