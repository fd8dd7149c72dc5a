use Rattle.mm_move_laws.proofs.{facts_of}
use Rattle.mm_replay.specs.Replaying.{life}
use Rattle.mm_replay.proofs.{sound_of, reached_made}
use Rattle.mm_replay.proofs.lives.Life.make.Goals as goal

pub make-requires-clause-sound : goal.make-requires-clause-sound
make-requires-clause-sound c = let l = life c.args.self.now.state in sound_of l (facts_of l c.args.self.now.reached)

pub invariant_of-self : goal.invariant_of-self
invariant_of-self c =
    let s = c.args.self.now.state in
    record { reached = reached_made c.make.result (life s) (life c.make.new.self) c.args.m.now c.args.self.now.reached c.requires.legal c.make.ensures.ok c.make.ensures.err }
