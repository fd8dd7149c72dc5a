use Rattle.mm_replay.specs.Standing.{life}
use Rattle.mm_replay.proofs.{framed_behind}
use Rattle.mm_replay.proofs.lives.Life.next_request.Goals as goal

pub returns : goal.returns
returns c =
    framed_behind {A = Unit {0}} (λ _. (life c.args.self.now).flight) c.args.frame.0 c.next.result c.framed.result c.framed.ensures
    (λ j k e. c.next.ensures.behind k e) (λ h. c.next.ensures.none (λ k e. h tt k e))
