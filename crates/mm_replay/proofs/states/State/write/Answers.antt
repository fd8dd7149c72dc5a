use Rattle.std.proofs.Common.{◌<◌, ℕ, sym, subst}
use Rattle.mm_replay.specs.Replaying.{life}
use Rattle.mm_replay.proofs.{write_ready, ready_low, ready_quiet}
use Rattle.mm_replay.proofs.states.State.write.Goals as goal

pub begin-requires : goal.begin-requires
begin-requires c =
    let s = c.args.self.now in
    let ready = write_ready (life s) c.requires.listed c.args.frame.0 c.args.stored c.requires.legal in
    record {
      low = subst (λ (n : ℕ). c.args.frame.0 < n) (sym s.requested) (ready_low (life s) c.requires.sound c.args.frame.0 ready);
      none = ready_quiet (life s) c.requires.sound c.args.frame.0 ready;
    }
