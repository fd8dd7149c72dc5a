use Rattle.std.proofs.Common.{◌<◌, ℕ, sym, subst}
use Rattle.std.proofs.lemmas.Bool.{and_parts}
use Rattle.mm_replay.specs.Replaying.{life}
use Rattle.mm_replay.proofs.{read_ready, ready_low, ready_quiet}
use Rattle.mm_replay.proofs.states.State.read.Goals as goal

pub begin-requires : goal.begin-requires
begin-requires c =
    let s = c.args.self.now in
    let ready = read_ready (life s) c.requires.listed c.args.frame.0 (and_parts _ _ (and_parts _ _ c.requires.legal).0).0 in
    record {
      low = subst (λ (n : ℕ). c.args.frame.0 < n) (sym s.requested) (ready_low (life s) c.requires.sound c.args.frame.0 ready);
      none = ready_quiet (life s) c.requires.sound c.args.frame.0 ready;
    }
