use Rattle.std.proofs.Common.{◌≡◌, drop}
use Rattle.mm_move_rules.specs.{is_on}
use Rattle.mm_replay.specs.{frame_at}
use Rattle.mm_replay.specs.Standing.{life}
use Rattle.mm_sentences.proofs.states.is_zeroed.Given as goal

abbrev pub invariant-loop-i : goal.invariant-loop-i
invariant-loop-i l = record {
  at : l.next ≡ frame_at (life l.life).frames.zeroed l._i;
  left : is_on l.frame.0 (drop l._i (life l.life).frames.zeroed) ≡ is_on l.frame.0 (life l.life).frames.zeroed;
}
