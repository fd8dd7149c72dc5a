use Rattle.std.proofs.Common.{◌≡◌, ℕ, List, Some, sym, ◌∙◌}
use Rattle.mm_replay.specs.{frame_at}
use Rattle.mm_replay.specs.Standing.{life}
use Rattle.mm_sentences.proofs.{passed, next_there}
use Rattle.mm_sentences.proofs.states.is_zeroed.Goals as goal

pub loop-i-preserved : goal.loop-i-preserved
loop-i-preserved c =
    let xs : List ℕ = (life c.args.life.now).frames.zeroed in
    let here : frame_at xs c.loop-i._i ≡ Some c.in-Some.other = sym c.loop-i.invariant.at ∙ c.in-Some.is in
    record {
      at = next_there (life c.args.life.now).frames c.loop-i._i c.in-Some.other c.next_on_list-next.result here c.next_on_list-next.ensures;
      left = sym (passed xs c.loop-i._i c.in-Some.other c.args.frame.0 here c.if-other-frame.false) ∙ c.loop-i.invariant.left;
    }
