use Rattle.std.proofs.Common.{◌≡◌, [], ◌∷◌, ◌++◌, drop, false}
use Rattle.mm_replay.specs.Standing.{life}
use Rattle.mm_sentences.specs.{first_failing, all_hold}
use Rattle.mm_sentences.proofs.refusals.first_or.Given as goal

abbrev pub invariant-loop-part : goal.invariant-loop-part
invariant-loop-part l = record {
  same : first_failing (life l.life) (drop l.part-index l.parts ++ l.last ∷ []) ≡ first_failing (life l.life) (l.parts ++ l.last ∷ []);
  fails : all_hold (life l.life) (drop l.part-index l.parts ++ l.last ∷ []) ≡ false;
}
