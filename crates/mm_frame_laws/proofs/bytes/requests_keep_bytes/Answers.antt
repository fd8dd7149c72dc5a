use Rattle.mm_frame_laws.proofs.{carries_write, carries_got, carries_bad, carries_wrote, carries_lost}
use Rattle.mm_frame_laws.proofs.bytes.requests_keep_bytes.Goals as goal

pub returns : goal.returns
returns c = record {
  write = λ l ram slots blocks h f s legal. carries_write l h.reached ram slots blocks h.located f s legal;
  got = λ l ram slots blocks h f page legal there. carries_got l h.reached ram slots blocks h.located f page legal there;
  bad = λ l ram slots blocks h f legal. carries_bad l h.reached ram slots blocks h.located f legal;
  wrote = λ l ram slots blocks h f page legal there. carries_wrote l h.reached ram slots blocks h.located f page legal there;
  lost = λ l ram slots blocks h f legal. carries_lost l h.reached ram slots blocks h.located f legal;
}
