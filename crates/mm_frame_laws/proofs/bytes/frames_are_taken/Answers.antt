use Rattle.mm_frame_laws.proofs.{carries_clear, carries_give, carries_read, carries_steal}
use Rattle.mm_frame_laws.proofs.bytes.frames_are_taken.Goals as goal

pub returns : goal.returns
returns c = record {
  clear = λ l ram slots blocks h f legal. carries_clear l h.reached ram slots blocks h.located f legal;
  give = λ l ram slots blocks h f k legal. carries_give l h.reached ram slots blocks h.located f k legal;
  read = λ l ram slots blocks h f k legal. carries_read l h.reached ram slots blocks h.located f k legal;
  steal = λ l ram slots blocks h f legal. carries_steal l h.reached ram slots blocks h.located f legal;
}
