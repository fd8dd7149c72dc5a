use Rattle.mm_frame_laws.proofs.{carries_add_zero, carries_add_block, carries_drop}
use Rattle.mm_frame_laws.proofs.bytes.keys_come_and_go.Goals as goal

pub returns : goal.returns
returns c = record {
  zero = λ l ram slots blocks h k legal. carries_add_zero l h.reached ram slots blocks h.located k legal;
  block = λ l ram slots blocks h k b legal. carries_add_block l h.reached ram slots blocks h.located k b legal;
  drop = λ l ram slots blocks h k legal. carries_drop l h.reached ram slots blocks h.located k legal;
}
