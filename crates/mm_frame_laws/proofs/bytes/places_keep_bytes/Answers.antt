use Rattle.mm_frame_laws.proofs.{carries_map, carries_unmap, carries_soil}
use Rattle.mm_frame_laws.proofs.bytes.places_keep_bytes.Goals as goal

pub returns : goal.returns
returns c = record {
  map = λ l ram slots blocks h f p legal. carries_map l h.reached ram slots blocks h.located f p legal;
  unmap = λ l ram slots blocks h p legal. carries_unmap l h.reached ram slots blocks h.located p legal;
  soil = λ l ram slots blocks h f legal. carries_soil l h.reached ram slots blocks h.located f legal;
}
