use Rattle.mm_frame_laws.proofs.{carries_at}
use Rattle.mm_frame_laws.proofs.bytes.lines_keep_bytes.Goals as goal

pub returns : goal.returns
returns c = λ l ram slots blocks h n k begun legal. carries_at l h.reached ram slots blocks h.located n k begun legal
