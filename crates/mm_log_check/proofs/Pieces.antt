-- Texts that are written piece by piece.
use Rattle.mm_types.proofs.{append_nil}

pub ruleset texts = (append_nil)
