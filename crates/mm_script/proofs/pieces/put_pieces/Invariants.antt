use Rattle.std.proofs.Common.{◌≡◌, ◌+◌, ◌≤◌, ◌++◌, drop, length, map}
use Rattle.mm_text.specs.{following}
use Rattle.mm_script.specs.{text_of_piece, width_of_all}
use Rattle.mm_script.proofs.pieces.put_pieces.Given as goal

-- what is written so far, and room for what is left
abbrev pub invariant-loop-piece : goal.invariant-loop-piece
invariant-loop-piece l = record {
  text : l.out ++ following (map text_of_piece (drop l.piece-index l.pieces)) ≡ l.fn.out ++ following (map text_of_piece l.pieces);
  width_of_all : length l.out + width_of_all (drop l.piece-index l.pieces) ≤ 256;
}
