use Rattle.std.proofs.Common.{◌≡◌, ◌++◌, drop}
use Rattle.std.specs.Prelude.{flat_map}
use Rattle.mm_replay.specs.Standing.{life}
use Rattle.mm_sentences.specs.{piece_text}
use Rattle.mm_sentences.proofs.sentences.put_pieces.Given as goal

abbrev pub invariant-loop-piece : goal.invariant-loop-piece
invariant-loop-piece l =
    l.text.items ++ flat_map (piece_text l.addressed l.facts (life l.after)) (drop l.piece-index l.pieces)
    ≡ l.fn.text.items ++ flat_map (piece_text l.addressed l.facts (life l.after)) l.pieces
