use Rattle.std.proofs.Common.{◌∷◌, []}
use Rattle.std.specs.Prelude.{codes}
use Rattle.mm_replay.specs.Standing.{life}
use Rattle.mm_sentences.specs.{frame_row}
use Rattle.mm_reports.proofs.{three}
use Rattle.mm_reports.proofs.heads.put_standing.Goals as goal

pub returns : goal.returns
returns c =
    three c.args.text.now.items c.put_words.new.text.items c.put_frame_row.new.text.items c.put_words-2.new.text.items (codes "at the end: ") (frame_row (life c.args.life.now) c.args.n) (10 ∷ [])
    c.in_ok-put_words.ensures c.in_ok-put_frame_row.ensures c.in_ok-put_words-2.ensures
