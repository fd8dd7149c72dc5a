use Rattle.std.proofs.Common.{◌∷◌, [], ◌++◌, ap, ◌∙◌}
use Rattle.std.specs.Prelude.{codes}
use Rattle.mm_types.specs.{Held}
use Rattle.mm_move_rules.specs.{held_at}
use Rattle.mm_replay.specs.Standing.{life}
use Rattle.mm_reports.specs.{held_words}
use Rattle.mm_reports.proofs.{three}
use Rattle.mm_reports.proofs.heads.put_page_end.Goals as goal

pub returns : goal.returns
returns c =
    three c.args.text.now.items c.put_words.new.text.items c.put_held.new.text.items c.put_words-2.new.text.items (codes "at the end: ") (held_words (held_at (life c.args.life.now) c.args.key)) (10 ∷ [])
    c.in_ok-put_words.ensures (c.in_ok-put_held.ensures ∙ ap (λ (h : Held). c.put_words.new.text.items ++ held_words h) c.held-held.ensures) c.in_ok-put_words-2.ensures
