use Rattle.std.proofs.Common.{◌∷◌, [], length, ◌∙◌}
use Rattle.std.specs.Prelude.{codes}
use Rattle.mm_replay.specs.Standing.{life}
use Rattle.mm_reports.proofs.{pair_is}
use Rattle.mm_reports.proofs.tables.put_requests.Goals as goal

pub returns : goal.returns
returns c =
    pair_is (codes "requests in flight ") (codes ", depth ") (10 ∷ []) c.from-requests.result c.from-depth.result (length (life c.args.life.now).flight) (life c.args.life.now).machine.depth
    c.args.text.now.items c.put_pair.new.text.items c.in_ok-put_pair.ensures (c.from-requests.ensures ∙ c.requests.ensures) (c.from-depth.ensures ∙ c.depth.ensures)
