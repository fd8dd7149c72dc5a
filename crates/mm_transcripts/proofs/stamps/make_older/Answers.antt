use Rattle.indexmap.specs.IndexMap.{get}
use Rattle.mm_move_rules.specs.{same_place}
use Rattle.mm_transcripts.proofs.Aged.{earlier_older, age_older}
use Rattle.mm_transcripts.proofs.stamps.make_older.Goals as goal

pub returns-clause-earlier : goal.returns-clause-earlier
returns-clause-earlier c =
    earlier_older c.args.counts.now c.count_line.new.counts (get same_place c.args.stamps.now) c.args.pid.0
    c.count_line.result c.count_line.ensures.ok c.count_line.ensures.err

pub returns-clause-age : goal.returns-clause-age
returns-clause-age c =
    age_older c.args.counts.now c.count_line.new.counts (get same_place c.args.stamps.now) c.args.pid
    c.count_line.result c.count_line.ensures.ok
