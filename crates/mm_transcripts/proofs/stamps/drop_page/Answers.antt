use Rattle.std.specs.Prelude.{slice_index}
use Rattle.indexmap.specs.IndexMap.{get}
use Rattle.mm_move_rules.specs.{same_place}
use Rattle.mm_transcripts.proofs.Aged.{earlier_unmapped, age_unmapped}
use Rattle.mm_transcripts.proofs.stamps.drop_page.Goals as goal

pub returns-clause-earlier : goal.returns-clause-earlier
returns-clause-earlier c =
    earlier_unmapped (slice_index c.args.counts.now) (get same_place c.args.stamps.now)
    (get same_place c.remove_stamp.new.stamps) c.args.place c.remove_stamp.ensures

pub returns-clause-age : goal.returns-clause-age
returns-clause-age c =
    age_unmapped (slice_index c.args.counts.now) (get same_place c.args.stamps.now)
    (get same_place c.remove_stamp.new.stamps) c.args.place c.remove_stamp.ensures
