-- The ages that what is kept of them shows.
use Rattle.std.specs.Prelude.{slice_index}
use Rattle.indexmap.specs.IndexMap.{get}
use Rattle.mm_move_rules.specs.{same_place}
use Rattle.mm_transcripts.specs.Ages.{AgesOf}
use Rattle.mm_transcripts.specs.Keeping.{age_by_stamp, same_thread}
use Rattle.mm_transcripts.specs.declared.ages.Ages.{Ages}

abbrev pub ages_shown : Ages → AgesOf
ages_shown a = record {
  age = age_by_stamp (slice_index a.counts) (get same_place a.stamps);
  kept = get same_thread a.kept;
}
