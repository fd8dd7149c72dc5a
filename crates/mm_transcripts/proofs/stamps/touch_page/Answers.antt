use Rattle.std.proofs.Common.{◌≡◌, ℕ, Some, subst}
use Rattle.std.specs.Prelude.{slice_index, OnOk}
use Rattle.indexmap.specs.IndexMap.{get}
use Rattle.mm_move_rules.specs.{same_place}
use Rattle.mm_transcripts.specs.{at_place}
use Rattle.mm_transcripts.proofs.Aged.{earlier_mapped, age_mapped}
use Rattle.mm_transcripts.proofs.stamps.touch_page.Goals as goal

pub returns-clause-earlier : goal.returns-clause-earlier
returns-clause-earlier c =
    let old = get same_place c.args.stamps.now in
    let new = get same_place c.set_stamp.new.stamps in
    let set =
    subst (λ (n : ℕ). OnOk c.set_stamp.result (new ≡ at_place c.args.place (Some n) old)) c.count_of.ensures
    c.set_stamp.ensures.ok in
    earlier_mapped (slice_index c.args.counts.now) old new c.args.place c.set_stamp.result set c.set_stamp.ensures.err

pub returns-clause-age : goal.returns-clause-age
returns-clause-age c =
    let old = get same_place c.args.stamps.now in
    let new = get same_place c.set_stamp.new.stamps in
    let set =
    subst (λ (n : ℕ). OnOk c.set_stamp.result (new ≡ at_place c.args.place (Some n) old)) c.count_of.ensures
    c.set_stamp.ensures.ok in
    age_mapped (slice_index c.args.counts.now) old new c.args.place c.set_stamp.result set
