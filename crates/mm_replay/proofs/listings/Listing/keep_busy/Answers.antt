use Rattle.std.proofs.Common.{◌∙◌, ap}
use Rattle.mm_move_rules.specs.{is_idle}
use Rattle.mm_replay.specs.{is_owned}
use Rattle.mm_replay.proofs.{busy_kept}
use Rattle.mm_replay.proofs.listings.Listing.keep_busy.Goals as goal

pub returns-clause-kept : goal.returns-clause-kept
returns-clause-kept c =
    let s = c.set.new.self in
    busy_kept s.records.items s.lists c.args.f c.set.ensures.off (ap is_idle c.set.ensures.now ∙ c.requires.busy) (ap is_owned c.set.ensures.now ∙ c.requires.owned)
