use Rattle.std.proofs.Common.{◌∙◌, ap, sym}
use Rattle.mm_move_rules.specs.{is_idle}
use Rattle.mm_replay.specs.{is_owned}
use Rattle.mm_replay.proofs.{busy_kept}
use Rattle.mm_replay.proofs.listings.Listing.settle.Goals as goal

pub returns-else-is_idle-clause-kept : goal.returns-else-is_idle-clause-kept
returns-else-is_idle-clause-kept c =
    let s = c.set.new.self in
    busy_kept s.records.items s.lists c.args.f c.set.ensures.off (ap is_idle c.set.ensures.now ∙ sym c.is_idle.ensures ∙ c.if-is_idle.false) (ap is_owned c.set.ensures.now ∙ c.requires.owned)
