use Rattle.std.proofs.Common.{◌∙◌, List, ap, replicate, subst, sym}
use Rattle.mm_types.specs.{Record}
use Rattle.mm_replay.specs.{Kept}
use Rattle.mm_replay.proofs.{all_kept}
use Rattle.mm_replay.proofs.listings.Listing.new.Goals as goal

pub returns-clause-kept : goal.returns-clause-kept
returns-clause-kept c =
    subst (λ (rs : List Record). Kept rs c.push_all.new.lists) (sym (c.in_ok-records.ensures.items_if_clones_equal (λ y e. e) ∙ ap (λ (r : Record). replicate c.args.frames r) c.blank.ensures))
    (all_kept c.args.frames c.push_all.new.lists c.push_all.ensures.pushed c.push_all.ensures.kept)
