use Rattle.std.proofs.Common.{subst, sym}
use Rattle.mm_page_lists.specs.{ListsOf}
use Rattle.mm_replay.specs.{AreLists, Kept}
use Rattle.mm_replay.proofs.{put_kept}
use Rattle.mm_replay.proofs.listings.Listing.put.Goals as goal

pub returns-clause-kept : goal.returns-clause-kept
returns-clause-kept c =
    let s = c.args.self.now in
    subst (λ (v : ListsOf). Kept s.records.items v) (sym c.push_back.ensures.pushed)
    (put_kept s.records.items s.lists c.args.f c.args.list c.requires.off c.requires.inside c.requires.belongs (subst (AreLists 4) c.push_back.ensures.pushed c.push_back.ensures.kept))
