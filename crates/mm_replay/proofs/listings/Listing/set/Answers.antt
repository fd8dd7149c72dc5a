use Rattle.std.proofs.Common.{List, subst, sym}
use Rattle.mm_types.specs.{Record}
use Rattle.mm_replay.specs.{Off}
use Rattle.mm_replay.proofs.{off_set}
use Rattle.mm_replay.proofs.listings.Listing.set.Goals as goal

pub returns-clause-off : goal.returns-clause-off
returns-clause-off c =
    let s = c.args.self.now in
    subst (λ (rs : List Record). Off rs s.lists c.args.f) (sym c.set_at.ensures) (off_set s.records.items s.lists c.args.f c.args.r c.requires)
