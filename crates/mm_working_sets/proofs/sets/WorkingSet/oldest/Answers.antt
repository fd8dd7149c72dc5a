use Rattle.std.proofs.Common.{sym, subst}
use Rattle.std.specs.Prelude.{Option, Some, None, IsSome, option_map, MatchOption}
use Rattle.std.specs.FinMap as finite
use Rattle.mm_types.specs.{Vpn}
use Rattle.mm_working_sets.specs.{WorkingSetOf, IsOldestInSet, NoneFollowsInSet}
use Rattle.mm_working_sets.proofs.{answers_first, answers_next}
use Rattle.mm_working_sets.proofs.sets.WorkingSet.oldest.Goals as goal

pub returns-in-None : goal.returns-in-None
returns-in-None c =
    let g = c.self.inside.pages in
    subst (λ (o : Option Vpn). MatchOption c.oldest.result (NoneFollowsInSet c.args.self.now.ages (option_map (λ (w : Vpn). w.0) o)) (λ v. IsOldestInSet c.args.self.now.ages (option_map (λ (w : Vpn). w.0) o) v.0)) (sym c.in-None.is)
    (subst (λ (s : WorkingSetOf). MatchOption c.oldest.result (NoneFollowsInSet s.ages None) (λ v. IsOldestInSet s.ages None v.0)) c.self.view_is
    (answers_first g.newest g.sets.items g.kept.grouped c.oldest.result c.self.invariant.each.young c.oldest.ensures))

pub returns-in-Some : goal.returns-in-Some
returns-in-Some c =
    let g = c.self.inside.pages in
    let v = c.in-Some.v in
    subst (λ (o : Option Vpn). MatchOption c.next_after.result (NoneFollowsInSet c.args.self.now.ages (option_map (λ (w : Vpn). w.0) o)) (λ v. IsOldestInSet c.args.self.now.ages (option_map (λ (w : Vpn). w.0) o) v.0)) (sym c.in-Some.is)
    (subst (λ (s : WorkingSetOf). MatchOption c.next_after.result (NoneFollowsInSet s.ages (Some v.0)) (λ x. IsOldestInSet s.ages (Some v.0) x.0)) c.self.view_is
    (answers_next g.newest g.sets.items g.kept.grouped v.0 c.next_after.result
    (subst (λ (s : WorkingSetOf). IsSome (finite.get s.ages v.0)) (sym c.self.view_is) (c.requires v c.in-Some.is)) c.next_after.ensures))
