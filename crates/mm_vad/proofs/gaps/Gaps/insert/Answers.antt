use Rattle.std.proofs.Common.{◌≡◌, sym, ap, ◌∙◌, subst, arith}
use Rattle.mm_types.specs.{first_user_page}
use Rattle.mm_vad.specs.{LieApart, range_at, add_range}
use Rattle.mm_vad.proofs.{apart_from_below, length-apart, add_free}
use Rattle.mm_vad.proofs.gaps.Gaps.insert.Goals as goal

pub insert-requires-clause-apart : goal.insert-requires-clause-apart
insert-requires-clause-apart c = apart_from_below 0 first_user_page c.self.inside.tree.ranges (omega arith) c.self.invariant

pub insert-requires-clause-few : goal.insert-requires-clause-few
insert-requires-clause-few c = omega (arith, length-apart first_user_page c.self.inside.tree.ranges (omega arith) c.self.invariant)

pub returns-clause-apart : goal.returns-clause-apart
returns-clause-apart c =
    let old = subst (λ v. LieApart first_user_page v.ranges) c.self.view_is c.self.invariant in
    let is : c.insert.new.self.ranges ≡ add_range (range_at c.args.first.0 c.args.n) c.args.self.now.ranges =
    c.insert.ensures.is ∙ ap (λ v. add_range (range_at c.args.first.0 c.args.n) v.ranges) c.self.view_is in
    subst (LieApart first_user_page) (sym is) (add_free c.args.self.now.ranges (range_at c.args.first.0 c.args.n) c.requires.free c.requires.some old)

pub invariant_of-self : goal.invariant_of-self
invariant_of-self c = returns-clause-apart c
