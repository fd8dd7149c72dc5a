use Rattle.std.proofs.Common.{length, option_map, ap, sym, ◌∙◌, subst}
use Rattle.mm_types.specs.{lowest_gap}
use Rattle.mm_vad.specs.{page_number, VisitsFew}
use Rattle.mm_vad.proofs.{visits_few, lowest_gap-fit}
use Rattle.mm_vad.proofs.gaps.Gaps.lowest_gap.Goals as goal

pub returns-in-None-clause-found : goal.returns-in-None-clause-found
returns-in-None-clause-found g c =
    let is = lowest_gap-fit c.self.inside.tree.ranges c.args.n c.requires c.self.invariant in
    sym (ap (λ v. option_map page_number (lowest_gap v.ranges c.args.n)) (sym c.self.view_is) ∙ ap (option_map page_number) (is ∙ sym c.lowest_gap.ensures.found ∙ c.in-None.is))

pub returns-in-Some-clause-found : goal.returns-in-Some-clause-found
returns-in-Some-clause-found g c =
    let is = lowest_gap-fit c.self.inside.tree.ranges c.args.n c.requires c.self.invariant in
    sym (ap (λ v. option_map page_number (lowest_gap v.ranges c.args.n)) (sym c.self.view_is) ∙ ap (option_map page_number) (is ∙ sym c.lowest_gap.ensures.found ∙ c.in-Some.is))

pub returns-in-None-clause-few : goal.returns-in-None-clause-few
returns-in-None-clause-few g c =
    subst (λ v. VisitsFew g.L.Ledger.stepped c.args.steps.now.ledger c.lowest_gap.new.steps.ledger (length v.ranges)) c.self.view_is
    (visits_few g.L.Ledger.stepped c.args.steps.now.ledger c.lowest_gap.new.steps.ledger c.self.inside.tree c.lowest_gap.ensures.shaped c.lowest_gap.ensures.few)

pub returns-in-Some-clause-few : goal.returns-in-Some-clause-few
returns-in-Some-clause-few g c =
    subst (λ v. VisitsFew g.L.Ledger.stepped c.args.steps.now.ledger c.lowest_gap.new.steps.ledger (length v.ranges)) c.self.view_is
    (visits_few g.L.Ledger.stepped c.args.steps.now.ledger c.lowest_gap.new.steps.ledger c.self.inside.tree c.lowest_gap.ensures.shaped c.lowest_gap.ensures.few)
