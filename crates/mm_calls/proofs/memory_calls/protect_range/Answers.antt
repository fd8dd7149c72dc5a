use Rattle.std.proofs.Common.{◌≡◌, ◌∙◌, sym, ap, arith, Some}
use Rattle.mm_types.specs.declared.answers.Answer.TheVariants as answer
use Rattle.mm_types.proofs.{not_false}
use Rattle.mm_world.specs.{ProcessOf, process_of, region_around, set_region, protection_at, protected, change_rows}
use Rattle.mm_object_tables.specs.{new_marks}
use Rattle.mm_object_tables.proofs.{not-true}
use Rattle.mm_calls.specs.{protect_pages}
use Rattle.mm_calls.proofs.{protect_missing, protect_uncommitted, protect_unaccepted, protect_within, ChangesWithin, past_limit, then_made}
use Rattle.mm_calls.proofs.{then_charged, some_marks, stays_idle, decides_same, lacks}
use Rattle.mm_calls.proofs.memory_calls.protect_range.Given as given
use Rattle.mm_calls.proofs.memory_calls.protect_range.Goals as goal
use Rattle.mm_calls.proofs.memory_calls.protect_range.Goals.{After-are_committed, After-can_charge}

found : (g : given.Over) (c : After-are_committed g) (p : ProcessOf (Unit {0})) → process_of c.args.t.now c.args.pid.0 ≡ Some p → region_around p.regions c.args.range ≡ Some c.in-Some.ensures.some.region
found g c p lives = ap (λ rs. region_around rs c.args.range) (sym (c.space-space.ensures p lives)) ∙ c.in-Some.ensures.some.around

record Asked (g : given.Over) (c : After-can_charge g) (p : ProcessOf (Unit {0})) : Type 0 where
  found : region_around p.regions c.args.range ≡ Some c.in-Some.ensures.some.region
  within : ChangesWithin (protect_pages c.args.t.now c.args.pid.0 p c.args.range c.args.prot) c.args.t.now c.marks-n.result (answer.OldProt (protection_at c.in-Some.ensures.some.region.thing c.args.range.first))
      (set_region c.args.t.now c.args.pid.0 p c.in-Some.ensures.some.region.place (change_rows (protected c.in-Some.ensures.some.region.thing.kind c.args.prot) c.args.range c.in-Some.ensures.some.region.thing))

asked : (g : given.Over) (c : After-can_charge g) (p : ProcessOf (Unit {0})) → process_of c.args.t.now c.args.pid.0 ≡ Some p → Asked g c p
asked g c p lives =
    let r = c.in-Some.ensures.some.region in
    let same = c.space-space.ensures p lives in
    let at : region_around p.regions c.args.range ≡ Some r = ap (λ rs. region_around rs c.args.range) (sym same) ∙ c.in-Some.ensures.some.around in
    record {
      found = at;
      within = protect_within c.args.t.now c.args.pid.0 p c.args.range c.args.prot _ lives r at (sym (c.are_committed.ensures p r lives at) ∙ c.if-not-are_committed.false)
          (sym (c.in-Some.ensures.accepted r c.in-Some.ensures.some.around) ∙ not_false c.in-Some.asked.accepted c.if-not-asked.false)
          (c.marks-n.ensures ∙ ap (λ rs. new_marks rs c.args.range c.args.prot) same);
    }

pub returns-in-None-clause-done : goal.returns-in-None-clause-done
returns-in-None-clause-done g c =
    decides_same g.G.PageStore c.requires.ready.fits c.args.pid _ _ (λ p lives.
    protect_missing c.args.t.now c.args.pid.0 p c.args.range c.args.prot (ap (λ rs. region_around rs c.args.range) (sym (c.space-space.ensures p lives)) ∙ c.in-None.ensures.none))

pub returns-in-None-clause-idles : goal.returns-in-None-clause-idles
returns-in-None-clause-idles g c = stays_idle g.G.PageStore c.args.g.now

pub returns-then-not-are_committed-clause-done : goal.returns-then-not-are_committed-clause-done
returns-then-not-are_committed-clause-done g c =
    decides_same g.G.PageStore c.requires.ready.fits c.args.pid _ _ (λ p lives.
    (let at = found g (goal.at.returns-then-not-are_committed-clause-done g c).After-are_committed p lives in
    protect_uncommitted c.args.t.now c.args.pid.0 p c.args.range c.args.prot _ at (sym (c.are_committed.ensures p _ lives at) ∙ c.if-not-are_committed.true)))

pub returns-then-not-are_committed-clause-idles : goal.returns-then-not-are_committed-clause-idles
returns-then-not-are_committed-clause-idles g c = stays_idle g.G.PageStore c.args.g.now

pub returns-then-not-asked-clause-done : goal.returns-then-not-asked-clause-done
returns-then-not-asked-clause-done g c =
    decides_same g.G.PageStore c.requires.ready.fits c.args.pid _ _ (λ p lives.
    (let at = found g (goal.at.returns-then-not-asked-clause-done g c).After-are_committed p lives in
    protect_unaccepted c.args.t.now c.args.pid.0 p c.args.range c.args.prot _ at (sym (c.are_committed.ensures p _ lives at) ∙ c.if-not-are_committed.false)
    (sym (c.in-Some.ensures.accepted _ c.in-Some.ensures.some.around) ∙ not-true c.in-Some.asked.accepted c.if-not-asked.true)))

pub returns-then-not-asked-clause-idles : goal.returns-then-not-asked-clause-idles
returns-then-not-asked-clause-idles g c = stays_idle g.G.PageStore c.args.g.now

pub returns-then-not-can_charge-clause-done : goal.returns-then-not-can_charge-clause-done
returns-then-not-can_charge-clause-done g c =
    decides_same g.G.PageStore c.requires.ready.fits c.args.pid _ _ (λ p lives.
    past_limit (asked g (goal.at.returns-then-not-can_charge-clause-done g c).After-can_charge p lives).within c.can_charge.ensures c.if-not-can_charge.true)

pub returns-then-not-can_charge-clause-idles : goal.returns-then-not-can_charge-clause-idles
returns-then-not-can_charge-clause-idles g c = stays_idle g.G.PageStore c.args.g.now

pub returns-in-Ok-clause-done : goal.returns-in-Ok-clause-done
returns-in-Ok-clause-done g c = record {
  outcome = λ p lives.
      let a = asked g (goal.at.returns-in-Ok-clause-done g c).After-can_charge p lives in
      then_made a.within c.can_charge.ensures c.if-not-can_charge.false (ap answer.OldProt c.in-Some.ensures.some.before) (c.in-Ok.ensures.ok p c.in-Some.ensures.some.region lives a.found);
  settled = c.protect.ensures.settles.settled;
}

pub returns-in-Err-clause-marks : goal.returns-in-Err-clause-marks
returns-in-Err-clause-marks g c p lives =
    let a = asked g (goal.at.returns-in-Err-clause-marks g c).After-can_charge p lives in
    omega (arith, then_charged a.within c.can_charge.ensures c.if-not-can_charge.false, some_marks c.marks-n.result (λ none. let bad = c.in-Err.ensures.some none in cc))

pub returns-in-Err-clause-broke : goal.returns-in-Err-clause-broke
returns-in-Err-clause-broke g c = lacks g.G.PageStore c.in-Err.ensures.settles
