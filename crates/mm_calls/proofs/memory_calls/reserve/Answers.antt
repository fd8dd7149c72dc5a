use Rattle.std.proofs.Common.{◌≡◌, ◌*◌, Some, ◌∙◌, sym, ap, arith}
use Rattle.mm_types.specs.declared.answers.Answer.TheVariants as answer
use Rattle.mm_types.specs.{Range, address_of, granule_range_of, is_free, pages_for}
use Rattle.mm_world.specs.{ProcessOf, private_region, reserve, blank, process_of, add_region, ranges_of, placed, set_regions}
use Rattle.mm_calls.proofs.{ChangesWithin, past_limit, then_made, then_succeeds, makes_none, makes_same, makes_some, makes_broke, makes_within}
use Rattle.mm_calls.proofs.{reserve_missing, reserve_within}
use Rattle.mm_calls.proofs.memory_calls.reserve.Given as given
use Rattle.mm_calls.proofs.memory_calls.reserve.Goals as goal
use Rattle.mm_calls.proofs.memory_calls.reserve.Goals.{After-can_charge}

within : (g : given.Over) (c : After-can_charge g) (p : ProcessOf (Unit {0})) → process_of c.args.t.now c.args.pid.0 ≡ Some p
    → ChangesWithin (reserve blank c.args.t.now c.args.pid.0 p c.args.addr c.args.size c.args.watched c.args.kind c.args.prot) c.args.t.now c.new_pages.result (answer.At (address_of c.in-Some.range.first))
    (set_regions c.args.t.now c.args.pid.0 p (add_region (private_region blank c.args.watched c.args.kind c.args.prot c.in-Some.range) p.regions))
within g c p lives =
    let same = sym (c.space.ensures p lives) in
    let w = reserve_within c.args.t.now c.args.pid.0 p c.args.addr c.args.size c.args.watched c.args.kind c.args.prot c.in-Some.range lives
    (ap (λ rs. placed (ranges_of rs) c.args.addr (granule_range_of c.args.addr c.args.size) (pages_for c.args.size)) same ∙ sym c.in-Some.ensures.found)
    (ap (λ rs. is_free (ranges_of rs) c.in-Some.range) same ∙ c.in-Some.ensures.free.3) in
    record { is = w.is; total = omega (arith, w.total, c.new_pages.ensures); same_limit = w.same_limit }

pub returns-in-None-clause-made : goal.returns-in-None-clause-made
returns-in-None-clause-made g c =
    makes_same g.G.PageStore c.requires.ready.fits c.args.pid _ _ (λ p lives.
    reserve_missing c.args.t.now c.args.pid.0 p c.args.addr c.args.size c.args.watched c.args.kind c.args.prot
    (ap (λ rs. placed (ranges_of rs) c.args.addr (granule_range_of c.args.addr c.args.size) (pages_for c.args.size)) (sym (c.space.ensures p lives)) ∙ sym c.in-None.ensures.found))

pub returns-then-not-can_charge-clause-made : goal.returns-then-not-can_charge-clause-made
returns-then-not-can_charge-clause-made g c =
    makes_same g.G.PageStore c.requires.ready.fits c.args.pid _ _ (λ p lives.
    past_limit (within g (goal.at.returns-then-not-can_charge-clause-made g c).After-can_charge p lives) c.can_charge.ensures c.if-not-can_charge.true)

pub returns-in-Ok-clause-made : goal.returns-in-Ok-clause-made
returns-in-Ok-clause-made g c =
    makes_some g.G.PageStore c.reserve.ensures.settles.settled (λ p lives.
    then_made (within g (goal.at.returns-in-Ok-clause-made g c).After-can_charge p lives) c.can_charge.ensures c.if-not-can_charge.false
    (ap (λ (r : Range). answer.At (r.first * 4096)) c.range.view_is) (c.in-Ok.ensures.ok p lives))

pub returns-in-Ok-clause-makes : goal.returns-in-Ok-clause-makes
returns-in-Ok-clause-makes g c = makes_within g.G.PageStore _ c.reserve.ensures.makes (λ commits. c.reserve.ensures.among) tt

pub returns-in-Err-clause-made : goal.returns-in-Err-clause-made
returns-in-Err-clause-made g c =
    makes_broke g.G.PageStore c.in-Err.ensures.settles (λ p lives.
    then_succeeds (within g (goal.at.returns-in-Err-clause-made g c).After-can_charge p lives) c.can_charge.ensures c.if-not-can_charge.false)

pub returns-in-Err-clause-makes : goal.returns-in-Err-clause-makes
returns-in-Err-clause-makes g c = makes_within g.G.PageStore _ c.reserve.ensures.makes (λ commits. c.reserve.ensures.among) c.in-Err.ensures.makes.idle

pub returns-in-None-clause-makes : goal.returns-in-None-clause-makes
returns-in-None-clause-makes g c = makes_none g.G.PageStore _ c.args.g.now

pub returns-then-not-can_charge-clause-makes : goal.returns-then-not-can_charge-clause-makes
returns-then-not-can_charge-clause-makes g c = makes_none g.G.PageStore _ c.args.g.now
