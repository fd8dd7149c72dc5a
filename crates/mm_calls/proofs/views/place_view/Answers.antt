use Rattle.std.proofs.Common.{◌≡◌, ◌*◌, ◌∙◌, Some, sym, ap, arith, cond}
use Rattle.mm_types.specs.declared.answers.Answer.TheVariants as answer
use Rattle.mm_types.specs.{Range, address_of, page_of}
use Rattle.mm_world.specs.{ProcessOf, SectionOf, Found, process_of, add_region, ranges_of, placed, set_regions, is_copy, view_region}
use Rattle.mm_calls.specs.{place_view}
use Rattle.mm_calls.proofs.{ChangesWithin, past_limit, then_made, then_succeeds, stays_idle, stays_settled, place_within, place_missing, placed_there}
use Rattle.mm_calls.proofs.views.place_view.Given as given
use Rattle.mm_calls.proofs.views.place_view.Goals as goal
use Rattle.mm_calls.proofs.views.place_view.Goals.{After-can_charge}

within : (g : given.Over) (c : After-can_charge g) (p : ProcessOf (Unit {0})) (s : Found SectionOf) → process_of c.args.t.now c.args.pid.0 ≡ Some p
    → ChangesWithin (place_view c.args.t.now c.args.pid.0 p s c.args.view.access c.args.view.first c.args.count c.args.addr) c.args.t.now c.charged_pages.result (answer.At (address_of c.in-Some.range.first))
    (set_regions c.args.t.now c.args.pid.0 p (add_region (view_region s c.args.view.access c.args.view.first c.in-Some.range) p.regions))
within g c p s lives =
    let w = place_within c.args.t.now c.args.pid.0 p s c.args.view.access c.args.view.first c.in-Some.range lives c.args.count c.args.addr
    (placed_there c.space.result.now.regions p.regions c.args.addr c.args.count c.gap_for_view.result c.in-Some.range (c.space.ensures p lives) c.gap_for_view.ensures.found c.in-Some.is) in
    let n = c.charged_pages.ensures ∙ ap (λ (r : Range). cond (is_copy c.args.view.access) r.count 0) c.range.view_is in
    record { is = w.is; total = omega (arith, w.total, n); same_limit = w.same_limit }

pub returns-in-None-clause-ok : goal.returns-in-None-clause-ok
returns-in-None-clause-ok g c p s lives at_place at_section =
    place_missing c.args.t.now c.args.pid.0 p s c.args.view.access c.args.view.first c.args.count c.args.addr
    (ap (λ rs. placed (ranges_of rs) c.args.addr (record { first = page_of c.args.addr; count = c.args.count }) c.args.count) (sym (c.space.ensures p lives)) ∙ sym c.in-None.ensures.found)

pub returns-in-None-clause-settles : goal.returns-in-None-clause-settles
returns-in-None-clause-settles g c = stays_settled g.G.PageStore c.requires.ready.fits _

pub returns-then-not-can_charge-clause-ok : goal.returns-then-not-can_charge-clause-ok
returns-then-not-can_charge-clause-ok g c p s lives at_place at_section =
    past_limit (within g (goal.at.returns-then-not-can_charge-clause-ok g c).After-can_charge p s lives) c.can_charge.ensures c.if-not-can_charge.true

pub returns-then-not-can_charge-clause-settles : goal.returns-then-not-can_charge-clause-settles
returns-then-not-can_charge-clause-settles g c = stays_settled g.G.PageStore c.requires.ready.fits _

pub returns-in-Ok-clause-ok : goal.returns-in-Ok-clause-ok
returns-in-Ok-clause-ok g c p s lives at_place at_section =
    then_made (within g (goal.at.returns-in-Ok-clause-ok g c).After-can_charge p s lives) c.can_charge.ensures c.if-not-can_charge.false
    (ap (λ (r : Range). answer.At (r.first * 4096)) c.range-2.view_is) (c.in-Ok.ensures.ok p s lives at_place at_section)

pub returns-in-Ok-clause-settles : goal.returns-in-Ok-clause-settles
returns-in-Ok-clause-settles g c = record { err = tt; settled = c.add_view.ensures.settles.settled }

pub returns-in-Err-clause-succeeds : goal.returns-in-Err-clause-succeeds
returns-in-Err-clause-succeeds g c p s lives =
    then_succeeds (within g (goal.at.returns-in-Err-clause-succeeds g c).After-can_charge p s lives) c.can_charge.ensures c.if-not-can_charge.false

pub returns-in-Err-clause-settles : goal.returns-in-Err-clause-settles
returns-in-Err-clause-settles g c = record { err = c.in-Err.ensures.settles.err; settled = c.add_view.ensures.settles.settled }

pub returns-in-None-clause-idles : goal.returns-in-None-clause-idles
returns-in-None-clause-idles g c = stays_idle g.G.PageStore c.args.g.now

pub returns-then-not-can_charge-clause-idles : goal.returns-then-not-can_charge-clause-idles
returns-then-not-can_charge-clause-idles g c = stays_idle g.G.PageStore c.args.g.now
