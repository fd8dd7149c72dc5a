use Rattle.std.proofs.Common.{◌≡◌, Some, None, cond, sym, ap, ◌∙◌}
use Rattle.mm_types.specs.{Range, is_free}
use Rattle.mm_vad.specs.Regions as vad
use Rattle.mm_world.specs.{placed, ranges_of}
use Rattle.mm_address_spaces.specs.{RegionsOf}
use Rattle.mm_address_spaces.proofs.{by_gap, by_wanted}
use Rattle.mm_address_spaces.proofs.spaces.AddressSpace.placed.Goals as goal
use Rattle.mm_address_spaces.proofs.spaces.AddressSpace.placed.Goals.{After-is_free}

pub returns-in_err-first : goal.returns-in_err-first
returns-in_err-first c =
    c.from_residual.ensures
    ∙ sym (by_gap c.self.inside.space.regions c.self.invariant.whole.whole c.args.addr c.args.wanted c.args.count None c.if-addr-eq0.true c.in_err-first.ensures.found)
    ∙ ap (λ (v : RegionsOf). placed (ranges_of v.regions) c.args.addr c.args.wanted c.args.count) c.self.view_is

pub returns-then-addr-eq0 : goal.returns-then-addr-eq0
returns-then-addr-eq0 c =
    sym (by_gap c.self.inside.space.regions c.self.invariant.whole.whole c.args.addr c.args.wanted c.args.count (Some c.in_ok-first.first) c.if-addr-eq0.true c.in_ok-first.ensures.found)
    ∙ ap (λ (v : RegionsOf). placed (ranges_of v.regions) c.args.addr c.args.wanted c.args.count) c.self.view_is

-- as wanted, if that is free
if_free : (c : After-is_free) → cond c.is_free.result (Some c.args.wanted) None ≡ placed (ranges_of c.args.self.now.regions) c.args.addr c.args.wanted c.args.count
if_free c =
    let vs = c.self.inside.space.regions in
    let free = c.is_free.ensures ∙ ap (λ (r : Range). is_free (vad.region_ranges vs) r) c.wanted.view_is in
    sym (by_wanted vs c.self.invariant.whole.whole c.args.addr c.args.wanted c.args.count c.is_free.result c.if-addr-eq0.false free)
    ∙ ap (λ (v : RegionsOf). placed (ranges_of v.regions) c.args.addr c.args.wanted c.args.count) c.self.view_is

pub returns-then-is_free : goal.returns-then-is_free
returns-then-is_free c = ap (λ b. cond b (Some c.args.wanted) None) (sym c.if-is_free.true) ∙ if_free (goal.at.returns-then-is_free c).After-is_free

pub returns-else-is_free : goal.returns-else-is_free
returns-else-is_free c = ap (λ b. cond b (Some c.args.wanted) None) (sym c.if-is_free.false) ∙ if_free (goal.at.returns-else-is_free c).After-is_free
