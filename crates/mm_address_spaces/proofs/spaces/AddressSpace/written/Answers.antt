use Rattle.std.proofs.Common.{◌-◌, Bool, List, map, take, drop, Option, Some, is_some, sym, ap, ◌∙◌, arith, option_map, ℕ}
use Rattle.mm_types.specs.{Range, address_of}
use Rattle.mm_world.specs.{written_from, written_in}
use Rattle.mm_address_spaces.specs.{found_if}
use Rattle.mm_address_spaces.proofs.{Place, watched_there, told_here, flags_many}
use Rattle.mm_address_spaces.proofs.spaces.AddressSpace.written.Goals as goal

pub returns-in_err-region-clause-found : goal.returns-in_err-region-clause-found
returns-in_err-region-clause-found c =
    c.from_residual.ensures
    ∙ sym (ap (option_map (λ (x : Place). map address_of (written_in x.thing c.args.range c.args.count))) (c.in_err-region.ensures.none.only (λ x. is_some x.watched)))

pub list-requires-clause-high : goal.list-requires-clause-high
list-requires-clause-high c =
    let region = c.in_ok-region.region.now in
    let h = c.in_ok-region.ensures.some in
    let many = flags_many region c.in-Some.flags h.at.flags c.in-Some.is in
    omega (arith, many, h.at.rows, h.high, ap (λ (x : Range). x.first) c.range.view_is, ap (λ (x : Range). x.count) c.range.view_is)

pub list-requires-clause-user : goal.list-requires-clause-user
list-requires-clause-user c =
    let region = c.in_ok-region.region.now in
    let h = c.in_ok-region.ensures.some in
    omega (arith, flags_many region c.in-Some.flags h.at.flags c.in-Some.is, h.at.within)

pub returns-in-Some-clause-found : goal.returns-in-Some-clause-found
returns-in-Some-clause-found c =
    let region = c.in_ok-region.region.now in
    let base = region.base.0 in
    ap (λ (ps : List ℕ). Some ps) c.list.ensures
    ∙ ap (λ (x : Range). Some (map address_of (take c.args.count (written_from x.first (take x.count (drop (x.first - base) c.in-Some.flags)))))) c.range.view_is
    ∙ sym (told_here c.args.self.now.regions c.args.range region c.in_ok-region.ensures.some c.in-Some.flags c.args.count c.in-Some.is)

pub returns-in-None-clause-found : goal.returns-in-None-clause-found
returns-in-None-clause-found c =
    let region = c.in_ok-region.region.now in
    let h = c.in_ok-region.ensures.some in
    sym (ap (option_map (λ (x : Place). map address_of (written_in x.thing c.args.range c.args.count)))
    (watched_there c.args.self.now.regions c.args.range region h ∙ ap (λ (o : Option (List Bool)). found_if (is_some o) h.at.found) c.in-None.is))
