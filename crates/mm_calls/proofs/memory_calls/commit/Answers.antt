use Rattle.std.proofs.Common.{rules, ◌≡◌, ◌-◌, ◌*◌, ◌∙◌, Some, sym, ap, arith, option_map}
use Rattle.mm_types.specs.declared.answers.Answer.TheVariants as answer
use Rattle.mm_types.specs.declared.codes.Code.TheVariants as code
use Rattle.mm_types.specs.{Range, address_of}
use Rattle.mm_types.proofs.{some_found}
use Rattle.mm_world.specs.{ProcessOf, RegionOf, Found, process_of, region_around, set_region, blank, commit, change_rows}
use Rattle.mm_world.specs.Alloc.{commit_pages}
use Rattle.mm_address_spaces.specs.{found_info, owned_in}
use Rattle.mm_calls.proofs.{told_is, user_range, owned_few, commit_within, ChangesWithin, past_limit, then_made, then_charged, commits_none}
use Rattle.mm_calls.proofs.{commits_some, commits_broke, makes_within}
use Rattle.mm_calls.proofs.memory_calls.commit.Given as given
use Rattle.mm_calls.proofs.memory_calls.commit.Goals as goal
use Rattle.mm_calls.proofs.memory_calls.commit.Goals.{After-can_charge}

record Asked (g : given.Over) (c : After-can_charge g) (p : ProcessOf (Unit {0})) : Type 0 where
  region : Found (RegionOf (Unit {0}))
  found : region_around p.regions c.args.range ≡ Some region
  within : ChangesWithin (commit_pages blank c.args.t.now c.args.pid.0 p c.args.range c.args.prot) c.args.t.now (c.range.inside.count - c.owned.result) (answer.At (address_of c.args.range.first)) (set_region c.args.t.now c.args.pid.0 p region.place (change_rows (commit tt c.args.prot) c.args.range region.thing))

asked : (g : given.Over) (c : After-can_charge g) (p : ProcessOf (Unit {0})) → process_of c.args.t.now c.args.pid.0 ≡ Some p → Asked g c p
asked g c p lives =
    let same = c.space-space.ensures p lives in
    let r = told_is (region_around p.regions c.args.range) c.in-Some.region (ap (λ rs. option_map found_info (region_around rs c.args.range)) (sym same) ∙ sym c.region_around.ensures.found ∙ c.in-Some.is) in
    let owned = c.owned.ensures ∙ ap (λ rs. owned_in rs c.args.range) same in
    record {
      region = r.region;
      found = r.found;
      within = commit_within c.args.t.now c.args.pid.0 p c.args.range c.args.prot _ lives r.region r.found
          (r.kind ∙ c.in-Private.is)
          (omega (arith, ap (λ (r : Range). r.count) c.range.view_is, owned, owned_few p.regions c.args.range r.region r.found));
    }

pub overflow_mul-result : goal.overflow_mul-result
overflow_mul-result g c =
    let p = some_found (process_of c.args.t.now c.args.pid.0) c.requires.ready.lives in
    let a = asked g (goal.at.overflow_mul-result g c).After-can_charge p.0 p.1 in
    omega (arith, ap (λ (r : Range). r.first) c.range-in-Private.view_is, user_range c.args.t.now c.args.pid.0 p.0 c.args.range a.region p.1 c.sound.ensures.sound a.found)

pub returns-in-None : goal.returns-in-None
returns-in-None g c = commits_none g.G.PageStore c.requires.ready.fits c.args.pid c.args.range c.args.prot code.InvalidAddress (search rules)

pub returns-then-not-can_charge : goal.returns-then-not-can_charge
returns-then-not-can_charge g c =
    commits_none g.G.PageStore c.requires.ready.fits c.args.pid c.args.range c.args.prot code.CommitmentLimit
    (λ p lives. past_limit (asked g (goal.at.returns-then-not-can_charge g c).After-can_charge p lives).within c.can_charge.ensures c.if-not-can_charge.true)

pub returns-in-Ok : goal.returns-in-Ok
returns-in-Ok g c =
    commits_some g.G.PageStore c.requires.ready.fits c.args.pid c.args.range c.args.prot c.commit.ensures.settles.settled
    (λ p lives.
    let a = asked g (goal.at.returns-in-Ok g c).After-can_charge p lives in
    then_made a.within c.can_charge.ensures c.if-not-can_charge.false (ap (λ (r : Range). answer.At (r.first * 4096)) c.range-in-Private.view_is) (c.in-Ok.ensures.ok p a.region lives a.found))
    (makes_within g.G.PageStore _ c.commit.ensures.makes c.commit.ensures.among tt)

pub returns-in-Err : goal.returns-in-Err
returns-in-Err g c =
    commits_broke g.G.PageStore c.requires.ready.fits c.args.pid c.args.range c.args.prot (c.range.inside.count - c.owned.result) c.can_charge.ensures c.if-not-can_charge.false
    (omega (arith, ap (λ (r : Range). r.count) c.range.view_is)) c.in-Err.ensures.enough
    (λ p lives. then_charged (asked g (goal.at.returns-in-Err g c).After-can_charge p lives).within c.can_charge.ensures c.if-not-can_charge.false)
    c.in-Err.ensures.settles (makes_within g.G.PageStore _ c.commit.ensures.makes c.commit.ensures.among c.in-Err.ensures.makes.idle)
