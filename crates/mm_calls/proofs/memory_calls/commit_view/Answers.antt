use Rattle.std.proofs.Common.{rules, ◌≡◌, ◌≤◌, ◌+◌, ◌-◌, ◌*◌, ℕ, ◌∙◌, sym, ap, arith, take, drop, length, is_none, is_some, Some}
use Rattle.std.proofs.lemmas.List.{length-take}
use Rattle.std.proofs.lemmas.List.Sums.{count_by-le-length}
use Rattle.mm_types.specs.declared.answers.Answer.TheVariants as answer
use Rattle.mm_types.specs.declared.codes.Code.TheVariants as code
use Rattle.mm_types.specs.{Range, address_of}
use Rattle.mm_types.proofs.{some_found}
use Rattle.mm_world.specs.{AreaOf, ProcessOf, commit_shared, process_of, region_around, area_at, set_area, set_region, blank, change_rows, protected}
use Rattle.mm_world.specs.Alloc.{commit_pages}
use Rattle.mm_sections.specs.{uncommitted_in}
use Rattle.mm_calls.proofs.{TellsView, tells_view, no_block, user_range, view_within, ChangesWithin, past_limit, then_made, then_charged}
use Rattle.mm_calls.proofs.{commits_none, commits_some, commits_broke, makes_as}
use Rattle.mm_calls.proofs.memory_calls.commit_view.Given as given
use Rattle.mm_calls.proofs.memory_calls.commit_view.Goals as goal
use Rattle.mm_calls.proofs.memory_calls.commit_view.Goals.{After-can_charge, After-sound}

-- of so many pages no more are not committed
uncommitted_few : (a : AreaOf (Unit {0})) (first count : ℕ) → uncommitted_in a first count ≤ count
uncommitted_few a first count = omega (arith, count_by-le-length is_none (take count (drop first a.pages)), length-take count (drop first a.pages))

-- the view around the range, after the tables were looked at
told : (g : given.Over) (c : After-sound g) (p : ProcessOf (Unit {0})) → process_of c.args.t.now c.args.pid.0 ≡ Some p → TellsView c.args.t.now p.regions c.args.range c.args.pages c.args.view
told g c p lives = tells_view c.args.t.now c.args.pid.0 p c.args.range c.args.pages c.args.view lives c.sound.ensures.sound (c.requires.around p lives)

-- of the process, which lives
abbrev living : (g : given.Over) (c : After-sound g) → (p : ProcessOf (Unit {0})) × TellsView c.args.t.now p.regions c.args.range c.args.pages c.args.view
living g c = let p = some_found (process_of c.args.t.now c.args.pid.0) c.requires.ready.lives in (p.0, told g c p.0 p.1)

pub area-area-requires : goal.area-area-requires
area-area-requires g c = (living g (goal.at.area-area-requires g c).After-sound).1.made

pub overflow_sub-range-inside : goal.overflow_sub-range-inside
overflow_sub-range-inside g c =
    let v = (living g (goal.at.overflow_sub-range-inside g c).After-sound).1 in
    omega (arith, v.low, ap (λ (r : Range). r.first) c.range.view_is, ap (λ (r : Range). r.first) c.pages.view_is)

pub overflow_add-view : goal.overflow_add-view
overflow_add-view g c =
    let v = (living g (goal.at.overflow_add-view g c).After-sound).1 in
    omega (
      arith,
      v.within,
      ap (λ (r : Range). r.first) c.range.view_is,
      ap (λ (r : Range). r.first) c.pages.view_is,
      ap (λ (a : AreaOf (Unit {0})). length a.pages) c.area-area.ensures,
      c.len-total.ensures,
      c.len-total.type_inv,
    )

pub uncommitted-n-requires : goal.uncommitted-n-requires
uncommitted-n-requires g c =
    let v = (living g (goal.at.uncommitted-n-requires g c).After-sound).1 in
    record {
      inside = omega (
        arith,
        v.within,
        ap (λ (r : Range). r.first) c.range.view_is,
        ap (λ (r : Range). r.count) c.range.view_is,
        ap (λ (r : Range). r.first) c.pages.view_is,
        ap (λ (a : AreaOf (Unit {0})). length a.pages) c.area-area.ensures,
      );
    }

pub overflow_mul-result : goal.overflow_mul-result
overflow_mul-result g c =
    let p = some_found (process_of c.args.t.now c.args.pid.0) c.requires.ready.lives in
    let v = told g (goal.at.overflow_mul-result g c).After-sound p.0 p.1 in
    omega (arith, ap (λ (r : Range). r.first) c.range-2.view_is, user_range c.args.t.now c.args.pid.0 p.0 c.args.range v.region p.1 c.sound.ensures.sound v.found)

record Asked (g : given.Over) (c : After-can_charge g) (p : ProcessOf (Unit {0})) : Type 0 where
  view : TellsView c.args.t.now p.regions c.args.range c.args.pages c.args.view
  within : ChangesWithin (commit_pages blank c.args.t.now c.args.pid.0 p c.args.range c.args.prot) c.args.t.now c.uncommitted-n.result (answer.At (address_of c.args.range.first))
      (set_area (set_region c.args.t.now c.args.pid.0 p view.region.place (change_rows (protected view.region.thing.kind c.args.prot) c.args.range view.region.thing)) c.args.view.area.0
      (commit_shared blank (c.args.view.first + (c.args.range.first - view.region.thing.base)) c.args.range.count (area_at c.args.t.now c.args.view.area.0)))

asked : (g : given.Over) (c : After-can_charge g) (p : ProcessOf (Unit {0})) → process_of c.args.t.now c.args.pid.0 ≡ Some p → Asked g c p
asked g c p lives =
    let t = c.args.t.now in
    let range : Range = c.args.range in
    let v = tells_view t c.args.pid.0 p range c.args.pages c.args.view lives c.sound.ensures.sound (c.requires.around p lives) in
    let first : c.args.view.first + (c.range.inside.first - c.pages.inside.first) ≡ c.args.view.first + (range.first - v.region.thing.base) =
    omega (arith, v.index, ap (λ (r : Range). r.first) c.range.view_is, ap (λ (r : Range). r.first) c.pages.view_is) in
    let count : c.range.inside.count ≡ range.count = ap (λ (r : Range). r.count) c.range.view_is in
    record {
      view = v;
      within = view_within t c.args.pid.0 p range c.args.prot _ lives v.region v.found c.args.view v.kind
          (ap (λ (a : AreaOf (Unit {0})). a.file_block) (sym c.area-area.ensures) ∙ no_block c.area-area.result.now.file_block (ap (λ o. is_some o) (sym c.first_block.ensures) ∙ sym c.is_some.ensures ∙ c.if-is_some.false))
          c.sound.ensures.sound c.requires.prot (sym (c.accepts.ensures v.region (ap (λ rs. region_around rs range) (c.space.ensures p lives) ∙ v.found)) ∙ c.if-not-accepts.false)
          (c.uncommitted-n.ensures ∙ (λ i. uncommitted_in (c.area-area.ensures i) (first i) (count i)));
    }

pub returns-then-not-can_charge : goal.returns-then-not-can_charge
returns-then-not-can_charge g c =
    commits_none g.G.PageStore c.requires.ready.fits c.args.pid c.args.range c.args.prot code.CommitmentLimit
    (λ p lives. past_limit (asked g (goal.at.returns-then-not-can_charge g c).After-can_charge p lives).within c.can_charge.ensures c.if-not-can_charge.true)

pub returns-then-is_some : goal.returns-then-is_some
returns-then-is_some g c = commits_none g.G.PageStore c.requires.ready.fits c.args.pid c.args.range c.args.prot code.InvalidAddress (search rules)

pub returns-then-not-accepts : goal.returns-then-not-accepts
returns-then-not-accepts g c = commits_none g.G.PageStore c.requires.ready.fits c.args.pid c.args.range c.args.prot code.InvalidParameter (search rules)

pub returns-in-Ok : goal.returns-in-Ok
returns-in-Ok g c =
    commits_some g.G.PageStore c.requires.ready.fits c.args.pid c.args.range c.args.prot c.commit_view.ensures.settles.settled
    (λ p lives.
    let a = asked g (goal.at.returns-in-Ok g c).After-can_charge p lives in
    then_made a.within c.can_charge.ensures c.if-not-can_charge.false (ap (λ (r : Range). answer.At (r.first * 4096)) c.range-2.view_is)
    (c.in-Ok.ensures.ok p a.view.region c.args.view lives a.view.found a.view.kind))
    (makes_as g.G.PageStore _ c.commit_view.ensures.makes tt)

pub returns-in-Err : goal.returns-in-Err
returns-in-Err g c =
    let few : c.uncommitted-n.result ≤ c.args.range.count = omega (arith, c.uncommitted-n.ensures, uncommitted_few c.area-area.result.now (c.args.view.first + (c.range.inside.first - c.pages.inside.first)) c.range.inside.count, ap (λ (r : Range). r.count) c.range.view_is) in
    commits_broke g.G.PageStore c.requires.ready.fits c.args.pid c.args.range c.args.prot c.uncommitted-n.result c.can_charge.ensures c.if-not-can_charge.false few c.in-Err.ensures.enough
    (λ p lives. then_charged (asked g (goal.at.returns-in-Err g c).After-can_charge p lives).within c.can_charge.ensures c.if-not-can_charge.false)
    c.in-Err.ensures.settles (makes_as g.G.PageStore _ c.commit_view.ensures.makes c.in-Err.ensures.makes.idle)
