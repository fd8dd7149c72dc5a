use Rattle.std.proofs.Common.{◌≡◌, ◌≤◌, ◌-◌, ◌∙◌, List, Option, Some, true, false, refl, sym, ap, is_some, set, arith}
use Rattle.mm_types.specs.{Range}
use Rattle.mm_types.proofs.{some_found}
use Rattle.mm_world.specs.{Found, ProcessOf, RegionOf, Tables, change_rows, process_of, protected, region_around}
use Rattle.mm_object_tables.specs.{shown_processes, with_space}
use Rattle.mm_object_tables.proofs.{Held, held_by, changed_in, pages_idle, pages_then, CommitsView, Committed, can_share, commits_now, out_of_memory}
use Rattle.mm_object_tables.proofs.{commits_kept, commits_settled, lives_there, regions_are}
use Rattle.mm_object_tables.proofs.tables.Tables.commit_view.Given as given
use Rattle.mm_object_tables.proofs.tables.Tables.commit_view.Goals as goal
use Rattle.mm_object_tables.proofs.tables.Tables.commit_view.Goals.{After-space_of, After-take}

-- what is known before pages come to be
commits : (g : given.Over) (c : goal.After-range g) → CommitsView c.self.inside c.args.self.now c.args.pid c.args.range c.args.prot c.args.n c.view_of-offset.result.0 c.view_of-offset.result.1 c.range.inside.count (g.G.PageStore.contents c.args.g.now) (g.G.PageStore.store c.args.g.now)
commits g c =
    let count = ap (λ (r : Range). r.count) c.range.view_is in
    let some : 1 ≤ c.range.inside.count = omega (arith, c.range.invariant, count) in
    let told = λ (p : ProcessOf (Unit {0})) (r : Found (RegionOf (Unit {0}))) (lives : process_of c.args.self.now c.args.pid.0 ≡ Some p) (around : region_around p.regions c.args.range ≡ Some r). c.view_of-offset.ensures r (ap (λ rs. region_around rs c.args.range) (c.space.ensures p lives) ∙ around) in
    assumption (count, some, told)

held : (g : given.Over) (c : After-space_of g) → Held c.self.inside c.args.self.now c.args.pid.0 c.index_mut.result.now c.space_of.result.now.regions
held g c = held_by c.self.inside c.args.self.now c.self.view_is c.self.invariant c.args.pid.0 c.index_mut.result.now c.requires.ready.lives c.index_mut.ensures.value c.space_of.ensures.value

-- and after they did
commits_then : (g : given.Over) (c : After-take g) → CommitsView c.self.inside c.args.self.now c.args.pid c.args.range c.args.prot c.args.n c.view_of-offset.result.0 c.view_of-offset.result.1 c.range.inside.count (g.G.PageStore.contents c.args.g.now) (g.G.PageStore.store c.args.g.now)
commits_then g c =
    let count = ap (λ (r : Range). r.count) c.range.view_is in
    let some : 1 ≤ c.range.inside.count = omega (arith, c.range.invariant, count) in
    let told = λ (p : ProcessOf (Unit {0})) (r : Found (RegionOf (Unit {0}))) (lives : process_of c.args.self.now c.args.pid.0 ≡ Some p) (around : region_around p.regions c.args.range ≡ Some r). c.view_of-offset.ensures r (ap (λ rs. region_around rs c.args.range) (c.space.ensures p lives) ∙ around) in
    assumption (count, some, told)

-- the processes, and what has become of them and the areas
abbrev after : (g : given.Over) (c : After-take g) → List (Option (ProcessOf (Unit {0})))
after g c = shown_processes (set c.self.inside.processes.items (c.args.pid.0 - 1) (with_space c.index_mut.result.now c.protect.new.self))

committed : (g : given.Over) (c : After-take g) → Committed c.self.inside c.args.pid c.args.range c.args.prot c.view_of-offset.result.0 c.view_of-offset.result.1 c.range.inside.count (after g c) c.share_pages.new.areas.items
committed g c =
    let alive = ap (λ (t : Tables). is_some (process_of t c.args.pid.0)) c.self.view_is ∙ c.requires.ready.lives in
    record {
      processes = λ p r lives found.
          let same : c.space_of.result.now.regions ≡ p.regions = c.space_of.ensures.value ∙ regions_are c.self.inside.processes.items c.args.pid.0 c.index_mut.result.now alive c.index_mut.ensures.value p lives in
          let put : List (RegionOf (Unit {0})) → List (RegionOf (Unit {0})) = λ rs. set rs r.place (change_rows (protected r.thing.kind c.args.prot) c.args.range r.thing) in
          changed_in c.self.inside.processes.items c.args.pid.0 c.index_mut.result.now alive c.index_mut.ensures.value c.protect.new.self put
          (c.protect.ensures.changed r (ap (λ rs. region_around rs c.args.range) same ∙ found) ∙ ap put c.space_of.ensures.value) p lives;
      areas_are = c.share_pages.ensures.areas;
    }

pub space_of-requires : goal.space_of-requires
space_of-requires g c = record { lives = lives_there c.self.inside c.args.self.now c.self.view_is c.args.pid.0 c.index_mut.result.now c.requires.ready.lives c.index_mut.ensures.value }

pub protect-requires-clause-inside : goal.protect-requires-clause-inside
protect-requires-clause-inside g c =
    let h = held g (goal.at.protect-requires-clause-inside g c).After-space_of in
    ap (λ rs. is_some (region_around rs c.args.range)) h.same ∙ c.requires.can.inside h.process h.lives

pub protect-requires-clause-accepted : goal.protect-requires-clause-accepted
protect-requires-clause-accepted g c r found =
    let h = held g (goal.at.protect-requires-clause-accepted g c).After-space_of in
    c.requires.can.accepted h.process r h.lives (ap (λ rs. region_around rs c.args.range) (sym h.same) ∙ found)

pub protect-requires-clause-committed : goal.protect-requires-clause-committed
protect-requires-clause-committed g c r found private =
    let h = held g (goal.at.protect-requires-clause-committed g c).After-space_of in
    let bad : true ≡ false = sym private ∙ c.requires.can.view h.process r h.lives (ap (λ rs. region_around rs c.args.range) (sym h.same) ∙ found) in
    cc

pub view_of-offset-requires : goal.view_of-offset-requires
view_of-offset-requires g c =
    let p = some_found (process_of c.args.self.now c.args.pid.0) c.requires.ready.lives in
    let same = c.space.ensures p.0 p.1 in
    record {
      inside = ap (λ rs. is_some (region_around rs c.args.range)) same ∙ c.requires.can.inside p.0 p.1;
      view = λ r found. c.requires.can.view p.0 r p.1 (ap (λ rs. region_around rs c.args.range) (sym same) ∙ found);
    }

pub share_pages-requires-clause-can : goal.share_pages-requires-clause-can
share_pages-requires-clause-can g c =
    can_share (commits g c) (g.G.PageStore.contents c.reserve.new.self) (g.G.PageStore.store c.reserve.new.self) c.reserve.ensures.contents c.reserve.ensures.store c.reserve.ensures.later
    (omega (arith, c.in_ok-reserve.ensures.ok, c.now.ensures.charge)) c.requires.ready.kind_is

pub invariant_of-self : goal.invariant_of-self
invariant_of-self g c =
    commits_kept (commits_then g c) (after g c) c.share_pages.new.areas.items (committed g c) c.take.new.commit c.take.ensures

pub returns-clause-settles : goal.returns-clause-settles
returns-clause-settles g c =
    record {
      err = tt;
      settled = commits_settled (commits_then g c) (after g c) c.share_pages.new.areas.items (committed g c)
          (g.G.PageStore.contents c.reserve.new.self) (g.G.PageStore.contents c.share_pages.new.g) (g.G.PageStore.store c.reserve.new.self) (g.G.PageStore.store c.share_pages.new.g)
          c.reserve.ensures.contents c.reserve.ensures.store c.reserve.ensures.later (omega (arith, c.in_ok-reserve.ensures.ok, c.now.ensures.charge)) c.share_pages.ensures.shared.shares;
    }

pub returns-in_err-reserve-clause-settles : goal.returns-in_err-reserve-clause-settles
returns-in_err-reserve-clause-settles g c =
    out_of_memory g.G.PageStore c.from_residual.result c.requires.ready.fits refl (record { contents = c.reserve.ensures.contents; store = c.reserve.ensures.store; later = c.reserve.ensures.later })

pub returns-clause-ok : goal.returns-clause-ok
returns-clause-ok g c p r v lives around is_view =
    commits_now (commits_then g c) (after g c) c.share_pages.new.areas.items (committed g c) p r v lives around is_view

pub returns-clause-makes : goal.returns-clause-makes
returns-clause-makes g c = pages_then g.G.PageStore c.reserve.new.self c.reserve.ensures.passes c.reserve.ensures.loans c.share_pages.ensures.shared.passes c.share_pages.ensures.shared.loans

pub returns-in_err-reserve-clause-makes : goal.returns-in_err-reserve-clause-makes
returns-in_err-reserve-clause-makes g c = pages_idle g.G.PageStore c.from_residual.result c.reserve.ensures.passes c.reserve.ensures.loans
