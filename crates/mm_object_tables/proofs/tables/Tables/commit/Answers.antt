use Rattle.std.proofs.Common.{◌≤◌, ◌+◌, ◌^◌, ◌∙◌, refl, sym, ap, subst, arith, is_some}
use Rattle.mm_types.proofs.{some_found, on_err}
use Rattle.mm_world.specs.{Tables, process_of, region_around, commit}
use Rattle.mm_world.specs.WellFormed.{WellFormed}
use Rattle.mm_commit_charge.specs.{CommitOf}
use Rattle.mm_store.specs.{MakesFrom, StoreOf}
use Rattle.mm_store.proofs.{idle_before}
use Rattle.mm_object_tables.specs.{CanAdd, FitsTables, Roomier, StandsFrom}
use Rattle.mm_object_tables.proofs.{out_of_memory, settled_as, roomier_settled, commit_done, ends, can_add, around, Held, held_by, around_became}
use Rattle.mm_object_tables.proofs.{around_changed, still_kept, settled_then, keys_stored, lives_there}
use Rattle.mm_object_tables.proofs.tables.Tables.commit.Given as given
use Rattle.mm_object_tables.proofs.tables.Tables.commit.Goals as goal
use Rattle.mm_object_tables.proofs.tables.Tables.commit.Goals.{After-now, After-reserve, After-space_of-space}

-- the pages are user pages
stands : (g : given.Over) (c : After-now g) → StandsFrom 0 (2 ^ 32) c.args.range
stands g c =
    let p = some_found (process_of c.args.self.now c.args.pid.0) c.requires.ready.lives in
    let r = some_found (region_around p.0.regions c.args.range) (c.requires.can.inside p.0 p.1) in
    let a = around p.0.regions c.args.range r.0 r.1 in
    let sound = subst (λ (t : Tables). WellFormed t) c.self.view_is c.self.invariant.sound in
    let end = ends c.args.self.now c.args.pid p.0 _ _ p.1 sound c.requires.ready.fits r.0.place r.0.thing c.args.range a.at a.inside in
    (omega arith, omega (arith, end))

-- there may be more room, and the tables still fit
more : (g : given.Over) (c : After-reserve g) → Roomier (g.G.PageStore.contents c.args.g.now) (g.G.PageStore.contents c.reserve.new.self) (g.G.PageStore.store c.args.g.now) (g.G.PageStore.store c.reserve.new.self)
more g c = record { contents = c.reserve.ensures.contents; store = c.reserve.ensures.store; later = c.reserve.ensures.later }

fits : (g : given.Over) (c : After-reserve g) → FitsTables c.args.self.now (g.G.PageStore.contents c.reserve.new.self) (g.G.PageStore.store c.reserve.new.self)
fits g c = (roomier_settled c.requires.ready.fits refl (more g c)).fits

held : (g : given.Over) (c : After-space_of-space g) → Held c.self.inside c.args.self.now c.args.pid.0 c.index_mut.result.now c.space_of-space.result.now.regions
held g c = held_by c.self.inside c.args.self.now c.self.view_is c.self.invariant c.args.pid.0 c.index_mut.result.now c.requires.ready.lives c.index_mut.ensures.value c.space_of-space.ensures.value

pub returns-in_err-reserve-clause-among : goal.returns-in_err-reserve-clause-among
returns-in_err-reserve-clause-among g c = stands g (goal.at.returns-in_err-reserve-clause-among g c).After-now

pub returns-in_err-reserve-clause-settles : goal.returns-in_err-reserve-clause-settles
returns-in_err-reserve-clause-settles g c =
    out_of_memory g.G.PageStore c.from_residual.result c.requires.ready.fits refl (more g (goal.at.returns-in_err-reserve-clause-settles g c).After-reserve)

pub returns-in_err-reserve-clause-makes : goal.returns-in_err-reserve-clause-makes
returns-in_err-reserve-clause-makes g c = record {
  later = c.reserve.ensures.later;
  passes = λ from to stands. c.reserve.ensures.passes (MakesFrom from to);
  idle = on_err c.from_residual.result c.reserve.ensures.passes;
  loans = c.reserve.ensures.loans;
}

pub space_of-space-requires : goal.space_of-space-requires
space_of-space-requires g c = record { lives = lives_there c.self.inside c.args.self.now c.self.view_is c.args.pid.0 c.index_mut.result.now c.requires.ready.lives c.index_mut.ensures.value }

pub add_pages-requires : goal.add_pages-requires
add_pages-requires g c =
    let h = held g (goal.at.add_pages-requires g c).After-space_of-space in
    let f = fits g (goal.at.add_pages-requires g c).After-reserve in
    let r = some_found (region_around h.process.regions c.args.range) (c.requires.can.inside h.process h.lives) in
    let a = around h.process.regions c.args.range r.0 r.1 in
    record {
      known = tt;
      end = ends c.args.self.now c.args.pid h.process _ _ h.lives h.kept.sound f r.0.place r.0.thing c.args.range a.at a.inside;
      can = subst (λ rs. CanAdd c.args.pid c.args.range rs (g.G.PageStore.contents c.reserve.new.self) (g.G.PageStore.store c.reserve.new.self)) (sym h.same)
          (can_add c.args.self.now c.args.pid h.process _ _ h.lives h.kept.sound f r.0.place r.0.thing c.args.range a.at a.inside (c.requires.can.private h.process r.0 h.lives r.1) c.args.n
          (omega (arith, c.requires.can.counted h.process h.lives, a.owned)) (omega (arith, c.now.ensures.charge, h.kept.charged, c.in_ok-reserve.ensures.ok))
          (ap (λ (x : StoreOf). x.kind) c.reserve.ensures.store ∙ c.requires.ready.kind_is));
    }

pub commit-requires : goal.commit-requires
commit-requires g c =
    let h = held g (goal.at.commit-requires g c).After-space_of-space in
    record {
      inside = ap (λ rs. is_some (region_around rs c.args.range)) h.same ∙ c.requires.can.inside h.process h.lives;
      private = λ r found. c.requires.can.private h.process r h.lives (ap (λ rs. region_around rs c.args.range) (sym h.same) ∙ found);
      prot = c.requires.can.allowed;
    }

pub invariant_of-self : goal.invariant_of-self
invariant_of-self g c =
    let h = held g (goal.at.invariant_of-self g c).After-space_of-space in
    let r = some_found (region_around h.process.regions c.args.range) (c.requires.can.inside h.process h.lives) in
    let adds = c.add_pages.ensures.adds in
    let room : c.now.result + c.args.n ≤ (g.G.PageStore.store c.add_pages.new.g).room = omega (arith, c.in_ok-reserve.ensures.ok, ap (λ (x : StoreOf). x.room) adds.store) in
    let done = commit_done c.args.self.now c.args.pid h.process c.args.range _ _ _ _ h.lives h.kept.sound (fits g (goal.at.invariant_of-self g c).After-reserve) r.0 c.args.prot c.args.n r.1 (c.requires.can.private h.process r.0 h.lives r.1) c.requires.can.allowed (c.requires.can.counted h.process h.lives)
    (keys_stored adds) (ap (λ (x : StoreOf). x.paging_keys) adds.store) (omega (arith, c.now.ensures.charge, h.kept.charged, room)) in
    let became = around_became h c.args.range c.commit.new.self (λ r. commit tt c.args.prot) c.commit.ensures.changed h.process r.0 h.lives r.1 in
    still_kept h c.commit.new.self _ c.take.new.commit _ became done.stands done.charged c.requires.room
    (omega (arith, ap (λ (k : CommitOf). k.charge) c.take.ensures, h.kept.charged)) (ap (λ (k : CommitOf). k.limit) c.take.ensures)

pub returns-clause-ok : goal.returns-clause-ok
returns-clause-ok g c p r lives found =
    around_changed (held g (goal.at.returns-clause-ok g c).After-space_of-space) c.args.range c.commit.new.self (λ r. commit tt c.args.prot) c.commit.ensures.changed p r lives found

pub returns-clause-settles : goal.returns-clause-settles
returns-clause-settles g c =
    let h = held g (goal.at.returns-clause-settles g c).After-space_of-space in
    let r = some_found (region_around h.process.regions c.args.range) (c.requires.can.inside h.process h.lives) in
    let adds = c.add_pages.ensures.adds in
    let before = (goal.at.returns-clause-settles g c).After-reserve in
    let room : c.now.result + c.args.n ≤ (g.G.PageStore.store c.add_pages.new.g).room = omega (arith, c.in_ok-reserve.ensures.ok, ap (λ (x : StoreOf). x.room) adds.store) in
    let done = commit_done c.args.self.now c.args.pid h.process c.args.range _ _ _ _ h.lives h.kept.sound (fits g before) r.0 c.args.prot c.args.n r.1 (c.requires.can.private h.process r.0 h.lives r.1) c.requires.can.allowed (c.requires.can.counted h.process h.lives)
    (keys_stored adds) (ap (λ (x : StoreOf). x.paging_keys) adds.store) (omega (arith, c.now.ensures.charge, h.kept.charged, room)) in
    record {
      err = tt;
      settled = settled_as (around_changed h c.args.range c.commit.new.self (λ r. commit tt c.args.prot) c.commit.ensures.changed h.process r.0 h.lives r.1) (settled_then (more g before) done.settled);
    }

pub returns-clause-among : goal.returns-clause-among
returns-clause-among g c = stands g (goal.at.returns-clause-among g c).After-now

pub returns-clause-makes : goal.returns-clause-makes
returns-clause-makes g c = record {
  later = omega (arith, c.reserve.ensures.later, ap (λ (x : StoreOf). x.room) c.add_pages.ensures.adds.store);
  passes = λ from to stands.
      idle_before g.G.PageStore.unpaged (MakesFrom from to) (g.G.PageStore.store c.args.g.now) (g.G.PageStore.store c.reserve.new.self) (g.G.PageStore.store c.add_pages.new.g)
      (g.G.PageStore.behind c.args.g.now) (g.G.PageStore.behind c.reserve.new.self) (g.G.PageStore.behind c.add_pages.new.g) c.reserve.ensures.passes (c.add_pages.ensures.passes from to stands);
  idle = tt;
  loans = c.add_pages.ensures.loans ∙ c.reserve.ensures.loans;
}
