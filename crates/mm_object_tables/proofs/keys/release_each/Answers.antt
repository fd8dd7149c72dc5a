use Rattle.std.proofs.Common.{◌≡◌, ℕ, ◌+◌, ◌<◌, ◌∙◌, refl, sym, ap, subst, arith, is_some, cond}
use Rattle.mm_types.specs.{Range}
use Rattle.mm_world.specs.{own_page}
use Rattle.mm_store.specs.{place_at, page_rank}
use Rattle.mm_store.specs.Housekeeping.{Ends}
use Rattle.mm_store.proofs.{turns_same}
use Rattle.mm_object_tables.specs.{CanGiveUp, GivenUp, is_owned_at, owned_among, one_page_range, KnownAt}
use Rattle.mm_object_tables.proofs.{given_none, given_then, given_all, next_can, page_then, range_passes, known_at, next_held}
use Rattle.mm_object_tables.proofs.keys.release_each.Goals as goal

pub loop-i-init : goal.loop-i-init
loop-i-init g c =
    record {
      given_up = given_none c.args.goes c.args.pid c.args.range (g.G.PageStore.contents c.args.g.now) (g.G.PageStore.store c.args.g.now);
      passes = λ held each. turns_same g.G.PageStore.unpaged (Ends held (page_rank c.args.range.first) (page_rank (c.args.range.first + 0))) (g.G.PageStore.store c.args.g.now) (g.G.PageStore.behind c.args.g.now);
      loans = refl;
    }

pub release_page-requires : goal.release_page-requires
release_page-requires g c =
    let first : c.range.inside.first ≡ c.args.range.first = ap (λ (r : Range). r.first) c.range.view_is in
    let few : c.loop-i.i < c.args.range.count = omega (arith, c.loop-i-test.true, ap (λ (r : Range). r.count) c.range.view_is) in
    let rs = c.args.space.now.regions in
    record {
      known = subst (λ (k : ℕ). KnownAt c.args.known c.args.space.now.regions (k + c.loop-i.i)) (sym first) (known_at c.args.known c.args.space.now.regions c.args.range c.loop-i.i c.requires.known few);
      can = subst (λ (k : ℕ). CanGiveUp c.args.goes c.args.pid (k + c.loop-i.i) (is_some (own_page rs (k + c.loop-i.i))) (g.G.PageStore.contents c.loop-i.g) (g.G.PageStore.store c.loop-i.g)) (sym first)
          (next_can c.args.goes c.args.pid c.args.range c.loop-i.i (owned_among (is_owned_at rs c.args.range.first) c.loop-i.i) rs c.requires.can few c.loop-i.invariant.given_up);
    }

pub loop-i-preserved : goal.loop-i-preserved
loop-i-preserved g c =
    let first : c.range.inside.first ≡ c.args.range.first = ap (λ (r : Range). r.first) c.range.view_is in
    let at : c.range.inside.first + c.loop-i.i ≡ c.args.range.first + c.loop-i.i = omega (arith, first) in
    let few : c.loop-i.i < c.args.range.count = omega (arith, c.loop-i-test.true, ap (λ (r : Range). r.count) c.range.view_is) in
    let rs = c.args.space.now.regions in
    record {
      given_up = given_then c.args.goes c.args.pid c.args.range c.loop-i.i (is_owned_at rs c.args.range.first) c.loop-i.invariant.given_up
          (subst (λ (k : ℕ). GivenUp c.args.goes c.args.pid (one_page_range (k + c.loop-i.i)) (cond (is_some (own_page rs (k + c.loop-i.i))) 1 0) (g.G.PageStore.contents c.loop-i.g) (g.G.PageStore.contents c.release_page.new.g) (g.G.PageStore.store c.loop-i.g) (g.G.PageStore.store c.release_page.new.g)) first c.release_page.ensures.given_up);
      passes = λ held each. page_then g.G.PageStore.unpaged held c.args.range.first c.loop-i.i (g.G.PageStore.store c.args.g.now) (g.G.PageStore.store c.loop-i.g) (g.G.PageStore.store c.release_page.new.g)
          (g.G.PageStore.behind c.args.g.now) (g.G.PageStore.behind c.loop-i.g) (g.G.PageStore.behind c.release_page.new.g) (c.loop-i.invariant.passes held each)
          (c.release_page.ensures.passes held (page_rank (c.args.range.first + c.loop-i.i)) (page_rank (c.args.range.first + (c.loop-i.i + 1)))
          (ap (λ (k : ℕ). held.places (place_at c.args.pid k)) at ∙ each (c.args.range.first + c.loop-i.i) (next_held c.args.range c.loop-i.i few))
          (omega (arith, at)) (omega (arith, at)));
      loans = c.release_page.ensures.loans ∙ c.loop-i.invariant.loans;
    }

pub returns : goal.returns
returns g c =
    let all : c.loop-i.i ≡ c.args.range.count = omega (arith, c.loop-i-test.false, c.loop-i.auto.i-end, ap (λ (r : Range). r.count) c.range.view_is) in
    record {
      given_up = given_all c.args.goes c.args.pid c.args.range c.loop-i.i (is_owned_at c.args.space.now.regions c.args.range.first) all c.loop-i.invariant.given_up;
      passes = λ held from to among.
          range_passes g.G.PageStore.unpaged held from to c.args.pid c.args.range c.loop-i.i (g.G.PageStore.store c.args.g.now) (g.G.PageStore.store c.loop-i.g)
          (g.G.PageStore.behind c.args.g.now) (g.G.PageStore.behind c.loop-i.g) among all (c.loop-i.invariant.passes held among.each);
      loans = c.loop-i.invariant.loans;
    }
