use Rattle.mm_store.specs.{MakesFrom}
use Rattle.mm_store.proofs.{makes_then, makes_wider, turns_same}
use Rattle.std.proofs.Common.{◌≡◌, ℕ, ◌+◌, ◌<◌, ◌∙◌, refl, sym, ap, subst, arith}
use Rattle.mm_types.specs.{Range}
use Rattle.mm_object_tables.specs.{CanAdd, Adds, first_pages, one_page_range, KnownAt}
use Rattle.mm_object_tables.proofs.{known_at, adds_nothing, can_add_next, adds_then}
use Rattle.mm_object_tables.proofs.keys.add_pages.Goals as goal

pub loop-i-init : goal.loop-i-init
loop-i-init g c = record {
  adds = adds_nothing c.args.pid c.args.range (g.G.PageStore.contents c.args.g.now) (g.G.PageStore.store c.args.g.now);
  passes = turns_same g.G.PageStore.unpaged (MakesFrom c.args.range.first (c.args.range.first + 0)) (g.G.PageStore.store c.args.g.now) (g.G.PageStore.behind c.args.g.now);
  loans = refl;
}

pub add_page-requires : goal.add_page-requires
add_page-requires g c =
    let first : c.range.inside.first ≡ c.args.range.first = ap (λ (r : Range). r.first) c.range.view_is in
    let few : c.loop-i.i < c.args.range.count = omega (arith, c.loop-i-test.true, ap (λ (r : Range). r.count) c.range.view_is) in
    record {
      known = subst (λ (k : ℕ). KnownAt c.args.known c.args.space.now.regions (k + c.loop-i.i)) (sym first) (known_at c.args.known c.args.space.now.regions c.args.range c.loop-i.i c.requires.known few);
      can = subst (λ (k : ℕ). CanAdd c.args.pid (one_page_range (k + c.loop-i.i)) c.args.space.now.regions (g.G.PageStore.contents c.loop-i.g) (g.G.PageStore.store c.loop-i.g)) (sym first)
          (can_add_next c.args.pid c.args.range c.loop-i.i c.args.space.now.regions (g.G.PageStore.contents c.args.g.now) (g.G.PageStore.contents c.loop-i.g) (g.G.PageStore.store c.args.g.now) (g.G.PageStore.store c.loop-i.g) c.requires.can few c.loop-i.invariant.adds);
    }

pub loop-i-preserved : goal.loop-i-preserved
loop-i-preserved g c =
    let first : c.range.inside.first ≡ c.args.range.first = ap (λ (r : Range). r.first) c.range.view_is in
    record {
      adds = adds_then c.args.pid c.args.range c.loop-i.i (g.G.PageStore.contents c.args.g.now) (g.G.PageStore.contents c.loop-i.g) (g.G.PageStore.contents c.add_page.new.g)
          (g.G.PageStore.store c.args.g.now) (g.G.PageStore.store c.loop-i.g) (g.G.PageStore.store c.add_page.new.g) c.loop-i.invariant.adds
          (subst (λ (k : ℕ). Adds c.args.pid (one_page_range (k + c.loop-i.i)) (g.G.PageStore.contents c.loop-i.g) (g.G.PageStore.contents c.add_page.new.g) (g.G.PageStore.store c.loop-i.g) (g.G.PageStore.store c.add_page.new.g)) first c.add_page.ensures.adds);
      passes = makes_then g.G.PageStore.unpaged c.args.range.first (c.args.range.first + c.loop-i.i) (c.args.range.first + (c.loop-i.i + 1)) (g.G.PageStore.store c.args.g.now) (g.G.PageStore.store c.loop-i.g) (g.G.PageStore.store c.add_page.new.g)
          (g.G.PageStore.behind c.args.g.now) (g.G.PageStore.behind c.loop-i.g) (g.G.PageStore.behind c.add_page.new.g) (omega arith) (omega arith) c.loop-i.invariant.passes
          (c.add_page.ensures.passes (c.args.range.first + c.loop-i.i) (c.args.range.first + (c.loop-i.i + 1)) (omega (arith, first), omega (arith, first)));
      loans = c.add_page.ensures.loans ∙ c.loop-i.invariant.loans;
    }

pub returns : goal.returns
returns g c =
    let whole : c.range.inside.count ≡ c.args.range.count = ap (λ (r : Range). r.count) c.range.view_is in
    let count : c.loop-i.i ≡ c.args.range.count = omega (arith, c.loop-i-test.false, c.loop-i.auto.i-end, whole) in
    record {
      adds = subst (λ (k : ℕ). Adds c.args.pid (first_pages c.args.range k) (g.G.PageStore.contents c.args.g.now) (g.G.PageStore.contents c.loop-i.g) (g.G.PageStore.store c.args.g.now) (g.G.PageStore.store c.loop-i.g)) count c.loop-i.invariant.adds;
      passes = λ from to stands.
          makes_wider g.G.PageStore.unpaged c.args.range.first (c.args.range.first + c.loop-i.i) from to (g.G.PageStore.store c.args.g.now) (g.G.PageStore.store c.loop-i.g)
          (g.G.PageStore.behind c.args.g.now) (g.G.PageStore.behind c.loop-i.g) stands.0 (omega (arith, stands.1, count)) c.loop-i.invariant.passes;
      loans = c.loop-i.invariant.loans;
    }
