use Rattle.std.proofs.Common.{◌≡◌, ◌∙◌, ◌+◌, ◌<◌, ◌^◌, ℕ, subst, arith}
use Rattle.mm_object_tables.specs.{Come, is_page_of}
use Rattle.mm_store.proofs.{makes_then, makes_wider}
use Rattle.mm_object_tables.proofs.{fills_then, next_dead, next_room, next_kind, next_area}
use Rattle.mm_object_tables.proofs.sections.fill_area.Goals as goal

pub add-requires : goal.add-requires
add-requires g c =
    let few : c.loop-i.i < c.args.n = omega (arith, c.loop-i-test.true) in
    record {
      dead = next_dead c.requires.can few c.loop-i.invariant.fills;
      home = (c.requires.can.pages, (next_area c.requires.can few c.loop-i.invariant.fills, omega (arith, few, c.requires.can.within)));
      room = next_room c.requires.can few c.loop-i.invariant.fills;
      kind = next_kind c.requires.can few c.loop-i.invariant.fills;
    }

pub loop-i-preserved : goal.loop-i-preserved
loop-i-preserved g c =
    record {
      fills = fills_then c.args.area c.loop-i.i (g.G.PageStore.contents c.args.g.now) (g.G.PageStore.contents c.loop-i.g) (g.G.PageStore.contents c.add.new.self) (g.G.PageStore.store c.args.g.now) (g.G.PageStore.store c.loop-i.g) (g.G.PageStore.store c.add.new.self) (next_dead c.requires.can (omega (arith, c.loop-i-test.true)) c.loop-i.invariant.fills) c.loop-i.invariant.fills c.add.ensures.contents c.add.ensures.store;
      passes = makes_then g.G.PageStore.unpaged 0 c.loop-i.i (c.loop-i.i + 1) (g.G.PageStore.store c.args.g.now) (g.G.PageStore.store c.loop-i.g) (g.G.PageStore.store c.add.new.self)
          (g.G.PageStore.behind c.args.g.now) (g.G.PageStore.behind c.loop-i.g) (g.G.PageStore.behind c.add.new.self) (omega arith) (omega arith) c.loop-i.invariant.passes
          (c.add.ensures.passes c.loop-i.i (c.loop-i.i + 1) (omega arith) (omega arith));
      loans = c.add.ensures.loans ∙ c.loop-i.invariant.loans;
    }

pub returns-clause-passes : goal.returns-clause-passes
returns-clause-passes g c =
    makes_wider g.G.PageStore.unpaged 0 c.loop-i.i 0 (2 ^ 32) (g.G.PageStore.store c.args.g.now) (g.G.PageStore.store c.loop-i.g)
    (g.G.PageStore.behind c.args.g.now) (g.G.PageStore.behind c.loop-i.g) (omega arith) (omega (arith, c.ranges.n.fits, c.loop-i.auto.i-end)) c.loop-i.invariant.passes

pub returns-clause-fills : goal.returns-clause-fills
returns-clause-fills g c =
    let count : c.loop-i.i ≡ c.args.n = omega (arith, c.loop-i-test.false, c.loop-i.auto.i-end) in
    subst (λ (k : ℕ). Come (is_page_of c.args.area k) k (g.G.PageStore.contents c.args.g.now) (g.G.PageStore.contents c.loop-i.g) (g.G.PageStore.store c.args.g.now) (g.G.PageStore.store c.loop-i.g)) count c.loop-i.invariant.fills
